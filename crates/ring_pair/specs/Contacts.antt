-- SCOPE 24, 55: how the edges of two rings stand to each other. Definitions only.
use Rattle.std.specs.Prelude.{ℕ, ◌-◌, Bool, true, false, List, Float}
use Rattle.laws.specs.Loop.{any_of}
use Rattle.minor_arc.specs.declared.MinorArc.{MinorArc}
use Rattle.minor_arc.specs.declared.Mode.{Mode}
use Rattle.arc_relations.specs.declared.MinorArcRelation.{MinorArcRelation}
use Rattle.arc_relations.specs.declared.MinorArcRelation.TheVariants.{Disjoint, Intersecting, Touching, Overlapping}
use Rattle.arc_relations.specs.Relations.{relation_of}
use Rattle.ring_edges.specs.Edges.{edge_at}
use Rattle.ring_pair.specs.declared.Contact.{Contact}
use Rattle.ring_pair.specs.declared.Contact.TheVariants.{Apart, Touched, Crossed}

abbrev pub is_crossing : MinorArcRelation → Bool
is_crossing Disjoint = false
is_crossing (Intersecting p) = true
is_crossing (Touching p) = false
is_crossing (Overlapping a) = false

abbrev pub is_touch : MinorArcRelation → Bool
is_touch Disjoint = false
is_touch (Intersecting p) = false
is_touch (Touching p) = true
is_touch (Overlapping a) = true

-- a crossing outweighs a touch
abbrev pub graded : Bool → Bool → Contact
graded true touch = Crossed
graded false true = Touched
graded false false = Apart

abbrev pub is_crossed : Contact → Bool
is_crossed Apart = false
is_crossed Touched = false
is_crossed Crossed = true

abbrev pub is_touched : Contact → Bool
is_touched Apart = false
is_touched Touched = true
is_touched Crossed = false

-- edge j of the other ring, os and om of m corners, against an arc; SCOPE 55: both are arcs of the loops' mode
abbrev pub crosses : Mode → MinorArc → List Float → List Float → ℕ → ℕ → Bool
crosses mode a os om m j = is_crossing (relation_of mode a (edge_at os om m j))

abbrev pub touches : Mode → MinorArc → List Float → List Float → ℕ → ℕ → Bool
touches mode a os om m j = is_touch (relation_of mode a (edge_at os om m j))

-- some edge of it
unfoldable pub any_crosses : Mode → MinorArc → List Float → List Float → ℕ → Bool
any_crosses mode a os om m = any_of (crosses mode a os om m) m 0

unfoldable pub any_touches : Mode → MinorArc → List Float → List Float → ℕ → Bool
any_touches mode a os om m = any_of (touches mode a os om m) m 0

abbrev pub arc_contact : Mode → MinorArc → List Float → List Float → ℕ → Contact
arc_contact mode a os om m = graded (any_crosses mode a os om m) (any_touches mode a os om m)

-- the same for its edges from `from` up to `to` alone
abbrev pub part_contact : Mode → MinorArc → List Float → List Float → ℕ → ℕ → ℕ → Contact
part_contact mode a os om m from to = graded (any_of (crosses mode a os om m) (to - from) from) (any_of (touches mode a os om m) (to - from) from)

-- edge i of a ring against all edges of the other
abbrev pub edge_crosses : Mode → List Float → List Float → ℕ → List Float → List Float → ℕ → ℕ → Bool
edge_crosses mode ps ns n os om m i = any_crosses mode (edge_at ps ns n i) os om m

abbrev pub edge_touches : Mode → List Float → List Float → ℕ → List Float → List Float → ℕ → ℕ → Bool
edge_touches mode ps ns n os om m i = any_touches mode (edge_at ps ns n i) os om m

-- crossed where some edge crosses some edge, else touched where some touches or overlaps some, else apart
unfoldable pub contact_of : Mode → List Float → List Float → ℕ → List Float → List Float → ℕ → Contact
contact_of mode ps ns n os om m = graded (any_of (edge_crosses mode ps ns n os om m) n 0) (any_of (edge_touches mode ps ns n os om m) n 0)
