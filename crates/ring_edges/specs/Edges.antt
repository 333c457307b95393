-- The edges of a ring of n corners, out of its positions and normals. Definitions only.
use Rattle.std.specs.Prelude.{ℕ, ◌+◌, ◌%◌, Bool, List, Float}
use Rattle.laws.specs.Loop.{any_of}
use Rattle.vec3.specs.declared.Vec3.{Vec3}
use Rattle.vec3.specs.Vec.{same, pos_at}
use Rattle.minor_arc.specs.declared.MinorArc.{MinorArc}
use Rattle.minor_arc.specs.Arcs.{on_arc}

-- from corner i to the next, counted round, with the normal numbered i
unfoldable pub edge_at : List Float → List Float → ℕ → ℕ → MinorArc
edge_at ps ns n i = record { start = pos_at ps i; end = pos_at ps ((i + 1) % n); normal = pos_at ns i }

-- SCOPE 23, `any_edge_contains_position`: some edge has p on it
abbrev pub edge_has : List Float → List Float → ℕ → Vec3 → ℕ → Bool
edge_has ps ns n p i = on_arc (edge_at ps ns n i) p

unfoldable pub on_edge : List Float → List Float → ℕ → Vec3 → Bool
on_edge ps ns n p = any_of (edge_has ps ns n p) n 0

-- SCOPE 23, `has_vertex`: some corner equals p
abbrev pub corner_is : List Float → Vec3 → ℕ → Bool
corner_is ps p i = same (pos_at ps i) p

unfoldable pub has_vertex : List Float → ℕ → Vec3 → Bool
has_vertex ps n p = any_of (corner_is ps p) n 0
