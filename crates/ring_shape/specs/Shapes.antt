-- SCOPE 23, 55: the shape of a ring: convex, simple, and the same as another. Definitions only.
use Rattle.std.specs.Prelude.{ℕ, ◌+◌, ◌-◌, ◌%◌, Bool, true, false, not, ◌&&◌, ◌||◌, List, is_some, eqb, leb, get_or, Float, if◌then◌else◌}
use Rattle.laws.specs.Loop.{any_of}
use Rattle.vec3.specs.Vec.{same, antipodes, pos_at}
use Rattle.base.specs.declared.Side.{Side}
use Rattle.base.specs.declared.Side.TheVariants.{Left, Right, Collinear}
use Rattle.base.specs.Sides.{side_of}
use Rattle.minor_arc.specs.declared.Mode.{Mode}
use Rattle.minor_arc.specs.Arcs.{meeting_of, meeting_point}
use Rattle.ring_edges.specs.Edges.{edge_at}

-- p holds at each of 0, .., n - 1
abbrev pub all_of : (ℕ → Bool) → ℕ → Bool
all_of p n = not (any_of (λ i. not (p i)) n 0)

-- ---- `is_convex`

-- a side is left, for true, or right, for false
abbrev pub is_to : Bool → Side → Bool
is_to left Left = left
is_to left Right = not left
is_to left Collinear = false

-- the side at corner i, by the corners before and after it, counted round
unfoldable pub side_at : List Float → ℕ → ℕ → Side
side_at ps n i = side_of (pos_at ps ((i + n - 1) % n)) (pos_at ps i) (pos_at ps ((i + 1) % n))

abbrev pub turns_to : Bool → List Float → ℕ → ℕ → Bool
turns_to left ps n i = is_to left (side_at ps n i)

unfoldable pub any_side : Bool → List Float → ℕ → Bool
any_side left ps n = any_of (turns_to left ps n) n 0

-- up to three corners, or not both a left and a right among the sides
unfoldable pub convex : List Float → ℕ → Bool
convex ps n = leb n 3 || not (any_side true ps n && any_side false ps n)

-- ---- `is_simple`

-- the corner and the next, counted round, are equal or antipodes
unfoldable pub no_circle : List Float → ℕ → ℕ → Bool
no_circle ps n i = same (pos_at ps i) (pos_at ps ((i + 1) % n)) || antipodes (pos_at ps i) (pos_at ps ((i + 1) % n))

unfoldable pub any_without_circle : List Float → ℕ → Bool
any_without_circle ps n = any_of (no_circle ps n) n 0

-- SCOPE 55: the edges are arcs of the loop's mode
unfoldable pub edges_meet : Mode → List Float → List Float → ℕ → ℕ → ℕ → Bool
edges_meet mode ps ns n i j = is_some (meeting_point (meeting_of mode (edge_at ps ns n i) (edge_at ps ns n j)))

-- the edges after the next up to the last, which of the first edge is the one before the last: that one is contiguous with it
unfoldable pub end_of : ℕ → ℕ → ℕ
end_of n i = if eqb i 0 then n - 1 else n

unfoldable pub meets_later : Mode → List Float → List Float → ℕ → ℕ → Bool
meets_later mode ps ns n i = any_of (edges_meet mode ps ns n i) (end_of n i - (i + 2)) (i + 2)

unfoldable pub any_meets_later : Mode → List Float → List Float → ℕ → Bool
any_meets_later mode ps ns n = any_of (meets_later mode ps ns n) (n - 1) 0

-- each two neighbours have one great circle, and no two edges that are not contiguous meet
unfoldable pub simple : Mode → List Float → List Float → ℕ → Bool
simple mode ps ns n = not (any_without_circle ps n) && (leb n 3 || not (any_meets_later mode ps ns n))

-- ---- `is_equivalent`, of two rings of n corners

-- corner i of one and corner j of the other: position and class
unfoldable pub agree : List Float → List ℕ → List Float → List ℕ → ℕ → ℕ → Bool
agree ps cs os ds i j = same (pos_at ps i) (pos_at os j) && eqb (get_or cs i 0) (get_or ds j 0)

-- the other ring's corner that stands beside corner i, forward from the offset or backward
unfoldable pub beside : Bool → ℕ → ℕ → ℕ → ℕ
beside back n offset i = if back then (n + offset - i) % n else (i + offset) % n

abbrev pub agree_at : Bool → List Float → List ℕ → List Float → List ℕ → ℕ → ℕ → ℕ → Bool
agree_at back ps cs os ds n offset i = agree ps cs os ds i (beside back n offset i)

unfoldable pub all_agree : Bool → List Float → List ℕ → List Float → List ℕ → ℕ → ℕ → Bool
all_agree back ps cs os ds n offset = all_of (agree_at back ps cs os ds n offset) n

abbrev pub same_from : List Float → List ℕ → List Float → List ℕ → ℕ → ℕ → Bool
same_from ps cs os ds n offset = all_agree false ps cs os ds n offset || all_agree true ps cs os ds n offset

-- from some offset on all corners agree, forward or backward
unfoldable pub same_rings : List Float → List ℕ → List Float → List ℕ → ℕ → Bool
same_rings ps cs os ds n = any_of (same_from ps cs os ds n) n 0
