-- SCOPE 21, 22, 55: whether a place is inside a ring, by the crossings of an arc from an inside, or, for three corners, by the edges' sides. Definitions only.
use Rattle.std.specs.Prelude.{ℕ, ◌-◌, Bool, true, false, not, ◌&&◌, ◌||◌, List, Option, None, Some, eqb, Float, if◌then◌else◌}
use Rattle.std.specs.Float.Ieee.{neg, lt}
use Rattle.numbers.specs.F64.{epsilon}
use Rattle.numbers.specs.F64 as F
use Rattle.numbers.specs.Near.{near}
use Rattle.laws.specs.Loop.{iterate}
use Rattle.vec3.specs.declared.Vec3.{Vec3}
use Rattle.vec3.specs.Vec.{origin, same, dot, antipodes, pos_at}
use Rattle.cap.specs.declared.Cap.{Cap}
use Rattle.cap.specs.Caps.{contains}
use Rattle.minor_arc.specs.declared.MinorArc.{MinorArc}
use Rattle.minor_arc.specs.declared.Mode.{Mode}
use Rattle.minor_arc.specs.declared.Mode.TheVariants.{Plain, Long}
use Rattle.minor_arc.specs.Arcs.{arc_of, meeting_of, meeting_point}
use Rattle.ring_place.specs.declared.Crossings.{Crossings}
use Rattle.ring_edges.specs.Edges.{edge_at, has_vertex}

-- each component within 2^-52
abbrev pub near_by : Vec3 → Vec3 → Bool
near_by u v = near u.x v.x && near u.y v.y && near u.z v.z

-- one crossing more, unless it repeats one that is counted
abbrev pub counted : Bool → Bool → Bool
counted true even = even
counted false even = not even

abbrev pub tally : Bool → Vec3 → Vec3 → Crossings
tally even first previous = record { even = even; first = first; previous = previous }

abbrev pub start : Crossings
start = tally true origin origin

-- SCOPE 22: the first edge's point is remembered for the last edge alone, and is no previous point for the second
unfoldable pub met_at : ℕ → ℕ → Vec3 → Crossings → Crossings
met_at n i p s =
    if eqb i 0 then tally (not s.even) p s.previous
    else if eqb i (n - 1) then tally (counted (near_by s.first p || near_by s.previous p) s.even) s.first s.previous
    else tally (counted (near_by s.previous p) s.even) s.first p

-- where edge i is not met, the previous point is forgotten
abbrev pub passed : ℕ → ℕ → Option Vec3 → Crossings → Crossings
passed n i None s = tally s.even s.first origin
passed n i (Some p) s = met_at n i p s

-- SCOPE 55: the arc and the edges are arcs of the loop's mode
abbrev pub pass : Mode → MinorArc → List Float → List Float → ℕ → ℕ → Crossings → Crossings
pass mode arc ps ns n i s = passed n i (meeting_point (meeting_of mode arc (edge_at ps ns n i))) s

-- whether the arc crosses the ring's n edges an even number of times
unfoldable pub crossed_evenly : Mode → MinorArc → List Float → List Float → ℕ → Bool
crossed_evenly mode arc ps ns n = (iterate (pass mode arc ps ns n) n 0 start).even

-- the inside that the arc starts from: the second where the first is exactly opposite p
unfoldable pub from : Vec3 → Vec3 → Vec3 → Vec3
from a b p = if antipodes a p then b else a

-- SCOPE 21, 55: the cap is asked in plain mode alone, as a long side may leave it
abbrev pub admits : Mode → Cap → Vec3 → Bool
admits Plain cap p = contains cap p
admits Long cap p = true

-- SCOPE 21: inside by a cap, two insides a and b, and an even number of crossings
unfoldable pub inside_by : Mode → Cap → Vec3 → Vec3 → List Float → List Float → ℕ → Vec3 → Bool
inside_by mode cap a b ps ns n p = admits mode cap p && (same p a || same p b || crossed_evenly mode (arc_of (from a b p) p) ps ns n)

-- a ring is clockwise, so inside is on the right of each edge, by more than 2^-52
abbrev pub depth : List Float → ℕ → Vec3 → Float
depth ns i p = neg (dot p (pos_at ns i))

abbrev pub within : List Float → ℕ → Vec3 → Bool
within ns i p = lt epsilon (depth ns i p)

-- SCOPE 21, three corners: no corner, and right of each edge
unfoldable pub in_triangle : List Float → List Float → Vec3 → Bool
in_triangle ps ns p = not (has_vertex ps 3 p) && within ns 0 p && within ns 1 p && within ns 2 p

-- the same as the source nests its tests, for the theorem `nest_is`
unfoldable pub sides : Float → Float → Float → Bool
sides s t u =
    if near s F.zero && lt F.zero t && lt F.zero u then false
    else if near t F.zero && lt F.zero s && lt F.zero u then false
    else if near u F.zero && lt F.zero s && lt F.zero t then false
    else lt F.zero s && lt F.zero t && lt F.zero u

unfoldable pub nest : List Float → List Float → Vec3 → Bool
nest ps ns p =
    if same p (pos_at ps 0) || same p (pos_at ps 1) || same p (pos_at ps 2) then false
    else sides (depth ns 0 p) (depth ns 1 p) (depth ns 2 p)
