-- SCOPE 7, 8, 54: minor arcs, where a point of an arc's great circle lies, and where two arcs meet, by the mode. Definitions only.
use Rattle.std.specs.Prelude.{ℕ, Bool, true, false, Option, None, Some, ◌&&◌, ◌||◌, ltb, Float, if◌then◌else◌}
use Rattle.std.specs.Float.Ieee.{neg, lt}
use Rattle.numbers.specs.F64.{zero}
use Rattle.numbers.specs.Near.{near}
use Rattle.vec3.specs.declared.Vec3.{Vec3}
use Rattle.vec3.specs.Vec.{origin, same, dot, cross, opposite, stable_unit, orthogonal_to}
use Rattle.base.specs.declared.Side.{Side}
use Rattle.base.specs.declared.Side.TheVariants.{Left, Right, Collinear}
use Rattle.base.specs.Sides.{side_of, settles_right, settles_left}
use Rattle.minor_arc.specs.declared.MinorArc.{MinorArc}
use Rattle.minor_arc.specs.declared.Location.{Location}
use Rattle.minor_arc.specs.declared.Location.TheVariants.{Endpoint, Interior, Exterior}
use Rattle.minor_arc.specs.declared.Meeting.{Meeting}
use Rattle.minor_arc.specs.declared.Meeting.TheVariants as M
use Rattle.minor_arc.specs.declared.Mode.{Mode}
use Rattle.minor_arc.specs.declared.Mode.TheVariants.{Plain, Long}

-- SCOPE 54: the number of each mode
abbrev pub mode_code : Mode → ℕ
mode_code Plain = 0
mode_code Long = 1

abbrev pub arc_of : Vec3 → Vec3 → MinorArc
arc_of a b = record { start = a; end = b; normal = orthogonal_to a b }

abbrev pub reversed : MinorArc → MinorArc
reversed a = record { start = a.end; end = a.start; normal = opposite a.normal }

-- SCOPE 7: by the sign of the product with the normal; a NaN product is left
unfoldable pub arc_side : MinorArc → Vec3 → Side
arc_side a p =
    let d = dot p a.normal in
    if near d zero then Collinear else if lt d zero then Right else Left

-- SCOPE 7: by the sides of a point against (normal, start) and (normal, end)
abbrev pub located : Side → Side → Location
located Right e = Exterior
located Left Left = Exterior
located Left Right = Interior
located Left Collinear = Endpoint
located Collinear Left = Exterior
located Collinear Right = Endpoint
located Collinear Collinear = Endpoint

unfoldable pub location_of : MinorArc → Vec3 → Location
location_of a v = located (side_of v a.normal a.start) (side_of v a.normal a.end)

abbrev pub within : Location → Bool
within Endpoint = true
within Interior = true
within Exterior = false

abbrev pub interior : Location → Bool
interior Endpoint = false
interior Interior = true
interior Exterior = false

unfoldable pub on_arc : MinorArc → Vec3 → Bool
on_arc a p = near (dot p a.normal) zero && within (location_of a p)

-- SCOPE 8: of a point and its opposite the one on the side of this arc's start, in plain mode the only candidate
unfoldable pub nearer : Vec3 → Vec3 → Vec3
nearer s i = if lt zero (dot s i) then i else opposite i

-- a point's products with the normal and each end, s and e, settle alone that it is beyond an end of the arc
abbrev pub beyond : Float → Float → Bool
beyond s e = settles_right s || settles_left e

-- SCOPE 54: in long mode the opposite point has to be beyond an end too; its products are the negated ones
abbrev pub beyond_by : Mode → Float → Float → Bool
beyond_by Plain s e = beyond s e
beyond_by Long s e = beyond s e && beyond (neg s) (neg e)

-- p, and in long mode its opposite too, is beyond an end of the arc for sure
abbrev pub beyond_at : Mode → MinorArc → Vec3 → Bool
beyond_at mode a p = beyond_by mode (dot p (cross a.normal a.start)) (dot p (cross a.normal a.end))

-- each point that the mode tries is beyond an end of the first arc for sure, or of the second
unfoldable pub missed : Mode → MinorArc → Vec3 → Bool
missed mode a i = beyond_at mode a (nearer a.start i)

unfoldable pub missed_other : Mode → MinorArc → MinorArc → Vec3 → Bool
missed_other mode a b i = beyond_at mode b (nearer a.start i)

-- what two arcs have in p, by where it lies on each
abbrev pub meet_at : Vec3 → Location → Location → Meeting
meet_at p Exterior b = M.Apart
meet_at p Endpoint Exterior = M.Apart
meet_at p Endpoint Endpoint = M.Touching p
meet_at p Endpoint Interior = M.Touching p
meet_at p Interior Exterior = M.Apart
meet_at p Interior Endpoint = M.Touching p
meet_at p Interior Interior = M.Crossing p

unfoldable pub meeting_in : MinorArc → MinorArc → Vec3 → Meeting
meeting_in a b p = meet_at p (location_of a p) (location_of b p)

-- SCOPE 54: an interior meeting outranks a touch, and of two equal kinds the first point is reported
abbrev pub rank : Meeting → ℕ
rank M.Apart = 0
rank M.Collinear = 0
rank (M.Touching p) = 1
rank (M.Crossing p) = 2

unfoldable pub better : Meeting → Meeting → Meeting
better m n = if ltb (rank m) (rank n) then n else m

-- SCOPE 54: plain by p alone, long by p and its opposite
abbrev pub tried : Mode → MinorArc → MinorArc → Vec3 → Meeting
tried Plain a b p = meeting_in a b p
tried Long a b p = better (meeting_in a b p) (meeting_in a b (opposite p))

-- SCOPE 8, 54: by the points that the mode tries, unless the unit vector of the normals' product is exactly zero: then the arcs are collinear
unfoldable pub meeting_of : Mode → MinorArc → MinorArc → Meeting
meeting_of mode a b =
    let i = stable_unit a.normal b.normal in
    if same i origin then M.Collinear else tried mode a b (nearer a.start i)

-- SCOPE 8: what `intersection` makes of it, none for collinear arcs
abbrev pub meeting_point : Meeting → Option Vec3
meeting_point M.Apart = None
meeting_point M.Collinear = None
meeting_point (M.Crossing p) = Some p
meeting_point (M.Touching p) = Some p
