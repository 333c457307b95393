-- The test probes over the leaves. Their operands are three vectors a, b, c of raw floats; an operation's number is its index in a table. Definitions only.
use Rattle.std.specs.Prelude.{ℕ, ◌/◌, ◌%◌, Bool, true, false, List, [], ◌∷◌, is_some, unwrap_or, length, get_or, eqb, leb, ltb, Float, if◌then◌else◌}
use Rattle.std.proofs.lemmas.List.Edits.{sets}
use Rattle.std.specs.Float.{nan, binary64}
use Rattle.std.specs.Float.Ieee.{to_bits}
use Rattle.numbers.specs.F64.{zero}
use Rattle.numbers.specs.Near.{near, at_most, at_least}
use Rattle.root.specs.Root.{root_of}
use Rattle.vec3.specs.declared.Vec3.{Vec3}
use Rattle.vec3.specs.Vec.{vec, unit_vec, unit, cross, cross_unit, stable_unit, orthogonal, orthogonal_to, plus, minus, opposite, times, origin, dot, same, antipodes, raw_at, coords}
use Rattle.vec3.specs.Points.{triangle_mean, midpoint}
use Rattle.base.specs.declared.Side.{Side}
use Rattle.base.specs.Sides.{side_code, side_of}
use Rattle.base.specs.Turns.{sine_of, turning_angle}
use Rattle.chord_length.specs.Chords.{squared, chord, sum}
use Rattle.cap.specs.declared.Cap.{Cap}
use Rattle.cap.specs.Caps.{contains, intersects, bounding_cap}
use Rattle.bytes_loop.specs.Outcome as L

-- ---- vectors
abbrev pub vectors : Vec3 → Vec3 → Vec3 → List Vec3
vectors a b c =
    vec a.x a.y a.z ∷
    unit_vec a.x a.y a.z ∷
    unit a ∷
    cross a b ∷
    cross_unit a b ∷
    stable_unit a b ∷
    orthogonal a ∷
    orthogonal_to a b ∷
    plus a b ∷
    minus a b ∷
    opposite a ∷
    times a b.x ∷
    unwrap_or (triangle_mean a b c) origin ∷
    unwrap_or (midpoint a b) origin ∷ []

unfoldable pub vector_of : ℕ → Vec3 → Vec3 → Vec3 → Vec3
vector_of op a b c = get_or (vectors a b c) op origin

-- ---- numbers
abbrev pub numbers : Vec3 → Vec3 → Vec3 → List Float
numbers a b c =
    dot a b ∷
    dot a a ∷
    root_of (dot a a) ∷
    (chord a b).0 ∷
    (sum (squared a.x) (squared a.y)).0 ∷
    sine_of a b c ∷
    dot a b ∷
    (turning_angle a b c).0 ∷ []

unfoldable pub number_of : ℕ → Vec3 → Vec3 → Vec3 → Float
number_of op a b c = get_or (numbers a b c) op nan

-- ---- cases
abbrev pub yes : Bool → ℕ
yes false = 0
yes true = 1

abbrev pub side_no : Side → ℕ
side_no s = L.unsigned (side_code s)

abbrev pub cap_of : Vec3 → Float → Cap
cap_of v r = record { centre = v; radius = squared r }

abbrev pub cases : Vec3 → Vec3 → Vec3 → List ℕ
cases a b c =
    yes (near a.x a.y) ∷
    yes (near a.x zero) ∷
    yes (at_most a.x a.y) ∷
    yes (at_least a.x a.y) ∷
    yes (same a b) ∷
    yes (antipodes a b) ∷
    side_no (side_of a b c) ∷
    yes (contains (cap_of a b.x) c) ∷
    yes (intersects (cap_of a b.x) (cap_of c b.y)) ∷
    yes (is_some (triangle_mean a b c)) ∷ []

unfoldable pub case_of : ℕ → Vec3 → Vec3 → Vec3 → ℕ
case_of op a b c = get_or (cases a b c) op 0

-- ---- the probes
unfoldable pub leaf_vec : ℕ → List Float → List Float → L.Outcome Float
leaf_vec op l out =
    if ltb (length l) 9 then L.outcome 1 out else
    if leb 14 op then L.outcome 1 out else
    if ltb (length out) 3 then L.outcome 5 out else
    L.outcome 0 (sets out 0 (coords (vector_of op (raw_at l 0) (raw_at l 1) (raw_at l 2))))

unfoldable pub leaf_number : ℕ → List Float → ℕ
leaf_number op l =
    if ltb (length l) 9 then 0 else
    if leb 8 op then 0 else
    to_bits binary64 (number_of op (raw_at l 0) (raw_at l 1) (raw_at l 2))

unfoldable pub leaf_case : ℕ → List Float → ℕ
leaf_case op l =
    if ltb (length l) 9 then L.refusal_of 1 else
    if leb 10 op then L.refusal_of 1 else
    case_of op (raw_at l 0) (raw_at l 1) (raw_at l 2)

abbrev pub cap_floats : Cap → List Float
cap_floats c = c.centre.x ∷ c.centre.y ∷ c.centre.z ∷ c.radius.0 ∷ []

-- the bounding cap of a list in the order given
unfoldable pub leaf_cap : List Float → List Float → L.Outcome Float
leaf_cap l out =
    if eqb (length l % 3) 0
    then (if ltb (length out) 4 then L.outcome (L.refusal_of 5) out else L.outcome 0 (sets out 0 (cap_floats (bounding_cap l (length l / 3)))))
    else L.outcome (L.refusal_of 1) out
