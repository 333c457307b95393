-- SCOPE 14: caps. One contains by `lte` and meets another by `gte`. The bounding cap's centre is of the opened list summed in the order given, before any
-- reversal; its growth and the threshold of a quarter circle are recorded bit for bit (docs/CONSTANTS.md). Definitions only.
use Rattle.std.specs.Prelude.{ℕ, Bool, false, ◌||◌, List, Float, if◌then◌else◌}
use Rattle.std.specs.Float.{binary64}
use Rattle.std.specs.Float.Ieee.{of_bits, le, eq}
use Rattle.numbers.specs.F64.{zero, minus_one}
use Rattle.numbers.specs.Near.{near, at_most, at_least}
use Rattle.laws.specs.Loop.{iterate}
use Rattle.vec3.specs.declared.Vec3.{Vec3}
use Rattle.vec3.specs.Vec.{origin, axis_z, plus, dot, unit, pos_at}
use Rattle.chord_length.specs.declared.ChordLength.{ChordLength}
use Rattle.chord_length.specs.Chords.{squared, negative, most, chord, sum, later_max}
use Rattle.cap.specs.declared.Cap.{Cap}

abbrev pub growth : ChordLength
growth = squared (of_bits binary64 0x3c4c_1893_51c5_afa7)

abbrev pub quarter_circle : Float
quarter_circle = of_bits binary64 0x4000_0000_0000_0000

abbrev pub empty_one : Cap
empty_one = record { centre = axis_z; radius = negative }

abbrev pub full_one : Cap
full_one = record { centre = axis_z; radius = most }

abbrev pub contains : Cap → Vec3 → Bool
contains c p = at_most (chord c.centre p).0 c.radius.0

abbrev pub empty_cap : Cap → Bool
empty_cap c = eq c.radius.0 minus_one

unfoldable pub intersects : Cap → Cap → Bool
intersects c d =
    if empty_cap c || empty_cap d then false else
    at_least (sum c.radius d.radius).0 (chord c.centre d.centre).0

-- the first n positions summed in order
abbrev pub plus_next : List Float → ℕ → Vec3 → Vec3
plus_next l i s = plus s (pos_at l i)

abbrev pub sum_of : List Float → ℕ → Vec3
sum_of l n = iterate (plus_next l) n 0 origin

-- the largest chord to one of them: of equal ones the later
abbrev pub farther : List Float → Vec3 → ℕ → ChordLength → ChordLength
farther l centre i most = later_max most (chord centre (pos_at l i))

abbrev pub farthest_of : List Float → ℕ → Vec3 → ChordLength
farthest_of l n centre = iterate (farther l centre) n 0 negative

unfoldable pub grown : Vec3 → ChordLength → Cap
grown centre radius =
    let r = sum radius growth in
    if le quarter_circle r.0 then full_one else record { centre = centre; radius = r }

unfoldable pub bounding_cap : List Float → ℕ → Cap
bounding_cap l n =
    let s = sum_of l n in
    if near (dot s s) zero then full_one else grown (unit s) (farthest_of l n (unit s))
