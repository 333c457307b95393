-- SCOPE 4, 51: squared chords, at most 4, and their radians; -1 marks the empty cap. Definitions only.
use Rattle.std.specs.Prelude.{◌||◌, Float, if◌then◌else◌}
use Rattle.std.specs.Float.Ieee.{lt, le, eq}
use Rattle.numbers.specs.F64.{◌⊕◌, ◌⊖◌, ◌⊗◌, zero, quarter, one, two, four, minus_one}
use Rattle.root.specs.Root.{root_of}
use Rattle.angle.specs.declared.Angle.{Angle}
use Rattle.arcsine.specs.Arcsine.{radians}
use Rattle.vec3.specs.declared.Vec3.{Vec3}
use Rattle.vec3.specs.Vec.{dot, minus}
use Rattle.chord_length.specs.declared.ChordLength.{ChordLength}

abbrev pub squared : Float → ChordLength
squared x = record { 0 = x }

abbrev pub negative : ChordLength
negative = squared minus_one

abbrev pub most : ChordLength
most = squared four

-- at most 4; a NaN becomes 4
unfoldable pub from_squared_length : Float → ChordLength
from_squared_length x = if lt x four then squared x else most

abbrev pub chord : Vec3 → Vec3 → ChordLength
chord p q = from_squared_length (dot (minus p q) (minus p q))

-- with a = 2 sin A and b = 2 sin B, the square of 2 sin (A + B): x + y + 2 √(x y), for x = a² (1 - b²/4) and y = b² (1 - a²/4)
unfoldable pub joined : Float → Float → ChordLength
joined a b =
    let x = a ⊗ (one ⊖ quarter ⊗ b) in
    let y = b ⊗ (one ⊖ quarter ⊗ a) in
    from_squared_length (x ⊕ y ⊕ two ⊗ root_of (x ⊗ y))

-- a negative one gives the other, then a zero one gives the other, then 4 from 4 on
unfoldable pub sum : ChordLength → ChordLength → ChordLength
sum a b =
    if lt a.0 zero then b else
    (if lt b.0 zero then a else
    (if eq a.0 zero then b else
    (if eq b.0 zero then a else
    (if le four (a.0 ⊕ b.0) then most else joined a.0 b.0))))

-- the later of the two unless the earlier is larger
unfoldable pub later_max : ChordLength → ChordLength → ChordLength
later_max a b =
    let d = a.0 ⊖ b.0 in
    if eq d zero || lt d zero then b else a

-- the smaller of the two, the first where neither is
unfoldable pub least : ChordLength → ChordLength → ChordLength
least a b = if lt b.0 a.0 then b else a

-- SCOPE 51: its central angle. Radians are another type
abbrev pub to_angle : ChordLength → Angle
to_angle c = record { 0 = radians c.0 }
