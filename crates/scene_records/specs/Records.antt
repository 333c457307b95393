-- SCOPE 28, 52: the records of a scene, each the length of its body (u32), its kind (u16) and the body, little-endian. SCOPE 46: the numbers of their faults, and
-- the fields at which these stand. Definitions only.
use Rattle.std.specs.Prelude.{ℕ, ◌+◌, ◌*◌, ◌/◌, ◌%◌, Bool, true, false, cond, List, length, ltb, leb, eqb, Float}
use Rattle.wire.specs.Wire as W
use Rattle.scene_records.specs.declared.Fault.{Fault}
use Rattle.scene_records.specs.declared.Fault.TheVariants.{CutShort, UnknownKind, WrongLength, NoNumber, Repeated, NotMet, ManyAreas, ManyPositions}
use Rattle.scene_records.specs.declared.Read.{Read}
use Rattle.scene_records.specs.declared.Read.TheVariants.{End, Bad, Area, Place, Pair}

abbrev pub u16_of : List ℕ → ℕ → ℕ
u16_of = W.u16_of

abbrev pub u32_of : List ℕ → ℕ → ℕ
u32_of = W.u32_of

-- SCOPE 46: the number of each fault
abbrev pub fault_number : Fault → ℕ
fault_number CutShort = 20
fault_number UnknownKind = 21
fault_number WrongLength = 22
fault_number NoNumber = 23
fault_number Repeated = 24
fault_number NotMet = 25
fault_number ManyAreas = 26
fault_number ManyPositions = 27

-- SCOPE 46: the offsets of a record's fields: its length, its kind, its body, and the area number at an index among its numbers
abbrev pub length_field : ℕ → ℕ
length_field at = at

abbrev pub kind_field : ℕ → ℕ
kind_field at = at + 4

abbrev pub body_field : ℕ → ℕ
body_field at = at + 6

abbrev pub number_field : ℕ → ℕ → ℕ
number_field at index = at + 6 + 2 * index

-- kind 1: two bytes, and 24 for each position; none is an area too
unfoldable pub area_at : List ℕ → ℕ → ℕ → Read
area_at s at len = cond (eqb (len % 24) 2) (Area (u16_of s (at + 6)) (len / 24)) (Bad WrongLength (length_field at))

-- kinds 2 and 4: two bytes and a position, where it lies or how far it is (SCOPE 52)
unfoldable pub place_at : Bool → List ℕ → ℕ → ℕ → Read
place_at far s at len = cond (eqb len 26) (Place (u16_of s (at + 6)) far) (Bad WrongLength (length_field at))

-- kind 3: two numbers
unfoldable pub pair_at : List ℕ → ℕ → ℕ → Read
pair_at s at len = cond (eqb len 4) (Pair (u16_of s (at + 6)) (u16_of s (at + 8))) (Bad WrongLength (length_field at))

unfoldable pub kind_at : List ℕ → ℕ → ℕ → Read
kind_at s at len =
    cond (eqb (u16_of s (at + 4)) 1) (area_at s at len)
    (cond (eqb (u16_of s (at + 4)) 2) (place_at false s at len)
    (cond (eqb (u16_of s (at + 4)) 3) (pair_at s at len)
    (cond (eqb (u16_of s (at + 4)) 4) (place_at true s at len) (Bad UnknownKind (kind_field at)))))

-- what stands at an offset. SCOPE 46: the field of a record that is cut short is the input's end
unfoldable pub read_at : List ℕ → ℕ → Read
read_at s at =
    cond (leb (length s) at) End
    (cond (ltb (length s) (at + 6)) (Bad CutShort (length s))
    (cond (ltb (length s) (at + 6 + u32_of s at)) (Bad CutShort (length s)) (kind_at s at (u32_of s at))))

-- how many bytes a record has
abbrev pub size_of : Read → ℕ
size_of End = 0
size_of (Bad fault field) = 0
size_of (Area number count) = 8 + 24 * count
size_of (Place number far) = 32
size_of (Pair first second) = 10

-- the floats of n positions from an offset on
abbrev pub floats_at : List ℕ → ℕ → ℕ → List Float
floats_at s at n = W.floats_at s at (3 * n)
