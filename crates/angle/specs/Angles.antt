-- Angles in radians, a type of their own (SCOPE 4). Definitions only.
use Rattle.std.specs.Prelude.{Bool, Float}
use Rattle.std.specs.Float.{binary64}
use Rattle.std.specs.Float.Ieee.{of_bits, lt}
use Rattle.numbers.specs.F64.{◌⊕◌, zero}
use Rattle.numbers.specs.Near.{abs}
use Rattle.angle.specs.declared.Angle.{Angle}
use Rattle.angle.specs.Arctan.{atan2}

abbrev pub between : Float → Float → Angle
between y x = record { 0 = atan2 y x }

abbrev pub plus : Angle → Angle → Angle
plus a b = record { 0 = a.0 ⊕ b.0 }

abbrev pub none : Angle
none = record { 0 = zero }

-- SCOPE 12: a turn sum below 0 keeps the list
abbrev pub clockwise : Angle → Bool
clockwise a = lt a.0 zero

-- SCOPE 6: weak is a turn sum below 2^-30 in size
abbrev pub weak : Angle → Bool
weak a = lt (abs a.0) (of_bits binary64 0x3e10_0000_0000_0000)
