-- SCOPE 51: the radians at the edges. Proved in proofs/Edges.antt, by computing. Definitions only.
use Rattle.std.specs.Prelude.{◌≡◌, true, false, Float}
use Rattle.std.specs.Float.{nan, inf, binary64}
use Rattle.std.specs.Float.Ieee.{of_bits, neg, lt}
use Rattle.numbers.specs.F64.{zero, four, minus_one}
use Rattle.angle.specs.Arctan.{PI}
use Rattle.arcsine.specs.Arcsine.{radians}

-- the doubles above 4, next to it and next to that
abbrev pub above_four : Float
above_four = of_bits binary64 0x4010_0000_0000_0001

abbrev pub second_above_four : Float
second_above_four = of_bits binary64 0x4010_0000_0000_0002

pub record Edges : Type 0 where
  -- a zero keeps its sign
  pub at_zero : radians zero ≡ zero
  pub at_minus_zero : radians (neg zero) ≡ neg zero
  -- 4, and the double whose root rounds to 2
  pub at_four : radians four ≡ PI
  pub at_above_four : radians above_four ≡ PI
  -- what is larger, and NaN
  pub at_second_above_four : radians second_above_four ≡ nan
  pub at_infinity : radians (inf false) ≡ nan
  pub at_nan : radians nan ≡ nan
  -- any negative one, whatever its size
  pub at_negative : (c : Float) → lt c zero ≡ true → radians c ≡ minus_one
