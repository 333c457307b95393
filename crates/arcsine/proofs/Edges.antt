-- SCOPE 51: the radians at the edges, by computing, and of every negative squared chord. Assumes nothing.
use mathlib.Core.Path.{◌≡◌, refl}
use mathlib.Core.Bool.{true, false}
use lib.Ieee.{Float, nan, inf, neg, add, sub, mul, div, lt, eq, of_bits}
use Rattle.root.specs.Root.{root_of}
use Rattle.numbers.specs.F64.{zero, four, minus_one}
use Rattle.angle.specs.Arctan.{PI, size, sum_of, acute, quadrant, atan2}
use Rattle.arcsine.specs.Arcsine.{arcsine, radians}
use Rattle.arcsine.specs.Edges.{above_four, second_above_four, Edges}

at_zero : radians zero ≡ zero
unfolding radians arcsine root_of atan2 size quadrant acute sum_of neg add sub mul div lt eq of_bits
at_zero = refl

at_minus_zero : radians (neg zero) ≡ neg zero
unfolding radians arcsine root_of atan2 size quadrant acute sum_of neg add sub mul div lt eq of_bits
at_minus_zero = refl

at_four : radians four ≡ PI
unfolding radians arcsine root_of atan2 size quadrant acute sum_of neg add sub mul div lt eq of_bits
at_four = refl

at_above_four : radians above_four ≡ PI
unfolding radians arcsine root_of atan2 size quadrant acute sum_of neg add sub mul div lt eq of_bits
at_above_four = refl

at_second_above_four : radians second_above_four ≡ nan
unfolding radians arcsine root_of atan2 size quadrant acute sum_of neg add sub mul div lt eq of_bits
at_second_above_four = refl

at_infinity : radians (inf false) ≡ nan
unfolding radians arcsine root_of atan2 size quadrant acute sum_of neg add sub mul div lt eq of_bits
at_infinity = refl

at_nan : radians nan ≡ nan
unfolding radians arcsine root_of atan2 size quadrant acute sum_of neg add sub mul div lt eq of_bits
at_nan = refl

at_negative : (c : Float) → lt c zero ≡ true → radians c ≡ minus_one
unfolding radians
at_negative c h = simp h

pub edges : Edges
edges = record {
  at_zero = at_zero;
  at_minus_zero = at_minus_zero;
  at_four = at_four;
  at_above_four = at_above_four;
  at_second_above_four = at_second_above_four;
  at_infinity = at_infinity;
  at_nan = at_nan;
  at_negative = at_negative;
}
