-- SCOPE 1: equality within 2^-52, that difference included, and the orders that count it in. Definitions only.
use Rattle.std.specs.Prelude.{Bool, cond, ◌||◌, Float}
use Rattle.std.specs.Float.Ieee.{neg, lt, le}
use Rattle.numbers.specs.F64.{◌⊖◌, zero, epsilon}

unfoldable pub abs : Float → Float
abs x = cond (lt x zero) (neg x) x

abbrev pub near : Float → Float → Bool
near a b = le (abs (b ⊖ a)) epsilon

abbrev pub at_most : Float → Float → Bool
at_most a b = le a b || near a b

abbrev pub at_least : Float → Float → Bool
at_least a b = le b a || near a b
