-- SCOPE 1: 2^-52 is near 0, the next float up is not. By computation. Assumes nothing.
use mathlib.Core.Path.{◌≡◌, refl}
use mathlib.Core.Bool.{true, false}
use lib.Ieee.{binary64, of_bits, sub, neg, lt, le}
use Rattle.numbers.specs.F64.{zero, epsilon}
use Rattle.numbers.specs.Near.{abs, near}

pub epsilon_is_zero : (near epsilon zero ≡ true) × (near (neg epsilon) zero ≡ true)
unfolding abs sub neg lt le of_bits
epsilon_is_zero = (refl, refl)

pub next_up_is_not : (near (of_bits binary64 0x3cb0_0000_0000_0001) zero ≡ false) × (near (of_bits binary64 0xbcb0_0000_0000_0001) zero ≡ false)
unfolding abs sub neg lt le of_bits
next_up_is_not = (refl, refl)
