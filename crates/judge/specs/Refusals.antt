-- SCOPE 25: what anything handed in is refused for, each with its number, and 0 for nothing. Definitions only.
use Rattle.std.specs.Prelude.{ℕ, suc, Result, Ok, Err}
use Rattle.judge.specs.declared.Refusal.{Refusal}
use Rattle.judge.specs.declared.Refusal.TheVariants.{Shape, TooMany, NotFinite, OffRange, NoRoom, UnknownClass, EachInside, NoEar, NoRing, TwoModes}

-- the numbers run from 1 on in this order; 10 is given no more
abbrev pub numbers_before : Refusal → ℕ
numbers_before Shape = 0
numbers_before TooMany = 1
numbers_before NotFinite = 2
numbers_before OffRange = 3
numbers_before NoRoom = 4
numbers_before UnknownClass = 5
numbers_before EachInside = 6
numbers_before NoEar = 7
numbers_before NoRing = 8
numbers_before TwoModes = 10

abbrev pub number : Refusal → ℕ
number r = suc (numbers_before r)

abbrev pub number_of : {T : Type 0} → Result T Refusal → ℕ
number_of (Ok t) = 0
number_of (Err r) = number r
