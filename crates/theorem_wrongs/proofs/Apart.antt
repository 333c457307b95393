-- What tells two answers apart, and what is said of rings as built, of the rings that were computed once. Assumes nothing.
use Prim.Native.Nat.{ℕ, ◌+◌}
use mathlib.Core.Path.{◌≡◌, subst}
use mathlib.Core.Bool.{Bool, true, false}
use Rattle.loop_build.specs.Build as Build
use Rattle.loop_ask.specs.Answers as Answers
use Rattle.theorem_modes.specs.Longs.{pair}

abbrev pub told : Answers.Told → ℕ
told (Answers.refused k) = 100 + k
told (Answers.answer n) = n

abbrev pub answered : Answers.Told → ℕ
answered (Answers.refused k) = 0
answered (Answers.answer n) = 1

abbrev pub sure : Bool → ℕ
sure false = 0
sure true = 1

pub of_ring : {o p : Build.Outcome} → o ≡ p → (B : Build.Outcome → Type 0) → B o → B p
of_ring q B b = subst B q b

pub of_two : {o p x y : Build.Outcome} → o ≡ p → x ≡ y → (t : Answers.Told) → pair o x ≡ t → pair p y ≡ t
of_two {o} {p} {x} {y} q r t e = of_ring r (λ z. pair p z ≡ t) (of_ring q (λ z. pair z x ≡ t) e)
