-- The turn sum is the float sum of its pairs' angles; where it is not weak, the exact sum of the exact angles has its sign. Assumes nothing.
use mathlib.Core.Path.{◌≡◌, refl, sym, ap, ◌∙◌, subst}
use mathlib.Core.Bool.{Bool, true, false, not, cond}
use mathlib.Core.List.{List}
use Prim.Native.Nat.{ℕ, zero, suc, ◌+◌, ◌*◌, ◌^◌, ◌≤◌, ◌<◌}
use native.Mathlib.Omega.{arith}
use native.Mathlib.Nat.{zero-mul}
use lib.IntN.{ℤ}
use lib.Dec.{T, ltb, lt→ltb, nltb→le}
use lib.ListN.{length}
use lib.Ieee.{Float, nan, inf, fin, binary64, of_bits, up, down, neg, lt}
use lib.Ieee.Fits.{down_pos}
use Rattle.numbers.specs.F64 as F
use Rattle.fractions.proofs.Sizes.{Fin}
use Rattle.numbers.proofs.Rounds.{is_true}
use Rattle.numbers.specs.Near.{abs}
use Rattle.fractions.specs.Frac.{◌over◌, ◌≼◌, magnitude}
use Rattle.laws.specs.Loop.{iterate}
use Rattle.angle.specs.declared.Angle.{Angle}
use Rattle.angle.specs.Angles.{none, weak, clockwise}
use Rattle.angle.specs.Arctan as A
use Rattle.angle.proofs.Signs.{plus_not_below, below_zero}
use Rattle.ring_turns.specs.Turns.{turn_at, plus_turn, turn_sum}
use Rattle.ring_turns.specs.Blocks.{sine_at, cosine_at}
use Rattle.exact_angles.proofs.Total.{steady_sign, total_finite}
use Rattle.exact_angles.specs.Steady.{total, AllAimed, SameSign}
use Rattle.theorem_steady.specs.Turns.{pairs_from, turn_pairs}
use Rattle.theorem_steady.specs.Directed.{SumBelow, SumAbove}

-- ---- the turn sum is the sum of the pairs' angles
turn_is : (l : List Float) (n i : ℕ) → (turn_at l n i).0 ≡ A.atan2 (sine_at l n i) (cosine_at l n i)
unfolding turn_at sine_at cosine_at
turn_is l n i = refl

sum_is : (l : List Float) (n k i : ℕ) (a : Angle) → (iterate (plus_turn l n) k i a).0 ≡ total a.0 (pairs_from l n k i)
unfolding iterate pairs_from
sum_is l n zero i a = refl
sum_is l n (suc k) i a =
    sum_is l n k (suc i) (plus_turn l n i a)
    ∙ ap (λ (z : Float). total (F.◌⊕◌ a.0 z) (pairs_from l n k (suc i))) (turn_is l n i)

pub turn_sum_is : (l : List Float) (n : ℕ) → (turn_sum l n).0 ≡ total F.zero (turn_pairs l n)
unfolding turn_sum
turn_sum_is l n = sum_is l n n 0 none

pairs_length : (l : List Float) (n k i : ℕ) → length (pairs_from l n k i) ≡ k
unfolding pairs_from
pairs_length l n zero i = refl
pairs_length l n (suc k) i = ap suc (pairs_length l n k (suc i))

-- ---- a sum that is not weak is at least 2 ^ -30 in size
abbrev limit : Float
limit = of_bits binary64 0x3e10_0000_0000_0000

abbrev tested : Bool → Float → Bool
tested b x = lt (cond b (neg x) x) limit

sized : (m : ℕ) (e : ℤ) → lt (fin false m e) limit ≡ false → (1 over (2 ^ 30)) ≼ magnitude (fin false m e)
unfolding lt of_bits
sized m e h =
    let l : 1 * 1 * down e ≤ m * up e * 1073741824 = nltb→le (m * up e * 1073741824) (1 * 1 * down e) (subst (λ (b : Bool). T (not b)) (sym h) tt) in
    omega arith

nothing : (e : ℤ) (b : Bool) → tested b (fin true 0 e) ≡ true
unfolding lt neg of_bits
nothing e true = is_true (ltb (0 * up e * 1073741824) (1 * 1 * down e)) (lt→ltb (0 * up e * 1073741824) (1 * 1 * down e) (omega (arith, down_pos e, zero-mul (up e))))
nothing e false = is_true (ltb 0 (0 * up e * 1073741824 + 1 * 1 * down e)) (lt→ltb 0 (0 * up e * 1073741824 + 1 * 1 * down e) (omega (arith, down_pos e)))

pub strong : (x : Float) → Fin x → weak (record { 0 = x }) ≡ false → (1 over (2 ^ 30)) ≼ magnitude x
unfolding abs
strong nan f h = absurd f
strong (inf s) f h = absurd f
strong (fin false m e) f h = sized m e (sym (ap (λ (b : Bool). tested b (fin false m e)) (plus_not_below m e)) ∙ h)
strong (fin true zero e) f h = absurd (subst T (sym (nothing e (lt (fin true 0 e) F.zero)) ∙ h) tt)
strong (fin true (suc m) e) f h = unfold neg in sized (suc m) e (sym (ap (λ (b : Bool). tested b (fin true (suc m) e)) (below_zero m e)) ∙ h)

-- ---- the theorem: not weak, and so the exact sum has the sign by which the list was kept or reversed
pub steady_turns : (l : List Float) (n : ℕ) → n ≤ 512 → AllAimed (turn_pairs l n) → weak (turn_sum l n) ≡ false → SameSign (turn_sum l n).0 (turn_pairs l n)
steady_turns l n b a h =
    let e = turn_sum_is l n in
    let k : length (turn_pairs l n) ≤ 512 = omega (arith, pairs_length l n n 0) in
    subst (λ (z : Float). SameSign z (turn_pairs l n)) (sym e)
    (steady_sign (turn_pairs l n) k a
    (strong (total F.zero (turn_pairs l n)) (total_finite (turn_pairs l n) k a) (subst (λ (z : Float). weak (record { 0 = z }) ≡ false) e h)))

-- in the words of building: a steady list is kept where the exact sum is below 0, and reversed where it is above
module _ (l : List Float) (n : ℕ) (few : n ≤ 512) (aimed : AllAimed (turn_pairs l n)) (steady : weak (turn_sum l n) ≡ false) where
  pub kept_below : clockwise (turn_sum l n) ≡ true → SumBelow l n
  kept_below k = go (turn_sum l n).0 (steady_turns l n few aimed steady) k
    where
      go : (x : Float) → SameSign x (turn_pairs l n) → lt x F.zero ≡ true → SumBelow l n
      go nan s k = absurd s
      go (inf t) s k = absurd s
      go (fin false m e) s k = absurd (subst T (sym k ∙ plus_not_below m e) tt)
      go (fin true m e) s k = s

  pub reversed_above : clockwise (turn_sum l n) ≡ false → SumAbove l n
  reversed_above k = go (turn_sum l n).0 (steady_turns l n few aimed steady) (λ f. strong (turn_sum l n).0 f steady) k
    where
      none_there : (u v : ℕ) → 0 < v → 1 * v ≤ 0 * u * 1073741824 → ⊥
      none_there u v h k = omega (arith, zero-mul u)

      go : (x : Float) → SameSign x (turn_pairs l n) → (Fin x → (1 over (2 ^ 30)) ≼ magnitude x) → lt x F.zero ≡ false → SumAbove l n
      go nan s w k = absurd s
      go (inf t) s w k = absurd s
      go (fin false m e) s w k = s
      go (fin true zero e) s w k = absurd (none_there (up e) (down e) (down_pos e) (w tt))
      go (fin true (suc m) e) s w k = absurd (subst T (sym (below_zero m e) ∙ k) tt)
