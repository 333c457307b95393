-- Signs, and `atan2` of finite values by their signs and sizes. Assumes nothing.
use mathlib.Core.Path.{◌≡◌, refl, ap, ◌∙◌}
use mathlib.Core.Bool.{Bool, true, false, cond, ◌||◌}
use Prim.Native.Nat.{ℕ, zero, suc, ◌+◌, ◌*◌, ◌^◌, ◌<◌}
use native.Mathlib.Nat.{mul-pos, zero-lt-suc}
use native.Mathlib.Omega.{arith}
use lib.IntN.{ℤ, pos}
use lib.Dec.{T, ltb, eqb, ltb→lt, lt→ltb, eqb-suc-zero}
use lib.Ieee.{Float, nan, inf, fin, binary64, of_bits, up, down, odd, units, round, neg, div, lt}
use lib.Ieee.Fits.{up_pos, round_is}
use Rattle.numbers.specs.F64 as F
use Rattle.numbers.proofs.Rounds.{is_true, is_false}
use Rattle.angle.specs.Arctan as A

round_not_below : (num den : ℕ) → lt (round binary64 false num den) F.zero ≡ false
round_not_below num den = ap (λ (z : Float). lt z F.zero) (round_is binary64 false num den) ∙ units_not_below _ _
  where
    fin_not_below : (m : ℕ) (e : ℤ) → lt (fin false m e) F.zero ≡ false
    fin_not_below m e = unfold lt of_bits in is_false (ltb (m * up e * 1) (0 * 1 * down e)) (λ (t : T (ltb (m * up e * 1) (0 * 1 * down e))). omega (arith, ltb→lt (m * up e * 1) (0 * 1 * down e) t))

    odd_not_below : (d q k l : ℕ) → lt (odd d false q k l) F.zero ≡ false
    odd_not_below d zero k l = unfold odd in fin_not_below 0 (pos 0)
    odd_not_below d (suc q) k l = unfold odd in fin_not_below _ _

    cases : (c : Bool) (q k : ℕ) → lt (cond c (odd 54 false q k 1074) (inf false)) F.zero ≡ false
    cases true q k = odd_not_below 54 q k 1074
    cases false q k = unfold lt of_bits in refl

    units_not_below : (q k : ℕ) → lt (units binary64 false q k) F.zero ≡ false
    units_not_below q k = unfold units in cases (ltb (q * 2 ^ k) (2 ^ 2098)) q k

or_right : (b : Bool) → b || true ≡ true
or_right true = refl
or_right false = refl

pub plus_not_below : (m : ℕ) (e : ℤ) → lt (fin false m e) F.zero ≡ false
unfolding lt of_bits
plus_not_below m e = is_false (ltb (m * up e * 1) (0 * 1 * down e)) (λ (t : T (ltb (m * up e * 1) (0 * 1 * down e))). omega (arith, ltb→lt (m * up e * 1) (0 * 1 * down e) t))

pub div_is : (m : ℕ) (e : ℤ) (n : ℕ) (d : ℤ) → div binary64 (fin false m e) (fin false (suc n) d) ≡ round binary64 false (m * up e * down d) (suc n * up d * down e)
unfolding div
div_is m e n d = ap (λ (b : Bool). cond b (cond (eqb m 0) nan (inf false)) (round binary64 false (m * up e * down d) (suc n * up d * down e))) (eqb-suc-zero n)

div_one : (m : ℕ) (e : ℤ) → div binary64 F.one (fin false (suc m) e) ≡ round binary64 false (1 * 1 * down e) (suc m * up e * 1)
unfolding of_bits
div_one m e = div_is 1 (pos 0) m e

over_plus : (m : ℕ) (e : ℤ) → lt (div binary64 F.one (fin false m e)) F.zero ≡ false
over_plus zero e = unfold div lt of_bits in refl
over_plus (suc m) e = ap (λ (z : Float). lt z F.zero) (div_one m e) ∙ round_not_below _ _

over_minus : (e : ℤ) → lt (div binary64 F.one (fin true zero e)) F.zero ≡ true
unfolding div lt of_bits
over_minus e = refl

pub below_zero : (m : ℕ) (e : ℤ) → lt (fin true (suc m) e) F.zero ≡ true
unfolding lt of_bits
below_zero m e = is_true (ltb 0 (suc m * up e * 1 + 0 * 1 * down e)) (lt→ltb 0 (suc m * up e * 1 + 0 * 1 * down e) (more (suc m * up e) (0 * 1 * down e) (mul-pos (zero-lt-suc m) (up_pos e))))
  where
    more : (a b : ℕ) → 0 < a → 0 < a * 1 + b
    more a b h = omega arith

pub minus_is : (s : Bool) (m : ℕ) (e : ℤ) → A.minus (fin s m e) ≡ s
minus_is false m e = ap (λ (z : Bool). z || lt (div binary64 F.one (fin false m e)) F.zero) (plus_not_below m e) ∙ over_plus m e
minus_is true zero e = ap (λ (z : Bool). lt (fin true zero e) F.zero || z) (over_minus e) ∙ or_right (lt (fin true zero e) F.zero)
minus_is true (suc m) e = ap (λ (z : Bool). z || lt (div binary64 F.one (fin true (suc m) e)) F.zero) (below_zero m e)

size_is : (s : Bool) (m : ℕ) (e : ℤ) → A.size (fin s m e) ≡ fin false m e
unfolding A.size
size_is s m e = ap (λ (z : Bool). cond z (neg (fin s m e)) (fin s m e)) (minus_is s m e) ∙ at s
  where
    at : (s : Bool) → cond s (neg (fin s m e)) (fin s m e) ≡ fin false m e
    at true = unfold neg in refl
    at false = refl

pub atan2_is : (s t : Bool) (m n : ℕ) (e d : ℤ) → A.atan2 (fin s m e) (fin t n d) ≡ A.signed s (A.turned t (A.quadrant (fin false m e) (fin false n d)))
unfolding A.atan2
atan2_is s t m n e d =
    ap (λ (z : Bool). A.signed z (A.turned (A.minus (fin t n d)) (A.quadrant (A.size (fin s m e)) (A.size (fin t n d))))) (minus_is s m e)
    ∙ ap (λ (z : Bool). A.signed s (A.turned z (A.quadrant (A.size (fin s m e)) (A.size (fin t n d))))) (minus_is t n d)
    ∙ ap (λ (z : Float). A.signed s (A.turned t (A.quadrant z (A.size (fin t n d))))) (size_is s m e)
    ∙ ap (λ (z : Float). A.signed s (A.turned t (A.quadrant (fin false m e) z))) (size_is t n d)
