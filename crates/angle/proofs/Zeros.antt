-- SCOPE 6: `atan2` at zeros is as IEEE 754 has it. Assumes nothing.
use mathlib.Core.Path.{◌≡◌, refl, sym, ap, ◌∙◌, subst}
use mathlib.Core.Bool.{Bool, true, false, cond, ◌&&◌}
use Prim.Native.Nat.{ℕ, zero, suc, ◌*◌, ◌<◌}
use native.Mathlib.Nat.{zero-mul, mul-pos, zero-lt-suc}
use native.Mathlib.Omega.{arith}
use lib.IntN.{ℤ, pos}
use lib.Dec.{T, ltb, eqb, ltb→lt, lt→ltb}
use lib.Ieee.{Float, fin, binary64, of_bits, up, down, neg, add, sub, mul, div, lt, eq}
use lib.Ieee.Fits.{down_pos, up_pos}
use Rattle.angle.specs.Arctan as A
use Rattle.numbers.specs.F64 as F
use Rattle.numbers.proofs.Rounds.{round_zero, is_true, is_false}
use Rattle.angle.proofs.Signs.{div_is, atan2_is}

product : (u v : ℕ) → 0 * u * v ≡ 0
product u v = ap (λ (z : ℕ). z * v) (zero-mul u) ∙ zero-mul v

zero_over : (e : ℤ) (n : ℕ) (d : ℤ) → div binary64 (fin false 0 e) (fin false (suc n) d) ≡ fin false 0 (pos 0)
zero_over e n d =
    div_is 0 e n d
    ∙ round_zero (0 * up e * down d) (suc n * up d * down e) (mul-pos (mul-pos (zero-lt-suc n) (up_pos d)) (down_pos e)) (product (up e) (down d))

-- the angle 0, π/2 - 0 and so on, computed
acute_zero : A.acute (fin false 0 (pos 0)) ≡ fin false 0 (pos 0)
unfolding A.acute A.sum_of add mul div of_bits
acute_zero = refl

frac_pi_2_zero : F.◌⊖◌ A.FRAC_PI_2 (fin false 0 (pos 0)) ≡ A.FRAC_PI_2
unfolding sub of_bits
frac_pi_2_zero = refl

pi_zero : F.◌⊖◌ A.PI (fin false 0 (pos 0)) ≡ A.PI
unfolding sub of_bits
pi_zero = refl

pi_frac_pi_2 : F.◌⊖◌ A.PI A.FRAC_PI_2 ≡ A.FRAC_PI_2
unfolding sub of_bits
pi_frac_pi_2 = refl

below : (e : ℤ) (n : ℕ) (d : ℤ) → ltb (0 * up e * down d) (suc n * up d * down e) ≡ true
below e n d =
    is_true (ltb (0 * up e * down d) (suc n * up d * down e))
    (lt→ltb (0 * up e * down d) (suc n * up d * down e) (subst (λ (z : ℕ). z < suc n * up d * down e) (sym (product (up e) (down d))) (mul-pos (mul-pos (zero-lt-suc n) (up_pos d)) (down_pos e))))

not_below : (a : ℕ) (u v : ℕ) → ltb a (0 * u * v) ≡ false
not_below a u v = is_false (ltb a (0 * u * v)) (λ (t : T (ltb a (0 * u * v))). none a (0 * u * v) (product u v) (ltb→lt a (0 * u * v) t))
  where
    none : (a z : ℕ) → z ≡ 0 → a < z → ⊥
    none a z e h = omega arith

flat : (e : ℤ) (n : ℕ) (d : ℤ) → A.quadrant (fin false 0 e) (fin false (suc n) d) ≡ fin false 0 (pos 0)
unfolding A.quadrant lt
flat e n d =
    ap
    (λ (b : Bool). cond b (A.acute (div binary64 (fin false 0 e) (fin false (suc n) d)))
    (cond (ltb (suc n * up d * down e) (0 * up e * down d)) (F.◌⊖◌ A.FRAC_PI_2 (A.acute (div binary64 (fin false (suc n) d) (fin false 0 e))))
    (cond (eq (fin false 0 e) F.zero) F.zero (cond (eq (fin false 0 e) (fin false (suc n) d)) A.FRAC_PI_4 (F.◌⊕◌ (fin false 0 e) (fin false (suc n) d))))))
    (below e n d)
    ∙ ap A.acute (zero_over e n d) ∙ acute_zero

standing : (m : ℕ) (e d : ℤ) → A.quadrant (fin false (suc m) e) (fin false 0 d) ≡ A.FRAC_PI_2
unfolding A.quadrant lt
standing m e d =
    let a = fin false (suc m) e in
    let b = fin false 0 d in
    let r = cond (eq a F.zero) F.zero (cond (eq a b) A.FRAC_PI_4 (F.◌⊕◌ a b)) in
    ap (λ (x : Bool). cond x (A.acute (div binary64 a b)) (cond (ltb (0 * up d * down e) (suc m * up e * down d)) (F.◌⊖◌ A.FRAC_PI_2 (A.acute (div binary64 b a))) r)) (not_below (suc m * up e * down d) (up d) (down e))
    ∙ ap (λ (x : Bool). cond x (F.◌⊖◌ A.FRAC_PI_2 (A.acute (div binary64 b a))) r) (below d m e)
    ∙ ap (λ (z : Float). F.◌⊖◌ A.FRAC_PI_2 (A.acute z)) (zero_over d m e)
    ∙ ap (λ (z : Float). F.◌⊖◌ A.FRAC_PI_2 z) acute_zero
    ∙ frac_pi_2_zero

eq_zero : (e : ℤ) → eq (fin false 0 e) F.zero ≡ true
unfolding eq of_bits
eq_zero e = is_true (eqb (0 * up e * 1) (0 * 1 * down e) && true) (subst (λ (z : ℕ). T (eqb z (0 * 1 * down e) && true)) (sym (product (up e) 1)) (subst (λ (z : ℕ). T (eqb 0 z && true)) (sym (product 1 (down e))) tt))

nothing : (e d : ℤ) → A.quadrant (fin false 0 e) (fin false 0 d) ≡ fin false 0 (pos 0)
unfolding A.quadrant lt
nothing e d =
    let a = fin false 0 e in
    let b = fin false 0 d in
    let r = cond (eq a F.zero) F.zero (cond (eq a b) A.FRAC_PI_4 (F.◌⊕◌ a b)) in
    ap (λ (x : Bool). cond x (A.acute (div binary64 a b)) (cond (ltb (0 * up d * down e) (0 * up e * down d)) (F.◌⊖◌ A.FRAC_PI_2 (A.acute (div binary64 b a))) r)) (not_below (0 * up e * down d) (up d) (down e))
    ∙ ap (λ (x : Bool). cond x (F.◌⊖◌ A.FRAC_PI_2 (A.acute (div binary64 b a))) r) (not_below (0 * up d * down e) (up e) (down d))
    ∙ ap (λ (x : Bool). cond x F.zero (cond (eq a b) A.FRAC_PI_4 (F.◌⊕◌ a b))) (eq_zero e)
    ∙ zero_is
  where
    zero_is : F.zero ≡ fin false 0 (pos 0)
    zero_is = unfold of_bits in refl

signed_zero : (s : Bool) → A.signed s (fin false 0 (pos 0)) ≡ fin s 0 (pos 0)
unfolding neg
signed_zero true = refl
signed_zero false = refl

-- ---- the results, for either sign s of y: x of either sign t, any y or x that is not 0, and both 0
pub ahead : (s : Bool) (e : ℤ) (n : ℕ) (d : ℤ) → A.atan2 (fin s 0 e) (fin false (suc n) d) ≡ fin s 0 (pos 0)
ahead s e n d = atan2_is s false 0 (suc n) e d ∙ ap (A.signed s) (flat e n d) ∙ signed_zero s

pub behind : (s : Bool) (e : ℤ) (n : ℕ) (d : ℤ) → A.atan2 (fin s 0 e) (fin true (suc n) d) ≡ A.signed s A.PI
behind s e n d = atan2_is s true 0 (suc n) e d ∙ ap (λ (z : Float). A.signed s (A.turned true z)) (flat e n d) ∙ ap (A.signed s) pi_zero

pub beside : (s t : Bool) (m : ℕ) (e d : ℤ) → A.atan2 (fin s (suc m) e) (fin t 0 d) ≡ A.signed s A.FRAC_PI_2
beside s false m e d = atan2_is s false (suc m) 0 e d ∙ ap (A.signed s) (standing m e d)
beside s true m e d = atan2_is s true (suc m) 0 e d ∙ ap (λ (z : Float). A.signed s (A.turned true z)) (standing m e d) ∙ ap (A.signed s) pi_frac_pi_2

pub both_plus : (s : Bool) (e d : ℤ) → A.atan2 (fin s 0 e) (fin false 0 d) ≡ fin s 0 (pos 0)
both_plus s e d = atan2_is s false 0 0 e d ∙ ap (A.signed s) (nothing e d) ∙ signed_zero s

pub both_minus : (s : Bool) (e d : ℤ) → A.atan2 (fin s 0 e) (fin true 0 d) ≡ A.signed s A.PI
both_minus s e d = atan2_is s true 0 0 e d ∙ ap (λ (z : Float). A.signed s (A.turned true z)) (nothing e d) ∙ ap (A.signed s) pi_zero

-- ---- the eight cases of signs, side by side. A zero y: x above zero, and x below; then x a zero of either sign. Then y above and below zero, and x a zero
pub record Eight (m : ℕ) (e d : ℤ) : Type 0 where
  pub zero_ahead : (A.atan2 (fin false 0 e) (fin false (suc m) d) ≡ fin false 0 (pos 0)) × (A.atan2 (fin true 0 e) (fin false (suc m) d) ≡ fin true 0 (pos 0))
  pub zero_behind : (A.atan2 (fin false 0 e) (fin true (suc m) d) ≡ A.PI) × (A.atan2 (fin true 0 e) (fin true (suc m) d) ≡ neg A.PI)
  pub zero_plus_zero : (A.atan2 (fin false 0 e) (fin false 0 d) ≡ fin false 0 (pos 0)) × (A.atan2 (fin true 0 e) (fin false 0 d) ≡ fin true 0 (pos 0))
  pub zero_minus_zero : (A.atan2 (fin false 0 e) (fin true 0 d) ≡ A.PI) × (A.atan2 (fin true 0 e) (fin true 0 d) ≡ neg A.PI)
  pub above_zero : (A.atan2 (fin false (suc m) e) (fin false 0 d) ≡ A.FRAC_PI_2) × (A.atan2 (fin false (suc m) e) (fin true 0 d) ≡ A.FRAC_PI_2)
  pub below_zero : (A.atan2 (fin true (suc m) e) (fin false 0 d) ≡ neg A.FRAC_PI_2) × (A.atan2 (fin true (suc m) e) (fin true 0 d) ≡ neg A.FRAC_PI_2)

pub eight : (m : ℕ) (e d : ℤ) → Eight m e d
eight m e d = record {
  zero_ahead = (ahead false e m d, ahead true e m d);
  zero_behind = (behind false e m d, behind true e m d);
  zero_plus_zero = (both_plus false e d, both_plus true e d);
  zero_minus_zero = (both_minus false e d, both_minus true e d);
  above_zero = (beside false false m e d, beside false true m e d);
  below_zero = (beside true false m e d, beside true true m e d);
}
