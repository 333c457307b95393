-- A float that is above zero and not within 2^-52 of it is above 2^-52, and the other way round. Assumes nothing.
use Prim.Native.Nat.{ℕ, zero, suc, ◌+◌, ◌-◌, ◌*◌, ◌/◌, ◌%◌, ◌^◌, ◌≤◌, ◌<◌}
use mathlib.Core.Path.{◌≡◌, refl, sym, ap, ◌∙◌}
use mathlib.Core.Bool.{Bool, true, false, not, ◌&&◌, false≢true}
use native.Mathlib.Nat.{mul-one, one-mul, sub-zero, div-one, mul_assoc, mul-div_cancel, add_comm, add-sub_of_le, mul-pos, zero-lt-suc, lt_of_not-le}
use native.Mathlib.Omega.{arith}
use borrow.Author.Tests.{lt-ltb, le-ltb}
use lib.IntN.{ℤ, pos, negsuc}
use lib.Dec.{T, ltb, leb, eqb, leb→le, ltb→lt}
use lib.Pow.{pow-add, pow_pos}
use lib.Ieee.{Float, nan, inf, fin, binary64, up, down, round, sum, neg, add, sub, lt, le, eq, fits, of_bits}
use lib.Ieee.Fits.{up_pos, down_pos, and_l, and_r}
use lib.Ieee.Exact.{HasValue, round_exact}
use lib.Ieee.Order.{le_of_values}
use lib.Ieee.Positive.{num, den, den_pos, positive_of_value, own_value, values_of_le}
use Rattle.root.proofs.Units.{shape, exponent_le}
use Rattle.numbers.specs.F64 as F
use Rattle.numbers.specs.Near.{abs, near}

-- ---- a value that fits is rounded to itself

-- in units of 2^-1074 it is a whole number
whole : (m : ℕ) (e : ℤ) (l : ℕ) → down e ≤ 2 ^ l → m * up e * 2 ^ l / down e * down e ≡ m * up e * 2 ^ l
whole m (pos k) l h = rw (mul-one, div-one)
whole m (negsuc k) l h =
    let j = suc k in
    let s : l ≡ (l - j) + j = sym (add-sub_of_le (exponent_le j l h)) ∙ add_comm j (l - j) in
    let p : m * 1 * 2 ^ l ≡ m * 1 * 2 ^ (l - j) * 2 ^ j = ap (λ (z : ℕ). m * 1 * 2 ^ z) s ∙ ap (λ (z : ℕ). m * 1 * z) (pow-add 2 (l - j) j) ∙ sym (mul_assoc (m * 1) (2 ^ (l - j)) (2 ^ j)) in
    ap (λ (z : ℕ). z / 2 ^ j * 2 ^ j) p ∙ ap (λ (z : ℕ). z * 2 ^ j) (mul-div_cancel (m * 1 * 2 ^ (l - j)) (pow_pos j)) ∙ sym p

module _ (m : ℕ) (e : ℤ) (t : T (fits binary64 (fin false (suc m) e))) where
  small : down e ≤ 2 ^ 1074
  unfolding fits
  small =
      let a = eqb (suc m % 2) 1 && ltb (suc m) 9007199254740992 in
      let b = leb (down e) (2 ^ 1074) in
      leb→le (down e) (2 ^ 1074) (and_r a b (and_l (a && b) (ltb (suc m * up e) (2 ^ 1024 * down e)) t))

  exact : HasValue (round binary64 true (suc m * up e) (down e)) true (suc m * up e) (down e)
  exact =
      let s = shape (suc m) e t in
      round_exact binary64 true (suc m * up e) (down e) (suc m) s.c (down_pos e) s.short (rw s.units at s.under)
      (sym (whole (suc m) e 1074 small) ∙ ap (λ (z : ℕ). z * down e) s.units)

-- ---- 0.0 less a value above zero is its negation

sum_minus : (a b c : ℕ) → a ≡ 0 → 0 < b → sum binary64 false a true b c ≡ round binary64 true b c
unfolding sum
sum_minus a b c e h = rw (e, lt-ltb 0 b h, sub-zero)

size_pos : (m : ℕ) (e : ℤ) → 0 < suc m * up e
size_pos m e = mul-pos (zero-lt-suc m) (up_pos e)

minus_is : (m : ℕ) (e : ℤ) → sub binary64 F.zero (fin false (suc m) e) ≡ round binary64 true (suc m * up e) (down e)
unfolding sub add neg of_bits
minus_is m e =
    sum_minus (0 * 1 * down e) (suc m * up e * 1) (1 * down e) (omega arith) (rw mul-one (size_pos m e))
    ∙ rw (mul-one, one-mul)

-- ---- the size of a value below zero, a / c, against 2^-52

abbrev eps : Float
eps = fin false 1 (negsuc 51)

eps_is : F.epsilon ≡ eps
unfolding of_bits
eps_is = refl

abs_minus : (m : ℕ) (e : ℤ) → 0 < m → abs (fin true m e) ≡ fin false m e
unfolding abs lt neg of_bits
abs_minus m e h =
    let p : 0 < m * up e = mul-pos h (up_pos e) in
    rw (lt-ltb 0 (m * up e * 1 + 0 * 1 * down e) (omega arith))

iff : (b : Bool) (u v : ℕ) → (T b → v ≤ u) → (v ≤ u → T b) → b ≡ not (ltb u v)
iff true u v f g = rw (le-ltb u v (f tt))
iff false u v f g = rw (lt-ltb u v (lt_of_not-le g))

size_of_lem : (y : Float) (a c : ℕ) → 0 < a → 0 < c → HasValue y true a c → le (abs y) eps ≡ not (ltb (num eps * c) (a * den eps))
size_of_lem nan a c A C h = absurd h
size_of_lem (inf s) a c A C h = absurd h
size_of_lem (fin false m e) a c A C h = absurd (false≢true h.0)
size_of_lem (fin true m e) a c A C h =
    let x = fin false m e in
    let v : HasValue x false a c = (refl, h.1) in
    let p = positive_of_value x a c v A in
    let w = own_value eps tt in
    rw (abs_minus m e (ltb→lt 0 m p))
    (iff (le x eps) (num eps * c) (a * den eps)
    (values_of_le x eps a c (num eps) (den eps) p tt v w)
    (le_of_values x eps a c (num eps) (den eps) C (den_pos eps) v w))

near_is : (m : ℕ) (e : ℤ) → T (fits binary64 (fin false (suc m) e)) → near (fin false (suc m) e) F.zero ≡ not (lt F.epsilon (fin false (suc m) e))
unfolding lt
near_is m e t =
    rw (eps_is, minus_is m e)
    (size_of_lem (round binary64 true (suc m * up e) (down e)) (suc m * up e) (down e) (size_pos m e) (down_pos e) (exact m e t))

-- ---- all together

not_not : (b : Bool) → not (not b) ≡ b
not_not true = refl
not_not false = refl

infinite : not (near (inf false) F.zero) ≡ true
unfolding abs sub add neg lt le eq of_bits
infinite = refl

pub beyond : (s : Float) → T (fits binary64 s) → lt F.zero s && not (near s F.zero) ≡ lt F.epsilon s
unfolding lt of_bits
beyond nan t = refl
beyond (inf true) t = refl
beyond (inf false) t = infinite
beyond (fin true m e) t = refl
beyond (fin false zero e) t = rw (le-ltb (0 * down e) (0 * up e * 1) (omega arith), le-ltb (1 * down e) (0 * up e * 4503599627370496) (omega arith))
beyond (fin false (suc m) e) t =
    let p = size_pos m e in
    rw (lt-ltb (0 * down e) (suc m * up e * 1) (omega arith)) (ap not (near_is m e t) ∙ not_not (lt F.epsilon (fin false (suc m) e)))
