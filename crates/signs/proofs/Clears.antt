-- 0.0 + x is x without a zero's sign, so x itself for every x of the format but -0.0, and a vector is cleared once for all. Assumes nothing.
use mathlib.Core.Path.{◌≡◌, refl, sym, ap, ◌∙◌, subst}
use mathlib.Core.Bool.{Bool, true, false, ◌&&◌, false≢true}
use Prim.Native.Nat.{ℕ, zero, suc, ◌+◌, ◌-◌, ◌*◌, ◌/◌, ◌%◌, ◌^◌, ◌≤◌, ◌<◌}
use native.Mathlib.Nat.{mul-one, mul_assoc, mul_right_comm, mul-div_cancel, mul-pos, add_comm, add-sub_of_le, zero-lt-suc}
use native.Mathlib.Omega.{arith}
use borrow.Author.Tests.{lt-ltb, le-ltb}
use lib.IntN.{ℤ, pos, negsuc}
use lib.Dec.{T, ltb, leb, eqb, ltb→lt, leb→le}
use lib.Pow.{pow-add}
use lib.Ieee.{Float, nan, inf, fin, binary64, of_bits, up, down, fits, round, neg, add, sum}
use lib.Ieee.Exact.{HasValue, round_exact}
use lib.Ieee.Fits.{down_pos, up_pos, round-fits, add-fits, and_l, and_r}
use lib.Ieee.Nearest.{div_same}
use Rattle.numbers.specs.F64 as F
use Rattle.numbers.proofs.Rounds.{round_zero}
use Rattle.root.specs.Root.{in_units}
use Rattle.root.proofs.Units.{same_units, shape, exponent_le}
use Rattle.vec3.specs.Vec.{vec, cleared}
use Rattle.signs.specs.Signs.{cleared_float, Unsigned}

-- ---- what fits is rounded to itself
fits_either : (s t : Bool) (m : ℕ) (e : ℤ) → T (fits binary64 (fin s m e)) → T (fits binary64 (fin t m e))
unfolding fits
fits_either s t zero e h = h
fits_either s t (suc m) e h = h

either_sign : (s : Bool) {m n : ℕ} {e d : ℤ} → fin false m e ≡ fin false n d → fin s m e ≡ fin s n d
unfolding neg
either_sign false h = h
either_sign true h = ap neg h

same_value : (r : Float) (s : Bool) (m : ℕ) (e : ℤ) → T (fits binary64 r) → T (fits binary64 (fin s m e)) → HasValue r s (m * up e) (down e) → r ≡ fin s m e
same_value nan s m e p q v = absurd v
same_value (inf t) s m e p q v = absurd v
same_value (fin t n d) s m e p q v =
    let h : n * up d * 2 ^ 1074 * down e ≡ m * up e * 2 ^ 1074 * down d = mul_right_comm (n * up d) (2 ^ 1074) (down e) ∙ ap (λ (z : ℕ). z * 2 ^ 1074) v.1 ∙ mul_right_comm (m * up e) (down d) (2 ^ 1074) in
    let u = div_same (n * up d * 2 ^ 1074) (down d) (m * up e * 2 ^ 1074) (down e) (down_pos d) (down_pos e) h in
    ap (λ (b : Bool). fin b n d) v.0 ∙ either_sign s (same_units n m d e (fits_either t false n d p) (fits_either s false m e q) u)

in_units_lem : (m : ℕ) (e : ℤ) → down e ≤ 2 ^ 1074 → (c : ℕ) × (m * up e * 2 ^ 1074 ≡ m * 2 ^ c * down e)
in_units_lem m (pos k) h = (k + 1074, mul_assoc m (2 ^ k) (2 ^ 1074) ∙ ap (λ (z : ℕ). m * z) (sym (pow-add 2 k 1074)) ∙ sym (mul-one (m * 2 ^ (k + 1074))))
in_units_lem m (negsuc k) h = (
  1074 - suc k,
  ap (λ (z : ℕ). z * 2 ^ 1074) (mul-one m)
      ∙ ap (λ (z : ℕ). m * 2 ^ z) (sym (add-sub_of_le (exponent_le (suc k) 1074 h)) ∙ add_comm (suc k) (1074 - suc k))
      ∙ ap (λ (z : ℕ). m * z) (pow-add 2 (1074 - suc k) (suc k))
      ∙ sym (mul_assoc m (2 ^ (1074 - suc k)) (2 ^ suc k)),
)

parts : (a b c d : Bool) → T (a && b && c && d) → T b × T c
parts a b c d t = (and_r a b (and_l (a && b) c (and_l (a && b && c) d t)), and_r (a && b) c (and_l (a && b && c) d t))

itself : (s : Bool) (m : ℕ) (e : ℤ) → T (fits binary64 (fin s (suc m) e)) → round binary64 s (suc m * up e) (down e) ≡ fin s (suc m) e
unfolding fits
itself s m e t =
    let f = parts (eqb (suc m % 2) 1) (ltb (suc m) 9007199254740992) (leb (down e) (2 ^ 1074)) (ltb (suc m * up e) (2 ^ 1024 * down e)) t in
    let u = in_units_lem (suc m) e (leb→le (down e) (2 ^ 1074) f.1) in
    let n : in_units (fin false (suc m) e) ≡ suc m * 2 ^ u.0 = ap (λ (z : ℕ). z / down e) u.1 ∙ mul-div_cancel (suc m * 2 ^ u.0) (down_pos e) in
    same_value (round binary64 s (suc m * up e) (down e)) s (suc m) e (round-fits binary64 s (suc m * up e) (down e)) t
    (round_exact binary64 s (suc m * up e) (down e) (suc m) u.0 (down_pos e) (ltb→lt (suc m) 9007199254740992 f.0) (subst (λ (z : ℕ). z < 2 ^ 2098) n (shape (suc m) e t).under) u.1)

-- ---- a zero has one exponent
pub zero_exponent : (s : Bool) (e : ℤ) → T (fits binary64 (fin s 0 e)) → fin s 0 e ≡ fin s 0 (pos 0)
zero_exponent s e t = same_value (fin s 0 e) s 0 (pos 0) t (zero_fits s) (refl, none (up e) (down e))
  where
    zero_fits : (s : Bool) → T (fits binary64 (fin s 0 (pos 0)))
    zero_fits s = unfold fits in tt

    none : (u d : ℕ) → 0 * u * 1 ≡ 0 * 1 * d
    none u d = omega arith

-- ---- 0.0 + x
sums : (s : Bool) (a d : ℕ) → 0 < a → sum binary64 false (0 * 1 * d) s (a * 1) (1 * d) ≡ round binary64 s a d
unfolding sum
sums false a d h =
    let p : 0 * 1 * d + a * 1 ≡ a = omega arith in
    let q : 1 * d ≡ d = omega arith in
    rw (p, q)
sums true a d h =
    let p : a * 1 - 0 * 1 * d ≡ a = omega arith in
    let q : 1 * d ≡ d = omega arith in
    let l : 0 * 1 * d < a * 1 = omega arith in
    rw (lt-ltb (0 * 1 * d) (a * 1) l, p, q)

plus_some : (s : Bool) (m : ℕ) (e : ℤ) → T (fits binary64 (fin s (suc m) e)) → F.◌⊕◌ F.zero (fin s (suc m) e) ≡ fin s (suc m) e
unfolding add of_bits
plus_some s m e t = sums s (suc m * up e) (down e) (mul-pos (zero-lt-suc m) (up_pos e)) ∙ itself s m e t

plus_zero : (s : Bool) (e : ℤ) → F.◌⊕◌ F.zero (fin s 0 e) ≡ fin false 0 (pos 0)
unfolding add sum of_bits
plus_zero false e = round_zero (0 * 1 * down e + 0 * up e * 1) (1 * down e) (mul-pos (zero-lt-suc 0) (down_pos e)) (omega arith)
plus_zero true e =
    let l : 0 * up e * 1 ≤ 0 * 1 * down e = omega arith in
    simp (le-ltb (0 * 1 * down e) (0 * up e * 1) l) (round_zero (0 * 1 * down e - 0 * up e * 1) (1 * down e) (mul-pos (zero-lt-suc 0) (down_pos e)) (omega arith))

pub stored : (x : Float) → T (fits binary64 x) → F.◌⊕◌ F.zero x ≡ cleared_float x
unfolding cleared_float
stored nan t = unfold add of_bits in refl
stored (inf s) t = unfold add of_bits in refl
stored (fin s zero e) t = plus_zero s e
stored (fin s (suc m) e) t = plus_some s m e t

-- ---- what is clear stays as it is
pub cleared_twice : (x : Float) → cleared_float (cleared_float x) ≡ cleared_float x
unfolding cleared_float
cleared_twice nan = refl
cleared_twice (inf s) = refl
cleared_twice (fin s zero e) = refl
cleared_twice (fin s (suc m) e) = refl

minus_zero : fin true 0 (pos 0) ≡ neg F.zero
unfolding neg of_bits
minus_zero = refl

unsigned_cleared : (x : Float) → Unsigned x → cleared_float x ≡ x
unfolding cleared_float
unsigned_cleared nan p = refl
unsigned_cleared (inf s) p = refl
unsigned_cleared (fin s (suc m) e) p = refl
unsigned_cleared (fin true zero e) p = absurd (p.signed (zero_exponent true e p.held ∙ minus_zero))
unsigned_cleared (fin false zero e) p = sym (zero_exponent false e p.held)

pub plus_unsigned : (x : Float) → Unsigned x → F.◌⊕◌ F.zero x ≡ x
plus_unsigned x p = stored x p.held ∙ unsigned_cleared x p

-- 0.0 + x is not -0.0
is_minus : Float → Bool
is_minus nan = false
is_minus (inf s) = s
is_minus (fin s m e) = s

no_minus : cleared_float (neg F.zero) ≡ neg F.zero → ⊥
unfolding cleared_float neg of_bits is_minus
no_minus h = false≢true (ap is_minus h)

cleared_unsigned : (x : Float) → T (fits binary64 x) → cleared_float x ≡ x → Unsigned x
cleared_unsigned x t h = record { held = t; signed = λ (e : x ≡ neg F.zero). no_minus (subst (λ (z : Float). cleared_float z ≡ z) e h) }

pub stored_unsigned : (x : Float) → T (fits binary64 x) → Unsigned (F.◌⊕◌ F.zero x)
stored_unsigned x t = cleared_unsigned (F.◌⊕◌ F.zero x) (add-fits binary64 F.zero x) (ap cleared_float (stored x t) ∙ cleared_twice x ∙ sym (stored x t))

plus_again : (x : Float) → T (fits binary64 x) → F.◌⊕◌ F.zero (F.◌⊕◌ F.zero x) ≡ F.◌⊕◌ F.zero x
plus_again x t = plus_unsigned (F.◌⊕◌ F.zero x) (stored_unsigned x t)

pub clear_once : (a b c : Float) → T (fits binary64 a) → T (fits binary64 b) → T (fits binary64 c) → cleared (vec a b c) ≡ vec a b c
clear_once a b c p q r = rw (plus_again a p, plus_again b q, plus_again c r)
