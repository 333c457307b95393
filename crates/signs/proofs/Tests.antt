-- What the comparisons of the side test see of a float: nothing of a zero's sign, and of a negated float the same size and the other side of 0. Assumes nothing.
use Prim.Native.Nat.{ℕ, zero, suc, ◌+◌, ◌*◌, ◌<◌}
use mathlib.Core.Path.{◌≡◌, refl, sym, ap, ◌∙◌}
use mathlib.Core.Bool.{Bool, true, false, not, false≢true}
use native.Mathlib.Nat.{mul-pos, zero-lt-suc}
use native.Mathlib.Omega.{arith}
use borrow.Author.Tests.{lt-ltb, le-ltb}
use lib.IntN.{ℤ, pos, negsuc}
use lib.Dec.{T}
use lib.Ieee.{Float, nan, inf, fin, binary64, up, down, neg, sub, fits, lt, le, of_bits}
use lib.Ieee.Fits.{up_pos, down_pos, neg-fits}
use Rattle.numbers.specs.F64 as F
use Rattle.numbers.specs.Near.{abs, near}
use Rattle.base.specs.Sides.{settles_right, settles_left}
use Rattle.signs.specs.Signs.{cleared_float}
use Rattle.signs.specs.Mirrors.{is_number}
use Rattle.signs.proofs.Clears.{stored}
use Rattle.signs.proofs.Alikes.{zero_times}

some : (m u d : ℕ) → 0 < u → 0 < d → 0 < suc m * u * d
some m u d g h = mul-pos (mul-pos (zero-lt-suc m) g) h

-- ---- below zero: a negative number that is not zero
under_plus : (m : ℕ) (e : ℤ) → lt (fin false m e) F.zero ≡ false
unfolding lt of_bits
under_plus m e = le-ltb (m * up e * 1) (0 * 1 * down e) (omega arith)

under_minus : (m : ℕ) (e : ℤ) → lt (fin true (suc m) e) F.zero ≡ true
unfolding lt of_bits
under_minus m e = let h = some m (up e) 1 (up_pos e) (zero-lt-suc 0) in lt-ltb 0 (suc m * up e * 1 + 0 * 1 * down e) (omega (arith, h))

under_zero : (e : ℤ) → lt (fin true 0 e) F.zero ≡ false
unfolding lt of_bits
under_zero e = le-ltb 0 (0 * up e * 1 + 0 * 1 * down e) (omega arith)

-- ---- above zero
over_plus : (m : ℕ) (e : ℤ) → lt F.zero (fin false (suc m) e) ≡ true
unfolding lt of_bits
over_plus m e = let h = some m (up e) 1 (up_pos e) (zero-lt-suc 0) in lt-ltb (0 * 1 * down e) (suc m * up e * 1) (omega (arith, h))

over_minus : (m : ℕ) (e : ℤ) → lt F.zero (fin true m e) ≡ false
unfolding lt of_bits
over_minus m e = refl

over_zero : (e : ℤ) → lt F.zero (fin false 0 e) ≡ false
unfolding lt of_bits
over_zero e = le-ltb (0 * 1 * down e) (0 * up e * 1) (omega arith)

pub above_cleared : (x : Float) → lt F.zero (cleared_float x) ≡ lt F.zero x
unfolding cleared_float
above_cleared nan = refl
above_cleared (inf s) = refl
above_cleared (fin true zero e) = over_zero (pos 0) ∙ sym (over_minus 0 e)
above_cleared (fin false zero e) = over_zero (pos 0) ∙ sym (over_zero e)
above_cleared (fin s (suc m) e) = refl

above_level : (x y : Float) → cleared_float x ≡ cleared_float y → lt F.zero x ≡ lt F.zero y
above_level x y h = sym (above_cleared x) ∙ ap (λ (z : Float). lt F.zero z) h ∙ above_cleared y

-- above zero one way round is not so the other way round
over_some : (s : Bool) (m : ℕ) (e : ℤ) → lt F.zero (fin (not s) (suc m) e) ≡ not (lt F.zero (fin s (suc m) e))
over_some true m e = over_plus m e ∙ sym (ap not (over_minus (suc m) e))
over_some false m e = over_minus (suc m) e ∙ sym (ap not (over_plus m e))

over_end : (s : Bool) → lt F.zero (inf (not s)) ≡ not (lt F.zero (inf s))
unfolding lt of_bits
over_end true = refl
over_end false = refl

-- ---- the size of a number
size_minus : (m : ℕ) (e : ℤ) → abs (fin true (suc m) e) ≡ fin false (suc m) e
unfolding abs neg
size_minus m e = simp (under_minus m e)

size_plus : (m : ℕ) (e : ℤ) → abs (fin false m e) ≡ fin false m e
unfolding abs
size_plus m e = simp (under_plus m e)

size_zero : (e : ℤ) → abs (fin true 0 e) ≡ fin true 0 e
unfolding abs
size_zero e = simp (under_zero e)

size_end : (s : Bool) → abs (inf (not s)) ≡ abs (inf s)
unfolding abs neg lt of_bits
size_end true = refl
size_end false = refl

-- a limit above 0
module _ (k : ℕ) (d : ℤ) where
  abbrev limit : Float
  limit = fin false (suc k) d

  abbrev small : Float → Bool
  small x = le (abs x) limit

  zero_below : (s : Bool) (e : ℤ) → le (fin s 0 e) limit ≡ true
  unfolding le lt
  zero_below true e =
      let h = some k (up d) (down e) (up_pos d) (down_pos e) in
      simp (lt-ltb 0 (0 * up e * down d + suc k * up d * down e) (omega (arith, h)))
  zero_below false e =
      let h = some k (up d) (down e) (up_pos d) (down_pos e) in
      let z = zero_times (up e) (down d) in
      simp (lt-ltb (0 * up e * down d) (suc k * up d * down e) (omega (arith, h, z)))

  zero_small : (s : Bool) (e : ℤ) → small (fin s 0 e) ≡ true
  zero_small true e = rw (size_zero e) (zero_below true e)
  zero_small false e = rw (size_plus 0 e) (zero_below false e)

  pub small_cleared : (x : Float) → small (cleared_float x) ≡ small x
  unfolding cleared_float
  small_cleared nan = refl
  small_cleared (inf s) = refl
  small_cleared (fin s zero e) = zero_small false (pos 0) ∙ sym (zero_small s e)
  small_cleared (fin s (suc m) e) = refl

  small_level : (x y : Float) → cleared_float x ≡ cleared_float y → small x ≡ small y
  small_level x y h = sym (small_cleared x) ∙ ap small h ∙ small_cleared y

  small_neg : (x : Float) → small (neg x) ≡ small x
  unfolding neg
  small_neg nan = refl
  small_neg (inf s) = ap (λ (z : Float). le z limit) (size_end s)
  small_neg (fin s zero e) = zero_small (not s) e ∙ sym (zero_small s e)
  small_neg (fin true (suc m) e) = rw (size_minus m e, size_plus (suc m) e) refl
  small_neg (fin false (suc m) e) = rw (size_minus m e, size_plus (suc m) e) refl

  small_mirrored : (x y : Float) → cleared_float x ≡ cleared_float (neg y) → small x ≡ small y
  small_mirrored x y h = small_level x (neg y) h ∙ small_neg y

  -- what is not small is above zero or below it
  over_neg : (y : Float) → is_number y ≡ true → small y ≡ false → lt F.zero (neg y) ≡ not (lt F.zero y)
  unfolding neg
  over_neg nan n l = absurd (false≢true n)
  over_neg (inf s) n l = over_end s
  over_neg (fin s zero e) n l = absurd (false≢true (sym l ∙ zero_small s e))
  over_neg (fin s (suc m) e) n l = over_some s m e

  pub above_mirrored : (x y : Float) → cleared_float x ≡ cleared_float (neg y) → is_number y ≡ true → small y ≡ false → lt F.zero x ≡ not (lt F.zero y)
  above_mirrored x y h n l = above_level x (neg y) h ∙ over_neg y n l

-- ---- 2^-52 and 10 * 2^-52
pub epsilon_is : F.epsilon ≡ fin false 1 (negsuc 51)
unfolding of_bits
epsilon_is = refl

pub ten_is : F.ten_epsilon ≡ fin false 5 (negsuc 50)
unfolding of_bits
ten_is = refl

-- within 2^-52 of zero is a small size
pub near_small : (x : Float) → T (fits binary64 x) → near x F.zero ≡ le (abs x) F.epsilon
unfolding sub
near_small x t = rw (stored (neg x) (neg-fits binary64 x t), epsilon_is) (small_cleared 0 (negsuc 51) (neg x) ∙ small_neg 0 (negsuc 51) x)

pub near_mirrored : (x y : Float) → T (fits binary64 x) → T (fits binary64 y) → cleared_float x ≡ cleared_float (neg y) → near x F.zero ≡ near y F.zero
near_mirrored x y s t h = near_small x s ∙ rw epsilon_is (small_mirrored 0 (negsuc 51) x y h) ∙ sym (near_small y t)

pub ten_mirrored : (x y : Float) → cleared_float x ≡ cleared_float (neg y) → le (abs x) F.ten_epsilon ≡ le (abs y) F.ten_epsilon
ten_mirrored x y h = rw ten_is (small_mirrored 4 (negsuc 50) x y h)

-- ---- a product that settles its side alone
ten_level : (x y : Float) → cleared_float x ≡ cleared_float y → le (abs x) F.ten_epsilon ≡ le (abs y) F.ten_epsilon
ten_level x y h = rw ten_is (small_level 4 (negsuc 50) x y h)

pub settles_right_level : (x y : Float) → cleared_float x ≡ cleared_float y → settles_right x ≡ settles_right y
settles_right_level x y h = rw (ten_level x y h, above_level x y h) refl

pub settles_left_level : (x y : Float) → cleared_float x ≡ cleared_float y → settles_left x ≡ settles_left y
settles_left_level x y h = rw (ten_level x y h, above_level x y h) refl
