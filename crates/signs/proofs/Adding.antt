-- A sum does not depend on the order of the two, and of two negated it is the negated sum, but for a zero's sign. Assumes nothing.
use Prim.Native.Nat.{ℕ, ◌+◌, ◌-◌, ◌*◌, ◌<◌}
use mathlib.Core.Path.{◌≡◌, refl, ap, ◌∙◌}
use mathlib.Core.Bool.{Bool, true, false, not}
use native.Mathlib.Nat.{mul_comm, add_comm, mul-pos}
use native.Mathlib.Omega.{arith}
use borrow.Author.Tests.{ltb-true, ltb-false, le-ltb}
use lib.Dec.{ltb}
use lib.Ieee.{Float, nan, inf, fin, binary64, up, down, round, neg, add, sum}
use lib.Ieee.Fits.{down_pos}
use Rattle.numbers.proofs.Rounds.{round_zero}
use Rattle.signs.specs.Signs.{cleared_float}
use Rattle.signs.proofs.Rounding.{round_neg}

-- by which of the two is larger
data Against (a b : ℕ) : Type 0 where
  less : ltb a b ≡ true → ltb b a ≡ false → Against a b
  more : ltb a b ≡ false → ltb b a ≡ true → Against a b
  even : ltb a b ≡ false → ltb b a ≡ false → a ≡ b → Against a b

by_test : (a b : ℕ) (p q : Bool) → ltb a b ≡ p → ltb b a ≡ q → Against a b
by_test a b true q e f = let l = ltb-true a b e in less e (le-ltb b a (omega (arith, l)))
by_test a b false true e f = more e f
by_test a b false false e f = let l = ltb-false a b e in let m = ltb-false b a f in even e f (omega (arith, l, m))

against : (a b : ℕ) → Against a b
against a b = by_test a b (ltb a b) (ltb b a) refl refl

-- ---- the order
sum_by : (s t : Bool) (a b c : ℕ) → Against a b → sum binary64 s a t b c ≡ sum binary64 t b s a c
unfolding sum
sum_by true true a b c h = ap (λ (n : ℕ). round binary64 true n c) (add_comm a b)
sum_by false false a b c h = ap (λ (n : ℕ). round binary64 false n c) (add_comm a b)
sum_by true false a b c (less e f) = rw (e, f) refl
sum_by true false a b c (more e f) = rw (e, f) refl
sum_by true false a b c (even e f g) = rw (e, f, g) refl
sum_by false true a b c (less e f) = rw (e, f) refl
sum_by false true a b c (more e f) = rw (e, f) refl
sum_by false true a b c (even e f g) = rw (e, f, g) refl

pub add_order : (x y : Float) → add binary64 x y ≡ add binary64 y x
unfolding add
add_order nan nan = refl
add_order nan (inf t) = refl
add_order nan (fin t n d) = refl
add_order (inf s) nan = refl
add_order (inf true) (inf true) = refl
add_order (inf true) (inf false) = refl
add_order (inf false) (inf true) = refl
add_order (inf false) (inf false) = refl
add_order (inf s) (fin t n d) = refl
add_order (fin s m e) nan = refl
add_order (fin s m e) (inf t) = refl
add_order (fin s m e) (fin t n d) =
    sum_by s t (m * up e * down d) (n * up d * down e) (down e * down d) (against (m * up e * down d) (n * up d * down e))
    ∙ ap (λ (c : ℕ). sum binary64 t (n * up d * down e) s (m * up e * down d) c) (mul_comm (down e) (down d))

-- ---- the signs
-- a zero of either sign is cleared_float
zero_cleared : (c : ℕ) → 0 < c → (n : ℕ) → n ≡ 0 → cleared_float (round binary64 false n c) ≡ cleared_float (neg (round binary64 false n c))
unfolding cleared_float neg
zero_cleared c h n e = rw (round_zero n c h e) refl

sum_neg : (s t : Bool) (a b c : ℕ) → 0 < c → Against a b → cleared_float (sum binary64 (not s) a (not t) b c) ≡ cleared_float (neg (sum binary64 s a t b c))
unfolding sum
sum_neg true true a b c h k = ap cleared_float (round_neg true (a + b) c)
sum_neg false false a b c h k = ap cleared_float (round_neg false (a + b) c)
sum_neg true false a b c h (less e f) = simp (e, f) (ap cleared_float (round_neg false (b - a) c))
sum_neg true false a b c h (more e f) = simp (e, f) (ap cleared_float (round_neg true (a - b) c))
sum_neg true false a b c h (even e f g) = simp (e, f) (zero_cleared c h (a - b) (omega (arith, g)))
sum_neg false true a b c h (less e f) = simp (e, f) (ap cleared_float (round_neg true (b - a) c))
sum_neg false true a b c h (more e f) = simp (e, f) (ap cleared_float (round_neg false (a - b) c))
sum_neg false true a b c h (even e f g) = simp (e, f) (zero_cleared c h (a - b) (omega (arith, g)))

pub add_neg : (x y : Float) → cleared_float (add binary64 (neg x) (neg y)) ≡ cleared_float (neg (add binary64 x y))
unfolding add neg
add_neg nan y = refl
add_neg (inf s) nan = refl
add_neg (inf true) (inf true) = refl
add_neg (inf true) (inf false) = refl
add_neg (inf false) (inf true) = refl
add_neg (inf false) (inf false) = refl
add_neg (inf s) (fin t n d) = refl
add_neg (fin s m e) nan = refl
add_neg (fin s m e) (inf t) = refl
add_neg (fin s m e) (fin t n d) = sum_neg s t (m * up e * down d) (n * up d * down e) (down e * down d) (mul-pos (down_pos e) (down_pos d)) (against (m * up e * down d) (n * up d * down e))
