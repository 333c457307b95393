-- A zero's sign is seen by no sum and no product but in the sign of a zero. Assumes nothing.
use Prim.Native.Nat.{ℕ, zero, suc, ◌+◌, ◌-◌, ◌*◌, ◌<◌}
use mathlib.Core.Path.{◌≡◌, refl, sym, ap, ◌∙◌}
use mathlib.Core.Bool.{Bool, true, false, cond}
use native.Mathlib.Nat.{mul_comm, mul-pos, zero-lt-suc}
use native.Mathlib.Omega.{arith}
use borrow.Author.Tests.{lt-ltb, le-ltb}
use lib.IntN.{ℤ, pos}
use lib.Dec.{eqb}
use lib.Ieee.{Float, nan, inf, fin, binary64, up, down, round, neg, add, sub, mul, sum, unlike}
use lib.Ieee.Fits.{down_pos, up_pos}
use lib.Ieee.Scale.{round_same}
use Rattle.numbers.proofs.Rounds.{round_zero}
use Rattle.signs.specs.Signs.{cleared_float}
use Rattle.signs.proofs.Rounding.{round_neg, mul_neg}
use Rattle.signs.proofs.Adding.{add_order, add_neg}

pub neg_twice : (x : Float) → neg (neg x) ≡ x
unfolding neg
neg_twice nan = refl
neg_twice (inf true) = refl
neg_twice (inf false) = refl
neg_twice (fin true m e) = refl
neg_twice (fin false m e) = refl

pub neg_cleared : (x : Float) → cleared_float (neg x) ≡ cleared_float (neg (cleared_float x))
unfolding neg cleared_float
neg_cleared nan = refl
neg_cleared (inf s) = refl
neg_cleared (fin s zero e) = refl
neg_cleared (fin s (suc m) e) = refl

-- a fraction that is zero
cleared_zero : (s : Bool) (num den : ℕ) → 0 < den → num ≡ 0 → cleared_float (round binary64 s num den) ≡ fin false 0 (pos 0)
unfolding cleared_float neg
cleared_zero false num den h e = rw (round_zero num den h e) refl
cleared_zero true num den h e = ap cleared_float (round_neg false num den) ∙ rw (round_zero num den h e) refl

-- ---- products
unlike_order : (s t : Bool) → unlike s t ≡ unlike t s
unlike_order true true = refl
unlike_order true false = refl
unlike_order false true = refl
unlike_order false false = refl

pub mul_order : (x y : Float) → mul binary64 x y ≡ mul binary64 y x
unfolding mul
mul_order nan nan = refl
mul_order nan (inf t) = refl
mul_order nan (fin t n d) = refl
mul_order (inf s) nan = refl
mul_order (inf s) (inf t) = ap inf (unlike_order s t)
mul_order (inf s) (fin t n d) = ap (λ (b : Bool). cond (eqb n 0) nan (inf b)) (unlike_order s t)
mul_order (fin s m e) nan = refl
mul_order (fin s m e) (inf t) = ap (λ (b : Bool). cond (eqb m 0) nan (inf b)) (unlike_order s t)
mul_order (fin s m e) (fin t n d) = rw (unlike_order s t, mul_comm (m * up e) (n * up d), mul_comm (down e) (down d)) refl

pub zero_times : (a b : ℕ) → 0 * a * b ≡ 0
zero_times a b = omega arith

mul_cleared_left : (x y : Float) → cleared_float (mul binary64 x y) ≡ cleared_float (mul binary64 (cleared_float x) y)
unfolding mul cleared_float
mul_cleared_left nan y = refl
mul_cleared_left (inf s) y = refl
mul_cleared_left (fin s (suc m) e) y = refl
mul_cleared_left (fin s zero e) nan = refl
mul_cleared_left (fin s zero e) (inf t) = refl
mul_cleared_left (fin s zero e) (fin t n d) =
    cleared_zero (unlike s t) (0 * up e * (n * up d)) (down e * down d) (mul-pos (down_pos e) (down_pos d)) (zero_times (up e) (n * up d))
    ∙ sym (cleared_zero (unlike false t) (0 * 1 * (n * up d)) (1 * down d) (mul-pos (zero-lt-suc 0) (down_pos d)) (zero_times 1 (n * up d)))

pub mul_alike_left : (x z y : Float) → cleared_float x ≡ cleared_float z → cleared_float (mul binary64 x y) ≡ cleared_float (mul binary64 z y)
mul_alike_left x z y h = mul_cleared_left x y ∙ ap (λ (w : Float). cleared_float (mul binary64 w y)) h ∙ sym (mul_cleared_left z y)

pub mul_alike_right : (x y z : Float) → cleared_float y ≡ cleared_float z → cleared_float (mul binary64 x y) ≡ cleared_float (mul binary64 x z)
mul_alike_right x y z h = ap cleared_float (mul_order x y) ∙ mul_alike_left y z x h ∙ ap cleared_float (mul_order z x)

pub mul_neg_right : (x y : Float) → mul binary64 x (neg y) ≡ neg (mul binary64 x y)
mul_neg_right x y = mul_order x (neg y) ∙ mul_neg y x ∙ ap neg (mul_order y x)

-- ---- sums
sum_some : (s t : Bool) (a b c : ℕ) → a ≡ 0 → 0 < b → sum binary64 s a t b c ≡ round binary64 t b c
unfolding sum
sum_some true true a b c e h = let p : a + b ≡ b = omega (arith, e) in rw p refl
sum_some false false a b c e h = let p : a + b ≡ b = omega (arith, e) in rw p refl
sum_some true false a b c e h = let p : b - a ≡ b = omega (arith, e) in let l : a < b = omega (arith, e, h) in simp (lt-ltb a b l, p)
sum_some false true a b c e h = let p : b - a ≡ b = omega (arith, e) in let l : a < b = omega (arith, e, h) in simp (lt-ltb a b l, p)

sum_none : (s t : Bool) (a b c : ℕ) → 0 < c → a ≡ 0 → b ≡ 0 → cleared_float (sum binary64 s a t b c) ≡ fin false 0 (pos 0)
unfolding sum
sum_none true true a b c h e f = cleared_zero true (a + b) c h (omega (arith, e, f))
sum_none false false a b c h e f = cleared_zero false (a + b) c h (omega (arith, e, f))
sum_none true false a b c h e f = simp (le-ltb a b (omega (arith, e, f)), le-ltb b a (omega (arith, e, f))) (cleared_zero false (a - b) c h (omega (arith, e, f)))
sum_none false true a b c h e f = simp (le-ltb a b (omega (arith, e, f))) (cleared_zero false (a - b) c h (omega (arith, e, f)))

add_zero_some : (s t : Bool) (e d : ℤ) (n : ℕ) → add binary64 (fin s 0 e) (fin t (suc n) d) ≡ round binary64 t (suc n * up d) (down d)
unfolding add
add_zero_some s t e d n =
    let u = suc n * up d in
    let p : 0 < u = mul-pos (zero-lt-suc n) (up_pos d) in
    sum_some s t (0 * up e * down d) (u * down e) (down e * down d) (zero_times (up e) (down d)) (mul-pos p (down_pos e))
    ∙ round_same binary64 t (u * down e) (down e * down d) u (down d) (mul-pos (down_pos e) (down_pos d)) (down_pos d) (scaled u (down e) (down d))
  where
    scaled : (u a b : ℕ) → u * a * b ≡ u * (a * b)
    scaled u a b = omega arith

add_zero_none : (s t : Bool) (e d : ℤ) → cleared_float (add binary64 (fin s 0 e) (fin t 0 d)) ≡ fin false 0 (pos 0)
unfolding add
add_zero_none s t e d =
    sum_none s t (0 * up e * down d) (0 * up d * down e) (down e * down d) (mul-pos (down_pos e) (down_pos d)) (zero_times (up e) (down d)) (zero_times (up d) (down e))

add_cleared_left : (x y : Float) → cleared_float (add binary64 x y) ≡ cleared_float (add binary64 (cleared_float x) y)
unfolding cleared_float
add_cleared_left nan y = refl
add_cleared_left (inf s) y = refl
add_cleared_left (fin s (suc m) e) y = refl
add_cleared_left (fin s zero e) nan = unfold add in refl
add_cleared_left (fin s zero e) (inf t) = unfold add in refl
add_cleared_left (fin s zero e) (fin t zero d) = add_zero_none s t e d ∙ sym (add_zero_none false t (pos 0) d)
add_cleared_left (fin s zero e) (fin t (suc n) d) = ap cleared_float (add_zero_some s t e d n ∙ sym (add_zero_some false t (pos 0) d n))

add_alike_left : (x z y : Float) → cleared_float x ≡ cleared_float z → cleared_float (add binary64 x y) ≡ cleared_float (add binary64 z y)
add_alike_left x z y h = add_cleared_left x y ∙ ap (λ (w : Float). cleared_float (add binary64 w y)) h ∙ sym (add_cleared_left z y)

pub add_alike : (x z y w : Float) → cleared_float x ≡ cleared_float z → cleared_float y ≡ cleared_float w → cleared_float (add binary64 x y) ≡ cleared_float (add binary64 z w)
add_alike x z y w g h = add_alike_left x z y g ∙ ap cleared_float (add_order z y) ∙ add_alike_left y w z h ∙ ap cleared_float (add_order w z)

-- a difference the other way round
pub sub_swapped : (x y : Float) → cleared_float (sub binary64 y x) ≡ cleared_float (neg (sub binary64 x y))
unfolding sub
sub_swapped x y =
    ap cleared_float (add_order y (neg x))
    ∙ ap (λ (w : Float). cleared_float (add binary64 (neg x) w)) (sym (neg_twice y))
    ∙ add_neg x (neg y)
