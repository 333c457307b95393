-- The constants and the float angle of a slope are near both ends of the exact ones. Assumes nothing.
use Prim.Native.Nat.{ℕ, ◌+◌, ◌-◌, ◌*◌, ◌^◌, ◌≤◌, ◌<◌}
use native.Mathlib.Nat.{mul-pos, mul-le-mul, mul-le-mul_right, le_of_mul-le-mul_right}
use native.Mathlib.Omega.{arith}
use lib.Dec.{lit≤}
use lib.Ieee.{Float, binary64, of_bits, sub}
use Rattle.fractions.specs.Frac.{Frac, ◌over◌, ◌⊞◌, ◌⊟◌, ◌⊠◌, ◌≼◌, magnitude}
use Rattle.exact_angles.specs.Exact.{coef, power, term, partial, Shut, Closing, slope, less, quarter, half, whole}
use Rattle.angle.specs.Arctan as A
use Rattle.fractions.proofs.Order.{Same, same_le, same_ge}
use Rattle.fractions.proofs.Frac.{Le, Pos, le_trans, le_grow, le_sub, mul_le, le_of}
use Rattle.fractions.proofs.Round.{Plus, Near}
use Rattle.fractions.proofs.Ops.{den_pos, near_move, sub_op}
use Rattle.exact_angles.proofs.Horner.{nest, nest_pos, nest_small}
use Rattle.exact_angles.proofs.Sharp.{acute_near, means}
use Rattle.exact_angles.proofs.Ends.{nest_all, partial_pos, term_small}
use Rattle.exact_angles.proofs.Shut.{quarter_closing, half_closing, whole_closing, slope_closing, low_from, high_from}

-- ---- within e * 2 ^ -53 of both ends, from the 48th on
pub record Close (x : Float) (a : Shut) (e : ℕ) : Type 0 where
  pub plus : Plus x
  pub above : (n : ℕ) → 48 ≤ n → Le (magnitude x) (a.low n) e
  pub below : (n : ℕ) → 48 ≤ n → Le (a.high n) (magnitude x) e

still : (e : ℕ) → e + 0 ≤ e
still e = omega arith

still' : (e : ℕ) → 0 + e ≤ e
still' e = omega arith

no_times : (n d : ℕ) → 0 * n ≤ 0 * d
no_times n d = omega arith

pub close_at : (x : Float) (a : Shut) (c e : ℕ) → Closing a c → Plus x → Le (magnitude x) (a.low 48) e → Le (a.high 48) (magnitude x) e → Close x a e
close_at x a c e h p u v = record {
  plus = p;
  above = λ n l. le_grow (magnitude x) (a.low n) (e + 0) e (still e) (le_trans (magnitude x) (a.low 48) (a.low n) e 0 (h.low_is 48) u (le_of (a.low 48) (a.low n) (low_from a c h 48 n l)));
  below = λ n l. le_grow (a.high n) (magnitude x) (0 + e) e (still' e) (le_trans (a.high n) (a.high 48) (magnitude x) 0 e (h.high_is 48) (le_of (a.high n) (a.high 48) (high_from a c h 48 n l)) v);
}

pub close_sub : (x y : Float) (a b : Shut) (e f j : ℕ) → Close x a e → Close y b f → j ≤ 20 → magnitude y ≼ magnitude x
    → (magnitude x ⊟ magnitude y).num ≤ 2 ^ j * (magnitude x ⊟ magnitude y).den → Close (sub binary64 x y) (less a b) (2 ^ j + (e + f))
close_sub x y a b e f j h k s l o =
    let X = magnitude x in
    let Y = magnitude y in
    let D : Pos (X ⊟ Y) = mul-pos (den_pos x) (den_pos y) in
    let r = sub_op x y j h.plus k.plus s l o in
    record {
      plus = r.plus;
      above = λ n m. le_trans (magnitude (sub binary64 x y)) (X ⊟ Y) (a.low n ⊟ b.high n) (2 ^ j) (e + f) D r.above (le_sub X (a.low n) Y (b.high n) e f (h.above n m) (k.below n m));
      below = λ n m.
          flip (a.high n ⊟ b.low n) (magnitude (sub binary64 x y))
          (le_trans (a.high n ⊟ b.low n) (X ⊟ Y) (magnitude (sub binary64 x y)) (e + f) (2 ^ j) D (le_sub (a.high n) X (b.low n) Y e f (h.below n m) (k.above n m)) r.below);
    }
  where
    flip : (u v : Frac) → Le u v (e + f + 2 ^ j) → Le u v (2 ^ j + (e + f))
    flip u v h = le_grow u v (e + f + 2 ^ j) (2 ^ j + (e + f)) (omega arith) h

-- ---- the constants
pub quarter_close : Close A.FRAC_PI_4 quarter 4
unfolding slope partial term power coef of_bits
quarter_close = close_at A.FRAC_PI_4 quarter 1 4 quarter_closing tt (lit≤ tt) (lit≤ tt)

pub half_close : Close A.FRAC_PI_2 half 8
unfolding slope partial term power coef of_bits
half_close = close_at A.FRAC_PI_2 half 2 8 half_closing tt (lit≤ tt) (lit≤ tt)

pub whole_close : Close A.PI whole 16
unfolding slope partial term power coef of_bits
whole_close = close_at A.PI whole 4 16 whole_closing tt (lit≤ tt) (lit≤ tt)

-- ---- the series
gap : (f g a b c d : ℕ) → 2 * f ≤ g → c * 281474976710656 ≤ d
    → f * (a * d + c * b) * (g * b) * 9007199254740992 ≤ f * a * (g * (b * d)) * 9007199254740992 + 16 * (g * (b * d) * (g * b))
gap f g a b c d h k = omega (arith, mul-le-mul_right (g * (b * b)) (mul-le-mul h k))

pub record Small (x : Float) (i j : ℕ) : Type 0 where
  pub small : i * (magnitude x).num ≤ j * (magnitude x).den

three_halves : (an ad bn bd : ℕ) → 0 < bd → an * bd * 9007199254740992 ≤ bn * ad * 9007199254740992 + 81 * (ad * bd) → bn ≤ bd → 2 * an ≤ 3 * ad
three_halves an ad bn bd B h k = le_of_mul-le-mul_right {k = bd} (omega (arith, h, mul-le-mul_right ad k)) B

module _ (t : Float) (P Q : ℕ) (q : 0 < Q) (l : P ≤ Q) (n : Near t (P over Q) 1) (o : magnitude t ≼ (1 over 1)) where
  abbrev Y : Frac
  Y = (P * P) over (P * P + Q * Q)

  abbrev F : Frac
  F = (P * Q) over (P * P + Q * Q)

  Y_pos : Pos Y
  Y_pos = omega (arith, mul-pos q q)

  Y_half : 2 * (P * P) ≤ P * P + Q * Q
  Y_half = omega (arith, mul-le-mul l l)

  sum_pos : Pos (nest Y 0 48)
  sum_pos = nest_pos Y Y_pos 48 0

  pub acute_close : Close (A.acute t) (slope P Q) 97
  unfolding slope
  acute_close =
      let r = acute_near t P Q q l n o in
      let e : Same (nest Y 0 48) (partial Y 48) = nest_all Y Y_pos 47 in
      let m : Near (A.acute t) (F ⊠ partial Y 48) 81 =
      near_move (A.acute t) (F ⊠ nest Y 0 48) (F ⊠ partial Y 48) 81 0 (mul-pos Y_pos sum_pos) r
      (mul_le (nest Y 0 48) (partial Y 48) F 0 0 (same_le (nest Y 0 48) (partial Y 48) e) (no_times F.num F.den))
      (mul_le (partial Y 48) (nest Y 0 48) F 0 0 (same_ge (nest Y 0 48) (partial Y 48) e) (no_times F.num F.den)) in
      let g : Le (F ⊠ (partial Y 48 ⊞ term Y 48)) (F ⊠ partial Y 48) 16 = gap (P * Q) (P * P + Q * Q) (partial Y 48).num (partial Y 48).den (term Y 48).num (term Y 48).den (means P Q l) (term_small Y Y_half 48) in
      close_at (A.acute t) (slope P Q) 1 97 (slope_closing P Q q l) m.plus
      (le_grow (magnitude (A.acute t)) (F ⊠ partial Y 48) 81 97 (lit≤ tt) m.above)
      (le_trans (F ⊠ (partial Y 48 ⊞ term Y 48)) (F ⊠ partial Y 48) (magnitude (A.acute t)) 16 81 (mul-pos Y_pos (partial_pos Y Y_pos 48)) g m.below)

  pub acute_small : Small (A.acute t) 2 3
  acute_small =
      record {
        small = three_halves (magnitude (A.acute t)).num (magnitude (A.acute t)).den (F ⊠ nest Y 0 48).num (F ⊠ nest Y 0 48).den (mul-pos Y_pos sum_pos) (acute_near t P Q q l n o).above
            (product (P * Q) (P * P + Q * Q) (nest Y 0 48).num (nest Y 0 48).den (means P Q l) (nest_small Y Y_pos Y_half 48 0));
      }
    where
      product : (a b c d : ℕ) → 2 * a ≤ b → c ≤ 2 * d → a * c ≤ b * d
      product a b c d h k = omega (arith, mul-le-mul h k)
