-- What the float tests say of the exact products, and what those say of the foot's. Assumes nothing.
use mathlib.Core.Path.{◌≡◌, refl, sym, subst}
use mathlib.Core.Bool.{Bool, true, false, not, cond}
use Prim.Native.Nat.{ℕ, ◌+◌, ◌-◌, ◌*◌, ◌≤◌, ◌<◌}
use native.Mathlib.Nat.{mul-pos, mul-le-mul, mul-le-mul_right, le_of_mul-le-mul_right, add-sub_of_le}
use native.Mathlib.Omega.{arith}
use lib.IntN.{ℤ}
use lib.Dec.{T, ltb→lt, nltb→le}
use lib.Ieee.{Float, nan, inf, fin, of_bits, up, down, neg, lt, le}
use lib.Ieee.Fits.{down_pos}
use Rattle.numbers.specs.F64 as F
use Rattle.numbers.specs.Near.{abs}
use Rattle.fractions.specs.Frac.{magnitude}
use Rattle.fractions.proofs.Ops.{le_cross}
use Rattle.fractions.proofs.Sizes.{Fin}
use Rattle.exact_angles.proofs.Adds.{SNear}
use Rattle.sure_sides.specs.Sure.{limit, margin, slack}
use Rattle.sure_sides.proofs.Binet.{Z, ◌+z◌, ◌*z◌, negz, ◌=z◌, prod_le}
use Rattle.sure_sides.proofs.Settled.{plus_is}
use Rattle.sure_sides.proofs.Near.{at, opened}

-- ---- beyond the margin
over_at : (a d p q D : ℕ) → 0 < d → 1 * 1 * d < a * 1073741824 → (a * D + q * d) * 9007199254740992 ≤ (p * d + 0 * D) * 9007199254740992 + 36 * (d * D) → q * 9007199254740992 + 8388572 * D ≤ p * 9007199254740992
over_at a d p q D P h k =
    let x : d * 8388608 ≤ a * 9007199254740992 = omega arith in
    le_of_mul-le-mul_right {k = d} (omega (arith, mul-le-mul_right D x)) P

under_at : (a d p q D : ℕ) → 0 < d → 1 * 1 * d < a * 1073741824 → (p * d + a * D) * 9007199254740992 ≤ (0 * D + q * d) * 9007199254740992 + 36 * (d * D) → p * 9007199254740992 + 8388572 * D ≤ q * 9007199254740992
under_at a d p q D P h k =
    let x : d * 8388608 ≤ a * 9007199254740992 = omega arith in
    le_of_mul-le-mul_right {k = d} (omega (arith, mul-le-mul_right D x)) P

pub over : (x : Float) (z : Z) (D : ℕ) → 0 < D → lt margin x ≡ true → SNear x (at z D) 36 → z.q * 9007199254740992 + 8388572 * D ≤ z.p * 9007199254740992
unfolding lt of_bits
over nan z D P h n = absurd n.finite
over (inf s) z D P h n = absurd n.finite
over (fin true m e) z D P h n = absurd (subst T (sym h) tt)
over (fin false m e) z D P h n = over_at (m * up e) (down e) z.p z.q D (down_pos e) (ltb→lt (1 * 1 * down e) (m * up e * 1073741824) (subst T (sym h) tt)) (opened (fin false m e) z D 36 P n).above

pub under : (x : Float) (z : Z) (D : ℕ) → 0 < D → lt x (neg margin) ≡ true → SNear x (at z D) 36 → z.p * 9007199254740992 + 8388572 * D ≤ z.q * 9007199254740992
unfolding lt neg of_bits
under nan z D P h n = absurd n.finite
under (inf s) z D P h n = absurd n.finite
under (fin false m e) z D P h n = absurd (subst T (sym h) tt)
under (fin true m e) z D P h n = under_at (m * up e) (down e) z.p z.q D (down_pos e) (ltb→lt (1 * 1 * down e) (m * up e * 1073741824) (subst T (sym h) tt)) (opened (fin true m e) z D 36 P n).below

-- ---- above a half, so the exact one is above a quarter
half_at : (a d p q D : ℕ) → 0 < d → 1 * 1 * d < a * 2 → (a * D + q * d) * 9007199254740992 ≤ (p * d + 0 * D) * 9007199254740992 + 36 * (d * D) → q * 4 + D ≤ p * 4
half_at a d p q D P h k =
    let x : d ≤ a * 2 = omega arith in
    le_of_mul-le-mul_right {k = d} (omega (arith, mul-le-mul_right D x)) P

pub over_half : (x : Float) (z : Z) (D : ℕ) → 0 < D → lt F.half x ≡ true → SNear x (at z D) 36 → z.q * 4 + D ≤ z.p * 4
unfolding lt of_bits
over_half nan z D P h n = absurd n.finite
over_half (inf s) z D P h n = absurd n.finite
over_half (fin true m e) z D P h n = absurd (subst T (sym h) tt)
over_half (fin false m e) z D P h n = half_at (m * up e) (down e) z.p z.q D (down_pos e) (ltb→lt (1 * 1 * down e) (m * up e * 2) (subst T (sym h) tt)) (opened (fin false m e) z D 36 P n).above

-- ---- no more than 2^-36 in size
tiny : (x : Float) → Fin x → le (abs x) slack ≡ true → (magnitude x).num * 68719476736 ≤ (magnitude x).den
unfolding abs
tiny nan f h = absurd f
tiny (inf s) f h = absurd f
tiny (fin false m e) f h = low m e (subst (λ (b : Bool). le (cond b (neg (fin false m e)) (fin false m e)) slack ≡ true) (plus_is m e) h)
  where
    low : (m : ℕ) (e : ℤ) → le (fin false m e) slack ≡ true → m * up e * 68719476736 ≤ down e
    low m e h = unfold of_bits in go (m * up e) (down e) (le_cross (fin false m e) slack tt tt (subst T (sym h) tt))
      where
        go : (a d : ℕ) → a * 68719476736 ≤ 1 * 1 * d → a * 68719476736 ≤ d
        go a d h = omega arith
tiny (fin true m e) f h = go (lt (fin true m e) F.zero) refl h
  where
    flat : (m : ℕ) (e : ℤ) → lt (fin true m e) F.zero ≡ false → m * up e * 68719476736 ≤ down e
    flat m e k = unfold lt of_bits in at_zero (m * up e) (down e) (nltb→le 0 (m * up e * 1 + 0 * 1 * down e) (subst (λ (b : Bool). T (not b)) (sym k) tt))
      where
        at_zero : (a d : ℕ) → a * 1 + 0 * 1 * d ≤ 0 → a * 68719476736 ≤ d
        at_zero a d h = omega arith

    low : (m : ℕ) (e : ℤ) → le (neg (fin true m e)) slack ≡ true → m * up e * 68719476736 ≤ down e
    low m e h = unfold neg of_bits in one (m * up e) (down e) (le_cross (fin false m e) slack tt tt (subst T (sym h) tt))
      where
        one : (a d : ℕ) → a * 68719476736 ≤ 1 * 1 * d → a * 68719476736 ≤ d
        one a d h = omega arith

    go : (b : Bool) → lt (fin true m e) F.zero ≡ b → le (cond b (neg (fin true m e)) (fin true m e)) slack ≡ true → m * up e * 68719476736 ≤ down e
    go true k h = low m e h
    go false k h = flat m e k

pub record Flat (z : Z) (D : ℕ) : Type 0 where
  pub above : z.p * 9007199254740992 ≤ z.q * 9007199254740992 + 131108 * D
  pub below : z.q * 9007199254740992 ≤ z.p * 9007199254740992 + 131108 * D

far_at : (a d p q D : ℕ) → 0 < d → a * 68719476736 ≤ d → p * d * 9007199254740992 ≤ (a * D + q * d) * 9007199254740992 + 36 * (d * D) → p * 9007199254740992 ≤ q * 9007199254740992 + 131108 * D
far_at a d p q D P h k = le_of_mul-le-mul_right {k = d} (omega (arith, mul-le-mul_right D h)) P

near_at : (a d p q D : ℕ) → 0 < d → (a * D + q * d) * 9007199254740992 ≤ p * d * 9007199254740992 + 36 * (d * D) → q * 9007199254740992 ≤ p * 9007199254740992 + 131108 * D
near_at a d p q D P k = le_of_mul-le-mul_right {k = d} (omega arith) P

pub flat : (x : Float) (z : Z) (D : ℕ) → 0 < D → le (abs x) slack ≡ true → SNear x (at z D) 36 → Flat z D
flat nan z D P h n = absurd n.finite
flat (inf s) z D P h n = absurd n.finite
flat (fin false m e) z D P h n = record {
  above = far_at (m * up e) (down e) z.p z.q D (down_pos e) (tiny (fin false m e) tt h) (first (m * up e) (down e) z.p z.q (opened (fin false m e) z D 36 P n).below);
  below = near_at (m * up e) (down e) z.p z.q D (down_pos e) (second (m * up e) (down e) z.p z.q (opened (fin false m e) z D 36 P n).above);
}
  where
    first : (a d p q : ℕ) → (p * d + 0 * D) * 9007199254740992 ≤ (a * D + q * d) * 9007199254740992 + 36 * (d * D) → p * d * 9007199254740992 ≤ (a * D + q * d) * 9007199254740992 + 36 * (d * D)
    first a d p q h = omega arith

    second : (a d p q : ℕ) → (a * D + q * d) * 9007199254740992 ≤ (p * d + 0 * D) * 9007199254740992 + 36 * (d * D) → (a * D + q * d) * 9007199254740992 ≤ p * d * 9007199254740992 + 36 * (d * D)
    second a d p q h = omega arith
flat (fin true m e) z D P h n = record {
  above = near_at (m * up e) (down e) z.q z.p D (down_pos e) (second (m * up e) (down e) z.p z.q (opened (fin true m e) z D 36 P n).below);
  below = far_at (m * up e) (down e) z.q z.p D (down_pos e) (tiny (fin true m e) tt h) (first (m * up e) (down e) z.p z.q (opened (fin true m e) z D 36 P n).above);
}
  where
    first : (a d p q : ℕ) → (0 * D + q * d) * 9007199254740992 ≤ (p * d + a * D) * 9007199254740992 + 36 * (d * D) → q * d * 9007199254740992 ≤ (a * D + p * d) * 9007199254740992 + 36 * (d * D)
    first a d p q h = omega arith

    second : (a d p q : ℕ) → (p * d + a * D) * 9007199254740992 ≤ (0 * D + q * d) * 9007199254740992 + 36 * (d * D) → (a * D + p * d) * 9007199254740992 ≤ q * d * 9007199254740992 + 36 * (d * D)
    second a d p q h = omega arith

-- ---- the foot's product before the root, S = 2 (X Y - U O) with Y next to 0: beyond 270000 units
uv_at : (b u c v D : ℕ) → 8388572 * D ≤ u * 9007199254740992 → D ≤ v * 4 → ((b + u) * c + b * (c + v)) * 9007199254740992 * 4 + 8388572 * (D * D) ≤ ((b + u) * (c + v) + b * c) * 9007199254740992 * 4
uv_at b u c v D h k = omega (arith, mul-le-mul h k)

uv : (Up Uq Vp Vq D : ℕ) → Uq * 9007199254740992 + 8388572 * D ≤ Up * 9007199254740992 → Vq * 4 + D ≤ Vp * 4 → (Up * Vq + Uq * Vp) * 9007199254740992 * 4 + 8388572 * (D * D) ≤ (Up * Vp + Uq * Vq) * 9007199254740992 * 4
uv Up Uq Vp Vq D h k =
    let i : Uq ≤ Up = omega arith in
    let j : Vq ≤ Vp = omega arith in
    subst (λ (y : ℕ). (y * Vq + Uq * Vp) * 9007199254740992 * 4 + 8388572 * (D * D) ≤ (y * Vp + Uq * Vq) * 9007199254740992 * 4) (add-sub_of_le i)
    (subst (λ (y : ℕ). ((Uq + (Up - Uq)) * Vq + Uq * y) * 9007199254740992 * 4 + 8388572 * (D * D) ≤ ((Uq + (Up - Uq)) * y + Uq * Vq) * 9007199254740992 * 4) (add-sub_of_le j)
    (uv_at Uq (Up - Uq) Vq (Vp - Vq) D (omega arith) (omega arith)))

combine : (xp xq up uq Tp Tq DD : ℕ) → xp * 9007199254740992 ≤ xq * 9007199254740992 + 1573296 * DD → uq * 9007199254740992 * 4 + 8388572 * DD ≤ up * 9007199254740992 * 4
    → Tp + (xq + up + (xq + up)) ≡ xp + uq + (xp + uq) + Tq → Tp * 9007199254740992 + 270000 * DD ≤ Tq * 9007199254740992
combine xp xq up uq Tp Tq DD h k e = omega arith

final_at : (Xp Xq Yp Yq Up Uq Vp Vq Tp Tq D : ℕ) → Xp ≤ Xq + 12 * D → Xq ≤ Xp + 12 * D → Yp * 9007199254740992 ≤ Yq * 9007199254740992 + 131108 * D → Yq * 9007199254740992 ≤ Yp * 9007199254740992 + 131108 * D
    → Uq * 9007199254740992 + 8388572 * D ≤ Up * 9007199254740992 → Vq * 4 + D ≤ Vp * 4
    → Tp + (Xp * Yq + Xq * Yp + (Up * Vp + Uq * Vq) + (Xp * Yq + Xq * Yp + (Up * Vp + Uq * Vq))) ≡ Xp * Yp + Xq * Yq + (Up * Vq + Uq * Vp) + (Xp * Yp + Xq * Yq + (Up * Vq + Uq * Vp)) + Tq
    → Tp * 9007199254740992 + 270000 * (D * D) ≤ Tq * 9007199254740992
final_at Xp Xq Yp Yq Up Uq Vp Vq Tp Tq D a b c d e f g =
    combine (Xp * Yp + Xq * Yq) (Xp * Yq + Xq * Yp) (Up * Vp + Uq * Vq) (Up * Vq + Uq * Vp) Tp Tq (D * D) (turned Xp Xq Yp Yq D (prod_le Yp Yq Xp Xq 9007199254740992 (131108 * D) (12 * D) c d a b)) (uv Up Uq Vp Vq D e f) g
  where
    turned : (Xp Xq Yp Yq D : ℕ) → (Yp * Xp + Yq * Xq) * 9007199254740992 ≤ (Yp * Xq + Yq * Xp) * 9007199254740992 + 131108 * D * (12 * D)
        → (Xp * Yp + Xq * Yq) * 9007199254740992 ≤ (Xp * Yq + Xq * Yp) * 9007199254740992 + 1573296 * (D * D)
    turned Xp Xq Yp Yq D h = omega arith

pub final_down : (X Y U O S : Z) (D : ℕ) → X.p ≤ X.q + 12 * D → X.q ≤ X.p + 12 * D → Flat Y D → U.q * 9007199254740992 + 8388572 * D ≤ U.p * 9007199254740992 → O.q * 4 + D ≤ O.p * 4
    → S =z (X *z Y +z negz (U *z O)) +z (X *z Y +z negz (U *z O)) → S.p * 9007199254740992 + 270000 * (D * D) ≤ S.q * 9007199254740992
final_down X Y U O S D a b f u v e = final_at X.p X.q Y.p Y.q U.p U.q O.p O.q S.p S.q D a b f.above f.below u v e

-- the same with every sign of X, U and S turned
pub final_up : (X Y U O S : Z) (D : ℕ) → X.p ≤ X.q + 12 * D → X.q ≤ X.p + 12 * D → Flat Y D → U.p * 9007199254740992 + 8388572 * D ≤ U.q * 9007199254740992 → O.q * 4 + D ≤ O.p * 4
    → S =z (X *z Y +z negz (U *z O)) +z (X *z Y +z negz (U *z O)) → S.q * 9007199254740992 + 270000 * (D * D) ≤ S.p * 9007199254740992
final_up X Y U O S D a b f u v e = final_at X.q X.p Y.p Y.q U.q U.p O.p O.q S.q S.p D b a f.above f.below u v (turned _ _ _ _ _ _ _ _ S.p S.q e)
  where
    turned : (a b c d a' b' c' d' P Q : ℕ) → P + (a + b + (c + d) + (a + b + (c + d))) ≡ a' + b' + (c' + d') + (a' + b' + (c' + d')) + Q → Q + (b' + a' + (d' + c') + (b' + a' + (d' + c'))) ≡ b + a + (d + c) + (b + a + (d + c)) + P
    turned a b c d a' b' c' d' P Q h = omega arith

-- ---- back to the float test
clash_at : (a d p q D : ℕ) → 0 < d → 0 < D → a * 34359738368 ≤ 1 * 1 * d → q * d * 9007199254740992 ≤ (p * d + a * D) * 9007199254740992 + 7680 * (d * D) → p * 9007199254740992 + 270000 * D ≤ q * 9007199254740992 → ⊥
clash_at a d p q D P Q h k l =
    let x : a * 9007199254740992 ≤ d * 262144 = omega arith in
    omega (arith, mul-le-mul_right D x, mul-le-mul_right d l, mul-pos P Q)

clash_zero : (a d p q D : ℕ) → 0 < d → 0 < D → (a * D + q * d) * 9007199254740992 ≤ p * d * 9007199254740992 + 7680 * (d * D) → p * 9007199254740992 + 270000 * D ≤ q * 9007199254740992 → ⊥
clash_zero a d p q D P Q k l = omega (arith, mul-le-mul_right d l, mul-pos P Q)

pub not_under : (x : Float) (z : Z) (D : ℕ) → 0 < D → SNear x (at z D) 7680 → lt x (neg limit) ≡ false → z.p * 9007199254740992 + 270000 * D ≤ z.q * 9007199254740992 → ⊥
unfolding lt neg of_bits
not_under nan z D P n h l = n.finite
not_under (inf s) z D P n h l = n.finite
not_under (fin true m e) z D P n h l =
    clash_at (m * up e) (down e) z.p z.q D (down_pos e) P (nltb→le (1 * 1 * down e) (m * up e * 34359738368) (subst (λ (b : Bool). T (not b)) (sym h) tt))
    (trim (m * up e) (down e) z.p z.q (opened (fin true m e) z D 7680 P n).above) l
  where
    trim : (a d p q : ℕ) → (0 * D + q * d) * 9007199254740992 ≤ (p * d + a * D) * 9007199254740992 + 7680 * (d * D) → q * d * 9007199254740992 ≤ (p * d + a * D) * 9007199254740992 + 7680 * (d * D)
    trim a d p q h = omega arith
not_under (fin false m e) z D P n h l = clash_zero (m * up e) (down e) z.p z.q D (down_pos e) P (trim (m * up e) (down e) z.p z.q (opened (fin false m e) z D 7680 P n).above) l
  where
    trim : (a d p q : ℕ) → (a * D + q * d) * 9007199254740992 ≤ (p * d + 0 * D) * 9007199254740992 + 7680 * (d * D) → (a * D + q * d) * 9007199254740992 ≤ p * d * 9007199254740992 + 7680 * (d * D)
    trim a d p q h = omega arith

pub not_over : (x : Float) (z : Z) (D : ℕ) → 0 < D → SNear x (at z D) 7680 → lt limit x ≡ false → z.q * 9007199254740992 + 270000 * D ≤ z.p * 9007199254740992 → ⊥
unfolding lt of_bits
not_over nan z D P n h l = n.finite
not_over (inf s) z D P n h l = n.finite
not_over (fin false m e) z D P n h l =
    clash_at (m * up e) (down e) z.q z.p D (down_pos e) P (nltb→le (1 * 1 * down e) (m * up e * 34359738368) (subst (λ (b : Bool). T (not b)) (sym h) tt))
    (trim (m * up e) (down e) z.p z.q (opened (fin false m e) z D 7680 P n).below) l
  where
    trim : (a d p q : ℕ) → (p * d + 0 * D) * 9007199254740992 ≤ (a * D + q * d) * 9007199254740992 + 7680 * (d * D) → p * d * 9007199254740992 ≤ (q * d + a * D) * 9007199254740992 + 7680 * (d * D)
    trim a d p q h = omega arith
not_over (fin true m e) z D P n h l = clash_zero (m * up e) (down e) z.q z.p D (down_pos e) P (trim (m * up e) (down e) z.p z.q (opened (fin true m e) z D 7680 P n).below) l
  where
    trim : (a d p q : ℕ) → (p * d + a * D) * 9007199254740992 ≤ (0 * D + q * d) * 9007199254740992 + 7680 * (d * D) → (a * D + p * d) * 9007199254740992 ≤ q * d * 9007199254740992 + 7680 * (d * D)
    trim a d p q h = omega arith
