-- Floats near a difference of whole numbers over a denominator: sums, differences, products. Assumes nothing.
use mathlib.Core.Path.{◌≡◌}
use mathlib.Core.Bool.{true, false}
use Prim.Native.Nat.{ℕ, ◌+◌, ◌*◌, ◌^◌, ◌≤◌, ◌<◌}
use native.Mathlib.Nat.{mul-pos, mul-le-mul, mul-le-mul_right, le_of_mul-le-mul_right}
use native.Mathlib.Omega.{arith}
use lib.Ieee.{Float, nan, inf, fin, binary64, up, down, neg, add, sub, mul}
use Rattle.fractions.specs.Frac.{◌over◌, magnitude}
use Rattle.fractions.proofs.Ops.{den_pos}
use Rattle.fractions.proofs.Sizes.{Fin, Size, neg_under}
use Rattle.exact_angles.specs.Steady.{Signed, Fractions, ◌⊹◌, lowest}
use Rattle.exact_angles.proofs.Signs.{fractions_add, s_trans, s_grow}
use Rattle.exact_angles.proofs.Adds.{signed_of, signed_pos, SNear, SSame, snear_same}
use Rattle.sure_sides.proofs.Scales.{scale, turn, times, times_pos, Both, s_turn, mul_signed, snear_add}
use Rattle.sure_sides.proofs.Binet.{Z, ◌+z◌, ◌*z◌, negz, Close, Small, close_mul, mul_close}

abbrev pub at : Z → ℕ → Signed
at z D = record { gain = z.p over D; loss = z.q over D }

pub at_pos : (z : Z) (D : ℕ) → 0 < D → Fractions (at z D)
at_pos z D h = record { gain_is = h; loss_is = h }

abbrev pub z_of : Float → Z
z_of nan = record { p = 0; q = 0 }
z_of (inf s) = record { p = 0; q = 0 }
z_of (fin false m e) = record { p = m * up e; q = 0 }
z_of (fin true m e) = record { p = 0; q = m * up e }

-- ---- to whole numbers and back
pub opened : (x : Float) (z : Z) (D e : ℕ) → 0 < D → SNear x (at z D) e → Close (z_of x) (magnitude x).den z D e
opened nan z D e P h = absurd h.finite
opened (inf s) z D e P h = absurd h.finite
opened (fin false m k) z D e P h = record { above = go (m * up k) (down k) z.p z.q h.above; below = back (m * up k) (down k) z.p z.q h.below }
  where
    go : (a d p q : ℕ) → (a * D + q * d) * (D * 1) * 9007199254740992 ≤ (p * 1 + 0 * D) * (d * D) * 9007199254740992 + e * (d * D * (D * 1)) → (a * D + q * d) * 9007199254740992 ≤ (p * d + 0 * D) * 9007199254740992 + e * (d * D)
    go a d p q h = le_of_mul-le-mul_right {k = D} (omega arith) P

    back : (a d p q : ℕ) → (p * 1 + 0 * D) * (d * D) * 9007199254740992 ≤ (a * D + q * d) * (D * 1) * 9007199254740992 + e * (D * 1 * (d * D)) → (p * d + 0 * D) * 9007199254740992 ≤ (a * D + q * d) * 9007199254740992 + e * (d * D)
    back a d p q h = le_of_mul-le-mul_right {k = D} (omega arith) P
opened (fin true m k) z D e P h = record { above = go (m * up k) (down k) z.p z.q h.above; below = back (m * up k) (down k) z.p z.q h.below }
  where
    go : (a d p q : ℕ) → (0 * D + q * 1) * (D * d) * 9007199254740992 ≤ (p * d + a * D) * (1 * D) * 9007199254740992 + e * (1 * D * (D * d)) → (0 * D + q * d) * 9007199254740992 ≤ (p * d + a * D) * 9007199254740992 + e * (d * D)
    go a d p q h = le_of_mul-le-mul_right {k = D} (omega arith) P

    back : (a d p q : ℕ) → (p * d + a * D) * (1 * D) * 9007199254740992 ≤ (0 * D + q * 1) * (D * d) * 9007199254740992 + e * (D * d * (1 * D)) → (p * d + a * D) * 9007199254740992 ≤ (0 * D + q * d) * 9007199254740992 + e * (d * D)
    back a d p q h = le_of_mul-le-mul_right {k = D} (omega arith) P

shut_at : (x y d D e : ℕ) → x * 9007199254740992 ≤ y * 9007199254740992 + e * (d * D) → x * (D * d) * 9007199254740992 ≤ y * (d * D) * 9007199254740992 + e * (d * D * (D * d))
shut_at x y d D e h = omega (arith, mul-le-mul_right (d * D) h)

at_shut : (x y d D e : ℕ) → y * 9007199254740992 ≤ x * 9007199254740992 + e * (d * D) → y * (d * D) * 9007199254740992 ≤ x * (D * d) * 9007199254740992 + e * (D * d * (d * D))
at_shut x y d D e h = omega (arith, mul-le-mul_right (d * D) h)

shut : (a z : Z) (d D e : ℕ) → Close a d z D e → Both (at a d) (at z D) e
shut a z d D e h = record { up_to = shut_at (a.p * D + z.q * d) (z.p * d + a.q * D) d D e h.above; down_to = at_shut (a.p * D + z.q * d) (z.p * d + a.q * D) d D e h.below }

moved : (x : Float) (a b : Signed) (e f : ℕ) → Fractions a → Fractions b → SNear x a e → Both a b f → SNear x b (e + f)
moved x a b e f A B h k = record {
  finite = h.finite;
  above = s_trans (signed_of x) a b e f (signed_pos x) A B h.above k.up_to;
  below = s_grow b (signed_of x) (f + e) (e + f) (omega arith) (s_trans b a (signed_of x) f e B A (signed_pos x) k.down_to h.below);
}

-- ---- the exact product of two floats
module _ (a b c d : ℕ) where
  plus_plus : SSame (turn false (scale (c over d) (lowest false (a over b) (a over b)))) (at (record { p = a; q = 0 } *z record { p = c; q = 0 }) (b * d))
  plus_plus = omega arith

  plus_minus : SSame (turn true (scale (c over d) (lowest false (a over b) (a over b)))) (at (record { p = a; q = 0 } *z record { p = 0; q = c }) (b * d))
  plus_minus = omega arith

  minus_plus : SSame (turn false (scale (c over d) (lowest true (a over b) (a over b)))) (at (record { p = 0; q = a } *z record { p = c; q = 0 }) (b * d))
  minus_plus = omega arith

  minus_minus : SSame (turn true (scale (c over d) (lowest true (a over b) (a over b)))) (at (record { p = 0; q = a } *z record { p = 0; q = c }) (b * d))
  minus_minus = omega arith

times_is : (x y : Float) → Fin x → Fin y → SSame (times x y) (at (z_of x *z z_of y) ((magnitude x).den * (magnitude y).den))
times_is nan y f g = absurd f
times_is (inf s) y f g = absurd f
times_is (fin s m e) nan f g = absurd g
times_is (fin s m e) (inf t) f g = absurd g
times_is (fin false m e) (fin false n d) f g = plus_plus (m * up e) (down e) (n * up d) (down d)
times_is (fin false m e) (fin true n d) f g = plus_minus (m * up e) (down e) (n * up d) (down d)
times_is (fin true m e) (fin false n d) f g = minus_plus (m * up e) (down e) (n * up d) (down d)
times_is (fin true m e) (fin true n d) f g = minus_minus (m * up e) (down e) (n * up d) (down d)

small_of : (x : Float) (a : ℕ) → Size x a → Small (z_of x) (magnitude x).den a
small_of nan a h = absurd h.finite
small_of (inf s) a h = absurd h.finite
small_of (fin false m e) a h = record { above = omega (arith, h.small); below = omega arith }
small_of (fin true m e) a h = record { above = omega arith; below = omega (arith, h.small) }

-- ---- a product
pub z_mul : (x y : Float) (z w : Z) (D E e f a c b j : ℕ) → 0 < D → 0 < E → SNear x (at z D) e → SNear y (at w E) f → Size x a → Size y c → Small w E b → a * c ≤ 2 ^ j → j ≤ 20
    → SNear (mul binary64 x y) (at (z *z w) (D * E)) (2 ^ j + (f * a + e * b))
z_mul x y z w D E e f a c b j P Q h k s t l m i =
    let zx = z_of x in
    let zy = z_of y in
    let dx = (magnitude x).den in
    let dy = (magnitude y).den in
    let X = den_pos x in
    let Y = den_pos y in
    let n : SNear (mul binary64 x y) (times x y) (2 ^ j) = mul_signed x y j h.finite k.finite i (wide (magnitude x).num dx (magnitude y).num dy s.small t.small) in
    let o = snear_same (mul binary64 x y) (times x y) (at (zx *z zy) (dx * dy)) (2 ^ j) (times_pos x y) (at_pos (zx *z zy) (dx * dy) (mul-pos X Y)) (times_is x y h.finite k.finite) n in
    let u = shut (zx *z zy) (zx *z w) (dx * dy) (dx * E) (f * a) (mul_close zy w zx dy E dx f a (opened y w E f Q k) (small_of x a s)) in
    let v = shut (zx *z w) (z *z w) (dx * E) (D * E) (e * b) (close_mul zx z w dx D E e b (opened x z D e P h) l) in
    let p = moved (mul binary64 x y) (at (zx *z zy) (dx * dy)) (at (zx *z w) (dx * E)) (2 ^ j) (f * a) (at_pos (zx *z zy) (dx * dy) (mul-pos X Y)) (at_pos (zx *z w) (dx * E) (mul-pos X Q)) o u in
    let r = moved (mul binary64 x y) (at (zx *z w) (dx * E)) (at (z *z w) (D * E)) (2 ^ j + f * a) (e * b) (at_pos (zx *z w) (dx * E) (mul-pos X Q)) (at_pos (z *z w) (D * E) (mul-pos P Q)) p v in
    grown (mul binary64 x y) (at (z *z w) (D * E)) (2 ^ j + f * a + e * b) (2 ^ j + (f * a + e * b)) (omega arith) r
  where
    wide : (xn xd yn yd : ℕ) → xn * 1 ≤ a * xd → yn * 1 ≤ c * yd → xn * yn ≤ 2 ^ j * (xd * yd)
    wide xn xd yn yd h k = omega (arith, mul-le-mul h k, mul-le-mul_right (xd * yd) m)

    grown : (x : Float) (a : Signed) (e f : ℕ) → e ≤ f → SNear x a e → SNear x a f
    grown x a e f l h = record { finite = h.finite; above = s_grow (signed_of x) a e f l h.above; below = s_grow a (signed_of x) e f l h.below }

-- ---- a sum, a difference
sum_is : (z w : Z) (D : ℕ) → SSame (at z D ⊹ at w D) (at (z +z w) D)
sum_is z w D = go z.p z.q w.p w.q D
  where
    go : (p q r s D : ℕ) → ((p * D + r * D) * D + (q + s) * (D * D)) * (D * (D * D)) ≡ ((p + r) * (D * D) + (q * D + s * D) * D) * (D * D * D)
    go p q r s D = omega arith

pub z_add : (x y : Float) (z w : Z) (D e f a b j : ℕ) → 0 < D → SNear x (at z D) e → SNear y (at w D) f → Size x a → Size y b → a + b ≤ 2 ^ j → j ≤ 20 → SNear (add binary64 x y) (at (z +z w) D) (2 ^ j + (e + f))
z_add x y z w D e f a b j P h k s t l m =
    snear_same (add binary64 x y) (at z D ⊹ at w D) (at (z +z w) D) (2 ^ j + (e + f)) (fractions_add (at z D) (at w D) (at_pos z D P) (at_pos w D P)) (at_pos (z +z w) D P) (sum_is z w D)
    (snear_add x y (at z D) (at w D) e f a b j (at_pos z D P) (at_pos w D P) h k s t m l)

z_neg : (x : Float) (z : Z) (D e : ℕ) → SNear x (at z D) e → SNear (neg x) (at (negz z) D) e
unfolding neg
z_neg nan z D e h = absurd h.finite
z_neg (inf s) z D e h = absurd h.finite
z_neg (fin false m k) z D e h = let x = signed_of (fin false m k) in record { finite = tt; above = s_turn true x (at z D) e h.above h.below; below = s_turn true (at z D) x e h.below h.above }
z_neg (fin true m k) z D e h = let x = signed_of (fin true m k) in record { finite = tt; above = s_turn true x (at z D) e h.above h.below; below = s_turn true (at z D) x e h.below h.above }

pub z_sub : (x y : Float) (z w : Z) (D e f a b j : ℕ) → 0 < D → SNear x (at z D) e → SNear y (at w D) f → Size x a → Size y b → a + b ≤ 2 ^ j → j ≤ 20 → SNear (sub binary64 x y) (at (z +z negz w) D) (2 ^ j + (e + f))
unfolding sub
z_sub x y z w D e f a b j P h k s t l m = z_add x (neg y) z (negz w) D e f a b j P h (z_neg y w D f k) s (neg_under y b 1 t) l m
