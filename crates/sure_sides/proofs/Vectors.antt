-- Vectors near differences of whole numbers: a raw product times a cross product, against the exact one. Assumes nothing.
use Prim.Native.Nat.{ℕ, suc, ◌+◌, ◌*◌, ◌^◌, ◌≤◌, ◌<◌}
use native.Mathlib.Nat.{mul-pos, pow-suc}
use native.Mathlib.Omega.{arith}
use lib.Dec.{lit≤}
use lib.Pow.{pow_mono}
use lib.Ieee.{Float, binary64, add, sub, mul}
use Rattle.numbers.specs.F64 as F
use Rattle.vec3.specs.declared.Vec3.{Vec3}
use Rattle.vec3.specs.Vec.{dot, cross, product, summed, parted, stable_cross}
use Rattle.fractions.proofs.Sizes.{Size, mul_size, add_size}
use Rattle.exact_angles.specs.Steady.{◌⊹◌, none}
use Rattle.exact_angles.proofs.Signs.{fractions_add}
use Rattle.exact_angles.proofs.Adds.{SNear, snear_same}
use Rattle.sizes.proofs.Unit.{Sized, zero_size, vec_sized}
use Rattle.sizes.proofs.Vectors.{product_sized, summed_sized, parted_sized}
use Rattle.sure_sides.proofs.Scales.{snear_add, zero_near, none_pos, nothing_added}
use Rattle.sure_sides.proofs.Binet.{Z, ◌+z◌, ◌*z◌, negz, Z3, dotz, crossz, sumz, partz, Small, small_add, small_neg, small_mul}
use Rattle.sure_sides.proofs.Near.{at, at_pos, z_mul, z_add, z_sub}

pub record NearV (v : Vec3) (u : Z3) (D e : ℕ) : Type 0 where
  pub x_is : SNear v.x (at u.x D) e
  pub y_is : SNear v.y (at u.y D) e
  pub z_is : SNear v.z (at u.z D) e

pub record SmallV (u : Z3) (D b : ℕ) : Type 0 where
  pub x_is : Small u.x D b
  pub y_is : Small u.y D b
  pub z_is : Small u.z D b

-- ---- the sum and the difference
sum_near : (u v : Vec3) (z w : Z3) (D : ℕ) → 0 < D → NearV u z D 0 → NearV v w D 0 → Sized u 2 → Sized v 2 → NearV (summed u v) (sumz z w) D 4
sum_near u v z w D P h k s t = record {
  x_is = z_add v.x u.x w.x z.x D 0 0 2 2 2 P k.x_is h.x_is t.x_is s.x_is (lit≤ tt) (lit≤ tt);
  y_is = z_add v.y u.y w.y z.y D 0 0 2 2 2 P k.y_is h.y_is t.y_is s.y_is (lit≤ tt) (lit≤ tt);
  z_is = z_add v.z u.z w.z z.z D 0 0 2 2 2 P k.z_is h.z_is t.z_is s.z_is (lit≤ tt) (lit≤ tt);
}

part_near : (u v : Vec3) (z w : Z3) (D : ℕ) → 0 < D → NearV u z D 0 → NearV v w D 0 → Sized u 2 → Sized v 2 → NearV (parted u v) (partz z w) D 4
part_near u v z w D P h k s t = record {
  x_is = z_sub v.x u.x w.x z.x D 0 0 2 2 2 P k.x_is h.x_is t.x_is s.x_is (lit≤ tt) (lit≤ tt);
  y_is = z_sub v.y u.y w.y z.y D 0 0 2 2 2 P k.y_is h.y_is t.y_is s.y_is (lit≤ tt) (lit≤ tt);
  z_is = z_sub v.z u.z w.z z.z D 0 0 2 2 2 P k.z_is h.z_is t.z_is s.z_is (lit≤ tt) (lit≤ tt);
}

part_small : (z w : Z3) (D : ℕ) → SmallV z D 2 → SmallV w D 2 → SmallV (partz z w) D 4
part_small z w D h k = record {
  x_is = small_add w.x (negz z.x) D 2 2 k.x_is (small_neg z.x D 2 h.x_is);
  y_is = small_add w.y (negz z.y) D 2 2 k.y_is (small_neg z.y D 2 h.y_is);
  z_is = small_add w.z (negz z.z) D 2 2 k.z_is (small_neg z.z D 2 h.z_is);
}

-- ---- a component of a cross product: p q - r s
minor : (p q r s : Float) (zp zq zr zs : Z) (D e f a c b j : ℕ) → 0 < D → SNear p (at zp D) e → SNear q (at zq D) f → SNear r (at zr D) e → SNear s (at zs D) f
    → Size p a → Size q c → Size r a → Size s c → Small zq D b → Small zs D b → a * c ≤ 2 ^ j → j ≤ 10
    → SNear (sub binary64 (mul binary64 p q) (mul binary64 r s)) (at (zp *z zq +z negz (zr *z zs)) (D * D)) (2 ^ suc j + (2 ^ j + (f * a + e * b) + (2 ^ j + (f * a + e * b))))
minor p q r s zp zq zr zs D e f a c b j P hp hq hr hs sp sq sr ss bq bs l i =
    let W : 2 ^ j ≤ 1024 = pow_mono {i = j} {j = 10} i in
    let m = z_mul p q zp zq D D e f a c b j P P hp hq sp sq bq l (omega arith) in
    let n = z_mul r s zr zs D D e f a c b j P P hr hs sr ss bs l (omega arith) in
    z_sub (mul binary64 p q) (mul binary64 r s) (zp *z zq) (zr *z zs) (D * D) (2 ^ j + (f * a + e * b)) (2 ^ j + (f * a + e * b)) (a * c) (a * c) (suc j) (mul-pos P P) m n (mul_size p q a c sp sq (omega arith))
    (mul_size r s a c sr ss (omega arith)) (omega (arith, pow-suc 2 j)) (omega arith)

product_near : (u v : Vec3) (z w : Z3) (D e f a c b j : ℕ) → 0 < D → NearV u z D e → NearV v w D f → Sized u a → Sized v c → SmallV w D b → a * c ≤ 2 ^ j → j ≤ 10
    → NearV (product u v) (crossz z w) (D * D) (2 ^ suc j + (2 ^ j + (f * a + e * b) + (2 ^ j + (f * a + e * b))))
product_near u v z w D e f a c b j P h k s t l m i = record {
  x_is = minor u.y v.z u.z v.y z.y w.z z.z w.y D e f a c b j P h.y_is k.z_is h.z_is k.y_is s.y_is t.z_is s.z_is t.y_is l.z_is l.y_is m i;
  y_is = minor u.z v.x u.x v.z z.z w.x z.x w.z D e f a c b j P h.z_is k.x_is h.x_is k.z_is s.z_is t.x_is s.x_is t.z_is l.x_is l.z_is m i;
  z_is = minor u.x v.y u.y v.x z.x w.y z.y w.x D e f a c b j P h.x_is k.y_is h.y_is k.x_is s.x_is t.y_is s.y_is t.x_is l.y_is l.x_is m i;
}

-- ---- 0.0 + x
stored_near : (x : Float) (z : Z) (D e a j : ℕ) → 0 < D → SNear x (at z D) e → Size x a → a ≤ 2 ^ j → j ≤ 20 → SNear (F.◌⊕◌ F.zero x) (at z D) (2 ^ j + (0 + e))
stored_near x z D e a j P h s l i =
    snear_same (F.◌⊕◌ F.zero x) (none ⊹ at z D) (at z D) (2 ^ j + (0 + e)) (fractions_add none (at z D) none_pos (at_pos z D P)) (at_pos z D P) (nothing_added (at z D))
    (snear_add F.zero x none (at z D) 0 e 0 a j none_pos (at_pos z D P) zero_near h (zero_size 0) s i (omega arith))

cross_near : (u v : Vec3) (z w : Z3) (D : ℕ) → 0 < D → NearV u z D 0 → NearV v w D 0 → Sized u 2 → Sized v 2 → SmallV w D 2 → NearV (cross u v) (crossz z w) (D * D) 24
cross_near u v z w D P h k s t l =
    let n = product_near u v z w D 0 0 2 2 2 2 P h k s t l (lit≤ tt) (lit≤ tt) in
    let p = product_sized u v 2 2 (lit≤ tt) (lit≤ tt) s t in
    record {
      x_is = stored_near (product u v).x (crossz z w).x (D * D) 16 8 3 (mul-pos P P) n.x_is p.x_is (lit≤ tt) (lit≤ tt);
      y_is = stored_near (product u v).y (crossz z w).y (D * D) 16 8 3 (mul-pos P P) n.y_is p.y_is (lit≤ tt) (lit≤ tt);
      z_is = stored_near (product u v).z (crossz z w).z (D * D) 16 8 3 (mul-pos P P) n.z_is p.z_is (lit≤ tt) (lit≤ tt);
    }

minor_small : (a b c d : Z) (D : ℕ) → Small a D 2 → Small b D 2 → Small c D 2 → Small d D 2 → Small (a *z b +z negz (c *z d)) (D * D) 8
minor_small a b c d D h i j k = small_add (a *z b) (negz (c *z d)) (D * D) 4 4 (small_mul a b D D 2 2 h i) (small_neg (c *z d) (D * D) 4 (small_mul c d D D 2 2 j k))

cross_small : (z w : Z3) (D : ℕ) → SmallV z D 2 → SmallV w D 2 → SmallV (crossz z w) (D * D) 8
cross_small z w D h k = record {
  x_is = minor_small z.y w.z z.z w.y D h.y_is k.z_is h.z_is k.y_is;
  y_is = minor_small z.z w.x z.x w.z D h.z_is k.x_is h.x_is k.z_is;
  z_is = minor_small z.x w.y z.y w.x D h.x_is k.y_is h.y_is k.x_is;
}

pub dot_small : (z w : Z3) (D : ℕ) → SmallV z D 2 → SmallV w D 2 → Small (dotz z w) (D * D) 12
dot_small z w D h k =
    small_add (z.x *z w.x +z z.y *z w.y) (z.z *z w.z) (D * D) 8 4
    (small_add (z.x *z w.x) (z.y *z w.y) (D * D) 4 4 (small_mul z.x w.x D D 2 2 h.x_is k.x_is) (small_mul z.y w.y D D 2 2 h.y_is k.y_is))
    (small_mul z.z w.z D D 2 2 h.z_is k.z_is)

-- ---- a dot product
abbrev slip : ℕ → ℕ → ℕ → ℕ → ℕ → ℕ
slip e f a b j = 2 ^ j + (f * a + e * b)

pub dot_near : (u v : Vec3) (z w : Z3) (D E e f a c b j : ℕ) → 0 < D → 0 < E → NearV u z D e → NearV v w E f → Sized u a → Sized v c → SmallV w E b → a * c ≤ 2 ^ j → j ≤ 10
    → SNear (dot u v) (at (dotz z w) (D * E)) (2 ^ suc (suc j) + (2 ^ suc j + (slip e f a b j + slip e f a b j) + slip e f a b j))
dot_near u v z w D E e f a c b j P Q h k s t l m i =
    let W : 2 ^ j ≤ 1024 = pow_mono {i = j} {j = 10} i in
    let x = z_mul u.x v.x z.x w.x D E e f a c b j P Q h.x_is k.x_is s.x_is t.x_is l.x_is m (omega arith) in
    let y = z_mul u.y v.y z.y w.y D E e f a c b j P Q h.y_is k.y_is s.y_is t.y_is l.y_is m (omega arith) in
    let o = z_mul u.z v.z z.z w.z D E e f a c b j P Q h.z_is k.z_is s.z_is t.z_is l.z_is m (omega arith) in
    let sx : Size (mul binary64 u.x v.x) (a * c) = mul_size u.x v.x a c s.x_is t.x_is (omega arith) in
    let sy : Size (mul binary64 u.y v.y) (a * c) = mul_size u.y v.y a c s.y_is t.y_is (omega arith) in
    let so : Size (mul binary64 u.z v.z) (a * c) = mul_size u.z v.z a c s.z_is t.z_is (omega arith) in
    let xy = z_add (mul binary64 u.x v.x) (mul binary64 u.y v.y) (z.x *z w.x) (z.y *z w.y) (D * E) (slip e f a b j) (slip e f a b j) (a * c) (a * c) (suc j) (mul-pos P Q) x y sx sy
    (omega (arith, pow-suc 2 j)) (omega arith) in
    let sxy : Size (add binary64 (mul binary64 u.x v.x) (mul binary64 u.y v.y)) (a * c + a * c) = add_size (mul binary64 u.x v.x) (mul binary64 u.y v.y) (a * c) (a * c) sx sy (omega arith) in
    z_add (add binary64 (mul binary64 u.x v.x) (mul binary64 u.y v.y)) (mul binary64 u.z v.z) (z.x *z w.x +z z.y *z w.y) (z.z *z w.z) (D * E) (2 ^ suc j + (slip e f a b j + slip e f a b j))
    (slip e f a b j) (a * c + a * c) (a * c) (suc (suc j)) (mul-pos P Q) xy o sxy so (omega (arith, pow-suc 2 j, pow-suc 2 (suc j))) (omega arith)

pub stable_sized : (u v : Vec3) → Sized u 2 → Sized v 2 → Sized (stable_cross u v) 32
stable_sized u v s t = product_sized (summed u v) (parted u v) 4 4 (lit≤ tt) (lit≤ tt) (summed_sized u v s t) (parted_sized u v s t)

pub cross_sized : (u v : Vec3) → Sized u 2 → Sized v 2 → Sized (cross u v) 8
cross_sized u v s t = let p = product_sized u v 2 2 (lit≤ tt) (lit≤ tt) s t in vec_sized (product u v).x (product u v).y (product u v).z 8 (lit≤ tt) p.x_is p.y_is p.z_is

-- ---- the raw product of N and n, times the cross product of N and A
module _ (N n A : Vec3) (z_n zn z_a : Z3) (D : ℕ) (P : 0 < D) (hN : NearV N z_n D 0) (hn : NearV n zn D 0) (hA : NearV A z_a D 0)
    (sN : Sized N 2) (sn : Sized n 2) (sA : Sized A 2) (bN : SmallV z_n D 2) (bn : SmallV zn D 2) (bA : SmallV z_a D 2) where
  raw_near : NearV (stable_cross N n) (crossz (sumz z_n zn) (partz z_n zn)) (D * D) 128
  raw_near =
      product_near (summed N n) (parted N n) (sumz z_n zn) (partz z_n zn) D 4 4 4 4 4 4 P (sum_near N n z_n zn D P hN hn sN sn) (part_near N n z_n zn D P hN hn sN sn) (summed_sized N n sN sn) (parted_sized N n sN sn)
      (part_small z_n zn D bN bn) (lit≤ tt) (lit≤ tt)

  raw_sized : Sized (stable_cross N n) 32
  raw_sized = stable_sized N n sN sn

  pub back_near : SNear (dot (stable_cross N n) (cross N A)) (at (dotz (crossz (sumz z_n zn) (partz z_n zn)) (crossz z_n z_a)) (D * D * (D * D))) 7680
  back_near =
      dot_near (stable_cross N n) (cross N A) (crossz (sumz z_n zn) (partz z_n zn)) (crossz z_n z_a) (D * D) (D * D) 128 24 32 8 8 8 (mul-pos P P) (mul-pos P P) raw_near
      (cross_near N A z_n z_a D P hN hA sN sA bA) raw_sized (cross_sized N A sN sA) (cross_small z_n z_a D bN bA) (lit≤ tt) (lit≤ tt)
