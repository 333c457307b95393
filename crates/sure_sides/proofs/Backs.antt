-- The side of an end that is across a normal N, by the raw product of N with a unit vector, from the side of that one. Assumes nothing.
use mathlib.Core.Path.{◌≡◌, refl, ◌∙◌, subst}
use mathlib.Core.Bool.{true, false}
use Prim.Native.Nat.{ℕ, ◌+◌, ◌*◌, ◌≤◌, ◌<◌}
use native.Mathlib.Nat.{mul-pos, mul-le-mul_right}
use native.Mathlib.Omega.{arith}
use lib.Dec.{lit≤}
use lib.Ieee.{Float, nan, inf, fin, up, down, neg, lt, le}
use Rattle.numbers.specs.F64 as F
use Rattle.numbers.specs.Near.{abs}
use Rattle.vec3.specs.declared.Vec3.{Vec3}
use Rattle.vec3.specs.Vec.{dot, cross, stable_cross}
use Rattle.fractions.specs.Frac.{magnitude}
use Rattle.fractions.proofs.Ops.{den_pos}
use Rattle.fractions.proofs.Sizes.{Fin, Size}
use Rattle.exact_angles.proofs.Adds.{SNear}
use Rattle.sizes.proofs.Unit.{Sized}
use Rattle.sure_sides.specs.Sure.{limit, margin, slack}
use Rattle.sure_sides.proofs.Lengths.{is_not}
use Rattle.sure_sides.proofs.Binet.{Z, negz, Z3, dotz, crossz, sumz, partz, Small, identity_back}
use Rattle.sure_sides.proofs.Near.{at, z_of}
use Rattle.sure_sides.proofs.Vectors.{NearV, SmallV, dot_near, dot_small, back_near}
use Rattle.sure_sides.proofs.Tests.{over, under, over_half, flat, final_down, final_up, not_under, not_over}

-- ---- nine floats over one denominator
abbrev den : Float → ℕ
den x = (magnitude x).den

abbrev den3 : Vec3 → ℕ
den3 v = den v.x * den v.y * den v.z

abbrev scaled : Float → ℕ → Z
scaled x k = record { p = (z_of x).p * k; q = (z_of x).q * k }

abbrev spread : Vec3 → ℕ → Z3
spread v K = record { x = scaled v.x (den v.y * den v.z * K); y = scaled v.y (den v.x * den v.z * K); z = scaled v.z (den v.x * den v.y * K) }

on : (x : Float) (k : ℕ) → Fin x → SNear x (at (scaled x k) (den x * k)) 0
on nan k f = absurd f
on (inf s) k f = absurd f
on (fin false m e) k f = record { finite = tt; above = go (m * up e) (down e); below = back (m * up e) (down e) }
  where
    go : (a d : ℕ) → (a * (d * k) + 0 * k * d) * (d * k * 1) * 9007199254740992 ≤ (a * k * 1 + 0 * (d * k)) * (d * (d * k)) * 9007199254740992 + 0 * (d * (d * k) * (d * k * 1))
    go a d = omega arith

    back : (a d : ℕ) → (a * k * 1 + 0 * (d * k)) * (d * (d * k)) * 9007199254740992 ≤ (a * (d * k) + 0 * k * d) * (d * k * 1) * 9007199254740992 + 0 * (d * k * 1 * (d * (d * k)))
    back a d = omega arith
on (fin true m e) k f = record { finite = tt; above = go (m * up e) (down e); below = back (m * up e) (down e) }
  where
    go : (a d : ℕ) → (0 * (d * k) + a * k * 1) * (d * k * d) * 9007199254740992 ≤ (0 * k * d + a * (d * k)) * (1 * (d * k)) * 9007199254740992 + 0 * (1 * (d * k) * (d * k * d))
    go a d = omega arith

    back : (a d : ℕ) → (0 * k * d + a * (d * k)) * (1 * (d * k)) * 9007199254740992 ≤ (0 * (d * k) + a * k * 1) * (d * k * d) * 9007199254740992 + 0 * (d * k * d * (1 * (d * k)))
    back a d = omega arith

small_on : (x : Float) (k : ℕ) → Size x 2 → Small (scaled x k) (den x * k) 2
small_on nan k h = absurd h.finite
small_on (inf s) k h = absurd h.finite
small_on (fin false m e) k h = record { above = go (m * up e) (down e) h.small; below = none_at (m * up e) (down e) }
  where
    go : (a d : ℕ) → a * 1 ≤ 2 * d → a * k ≤ 0 * k + 2 * (d * k)
    go a d h = omega (arith, mul-le-mul_right k h)

    none_at : (a d : ℕ) → 0 * k ≤ a * k + 2 * (d * k)
    none_at a d = omega arith
small_on (fin true m e) k h = record { above = none_at (m * up e) (down e); below = go (m * up e) (down e) h.small }
  where
    go : (a d : ℕ) → a * 1 ≤ 2 * d → a * k ≤ 0 * k + 2 * (d * k)
    go a d h = omega (arith, mul-le-mul_right k h)

    none_at : (a d : ℕ) → 0 * k ≤ a * k + 2 * (d * k)
    none_at a d = omega arith

record Lifted (v : Vec3) (u : Z3) (D : ℕ) : Type 0 where
  near : NearV v u D 0
  small : SmallV u D 2

lifted : (v : Vec3) (K D : ℕ) → den3 v * K ≡ D → Sized v 2 → Lifted v (spread v K) D
lifted v K D e s =
    let a = den v.x in
    let b = den v.y in
    let c = den v.z in
    let ex : a * (b * c * K) ≡ D = first a b c ∙ e in
    let ey : b * (a * c * K) ≡ D = second a b c ∙ e in
    let ez : c * (a * b * K) ≡ D = third a b c ∙ e in
    record {
      near = record {
        x_is = subst (λ (E : ℕ). SNear v.x (at (scaled v.x (b * c * K)) E) 0) ex (on v.x (b * c * K) s.x_is.finite);
        y_is = subst (λ (E : ℕ). SNear v.y (at (scaled v.y (a * c * K)) E) 0) ey (on v.y (a * c * K) s.y_is.finite);
        z_is = subst (λ (E : ℕ). SNear v.z (at (scaled v.z (a * b * K)) E) 0) ez (on v.z (a * b * K) s.z_is.finite);
      };
      small = record {
        x_is = subst (λ (E : ℕ). Small (scaled v.x (b * c * K)) E 2) ex (small_on v.x (b * c * K) s.x_is);
        y_is = subst (λ (E : ℕ). Small (scaled v.y (a * c * K)) E 2) ey (small_on v.y (a * c * K) s.y_is);
        z_is = subst (λ (E : ℕ). Small (scaled v.z (a * b * K)) E 2) ez (small_on v.z (a * b * K) s.z_is);
      };
    }
  where
    first : (a b c : ℕ) → a * (b * c * K) ≡ a * b * c * K
    first a b c = omega arith

    second : (a b c : ℕ) → b * (a * c * K) ≡ a * b * c * K
    second a b c = omega arith

    third : (a b c : ℕ) → c * (a * b * K) ≡ a * b * c * K
    third a b c = omega arith

-- ---- three vectors over one denominator
module _ (N n A : Vec3) (sN : Sized N 2) (sn : Sized n 2) (sA : Sized A 2) where
  abbrev d_n : ℕ
  d_n = den3 N

  abbrev dn : ℕ
  dn = den3 n

  abbrev d_a : ℕ
  d_a = den3 A

  abbrev D : ℕ
  D = d_n * (dn * d_a)

  abbrev z_n : Z3
  z_n = spread N (dn * d_a)

  abbrev zn : Z3
  zn = spread n (d_n * d_a)

  abbrev z_a : Z3
  z_a = spread A (d_n * dn)

  pos3 : (v : Vec3) → 0 < den3 v
  pos3 v = mul-pos (mul-pos (den_pos v.x) (den_pos v.y)) (den_pos v.z)

  P : 0 < D
  P = mul-pos (pos3 N) (mul-pos (pos3 n) (pos3 A))

  P2 : 0 < D * D
  P2 = mul-pos P P

  P4 : 0 < D * D * (D * D)
  P4 = mul-pos P2 P2

  l_n : Lifted N z_n D
  l_n = lifted N (dn * d_a) D refl sN

  ln : Lifted n zn D
  ln = lifted n (d_n * d_a) D (go d_n dn d_a) sn
    where
      go : (a b c : ℕ) → b * (a * c) ≡ a * (b * c)
      go a b c = omega arith

  l_a : Lifted A z_a D
  l_a = lifted A (d_n * dn) D (go d_n dn d_a) sA
    where
      go : (a b c : ℕ) → c * (a * b) ≡ a * (b * c)
      go a b c = omega arith

  product_of : (u v : Vec3) (z w : Z3) → Lifted u z D → Lifted v w D → Sized u 2 → Sized v 2 → SNear (dot u v) (at (dotz z w) (D * D)) 36
  product_of u v z w h k s t = dot_near u v z w D D 0 0 2 2 2 2 P P h.near k.near s t k.small (lit≤ tt) (lit≤ tt)

  -- an end A that is across N, on a side of n: the raw product of N and n is on that side of N x A
  abbrev r : Vec3
  r = stable_cross N n

  abbrev B : Z
  B = dotz (crossz (sumz z_n zn) (partz z_n zn)) (crossz z_n z_a)

  back : SNear (dot r (cross N A)) (at B (D * D * (D * D))) 7680
  back = back_near N n A z_n zn z_a D P l_n.near ln.near l_a.near sN sn sA l_n.small ln.small l_a.small

  module _ (long : lt F.half (dot N N) ≡ true) (across : le (abs (dot N A)) slack ≡ true) where
    pub back_left : lt margin (dot n A) ≡ true → lt limit (dot r (cross N A)) ≡ true
    back_left h =
        let x = dot_small zn z_n D ln.small l_n.small in
        let y = flat (dot N A) (dotz z_n z_a) (D * D) P2 across (product_of N A z_n z_a l_n l_a sN sA) in
        let u = over (dot n A) (dotz zn z_a) (D * D) P2 h (product_of n A zn z_a ln l_a sn sA) in
        let o = over_half (dot N N) (dotz z_n z_n) (D * D) P2 long (product_of N N z_n z_n l_n l_n sN sN) in
        let f = final_down (dotz zn z_n) (dotz z_n z_a) (dotz zn z_a) (dotz z_n z_n) (negz B) (D * D) x.above x.below y u o (identity_back z_n zn z_a) in
        is_not (lt limit (dot r (cross N A))) (λ z. not_over (dot r (cross N A)) B (D * D * (D * D)) P4 back z f)

    pub back_right : lt (dot n A) (neg margin) ≡ true → lt (dot r (cross N A)) (neg limit) ≡ true
    back_right h =
        let x = dot_small zn z_n D ln.small l_n.small in
        let y = flat (dot N A) (dotz z_n z_a) (D * D) P2 across (product_of N A z_n z_a l_n l_a sN sA) in
        let u = under (dot n A) (dotz zn z_a) (D * D) P2 h (product_of n A zn z_a ln l_a sn sA) in
        let o = over_half (dot N N) (dotz z_n z_n) (D * D) P2 long (product_of N N z_n z_n l_n l_n sN sN) in
        let f = final_up (dotz zn z_n) (dotz z_n z_a) (dotz zn z_a) (dotz z_n z_n) (negz B) (D * D) x.above x.below y u o (identity_back z_n zn z_a) in
        is_not (lt (dot r (cross N A)) (neg limit)) (λ z. not_under (dot r (cross N A)) B (D * D * (D * D)) P4 back z f)
