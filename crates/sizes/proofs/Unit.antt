-- A vector brought to unit length has no component above 2, whatever was rounded on the way, underflow too. Assumes nothing.
use mathlib.Core.Path.{◌≡◌, refl}
use mathlib.Core.Bool.{Bool, true, false}
use Prim.Native.Nat.{ℕ, zero, ◌+◌, ◌-◌, ◌*◌, ◌≤◌}
use native.Mathlib.Nat.{mul-le-mul}
use native.Mathlib.Omega.{arith}
use lib.Dec.{lit≤}
use lib.Ieee.{Float, nan, inf, fin, binary64, of_bits, mul, eq}
use lib.Ieee.Fits.{add-fits}
use Rattle.numbers.specs.F64 as F
use Rattle.std.specs.Prelude.{if◌then◌else◌}
use Rattle.vec3.specs.declared.Vec3.{Vec3}
use Rattle.vec3.specs.Vec.{vec, origin, dot, times, unit_vec, unit}
use Rattle.root.specs.Root.{root_of}
use Rattle.fractions.proofs.Round.{Plus}
use Rattle.fractions.proofs.Sizes.{Fin, Upward, Size, Whole, mul_size, add_size, square_upward, square_least, add_upward, add_least, least_add, size_grow}
use Rattle.sizes.proofs.Inverse.{Part, Rooting, rooting, quotient, quotient_of}

-- ---- vectors
pub record Sized (v : Vec3) (b : ℕ) : Type 0 where
  pub x_is : Size v.x b
  pub y_is : Size v.y b
  pub z_is : Size v.z b

pub zero_size : (b : ℕ) → Size F.zero b
unfolding of_bits
zero_size b = record { finite = tt; small = omega arith }

pub one_size : Size F.one 1
unfolding of_bits
one_size = record { finite = tt; small = lit≤ tt }

-- stored as 0.0 + v
pub stored : (x : Float) (b : ℕ) → Whole b → Size x b → Size (F.◌⊕◌ F.zero x) b
stored x b w h = size_grow (F.◌⊕◌ F.zero x) (0 + b) b (omega arith) (add_size F.zero x 0 b (zero_size 0) h (omega arith))

pub vec_sized : (a b c : Float) (s : ℕ) → Whole s → Size a s → Size b s → Size c s → Sized (vec a b c) s
vec_sized a b c s w h k l = record { x_is = stored a s w h; y_is = stored b s w k; z_is = stored c s w l }

pub dot_size : (u v : Vec3) (a b : ℕ) → a ≤ 1024 → b ≤ 1024 → Sized u a → Sized v b → Size (dot u v) (a * b + a * b + a * b)
dot_size u v a b l m h k =
    let w : a * b ≤ 1024 * 1024 = mul-le-mul l m in
    let p : Size (F.◌⊗◌ u.x v.x) (a * b) = mul_size u.x v.x a b h.x_is k.x_is (omega arith) in
    let q : Size (F.◌⊗◌ u.y v.y) (a * b) = mul_size u.y v.y a b h.y_is k.y_is (omega arith) in
    let r : Size (F.◌⊗◌ u.z v.z) (a * b) = mul_size u.z v.z a b h.z_is k.z_is (omega arith) in
    add_size (F.◌⊕◌ (F.◌⊗◌ u.x v.x) (F.◌⊗◌ u.y v.y)) (F.◌⊗◌ u.z v.z) (a * b + a * b) (a * b)
    (add_size (F.◌⊗◌ u.x v.x) (F.◌⊗◌ u.y v.y) (a * b) (a * b) p q (omega arith)) r (omega arith)

plus_of : (x : Float) → Upward x → Fin x → Plus x
plus_of nan u f = absurd f
plus_of (inf s) u f = absurd f
plus_of (fin true m e) u f = absurd u
plus_of (fin false m e) u f = tt

pub square_plus : (v : Vec3) (b : ℕ) → b ≤ 1024 → Sized v b → Plus (dot v v)
square_plus v b l h =
    plus_of (dot v v)
    (add_upward (F.◌⊕◌ (F.◌⊗◌ v.x v.x) (F.◌⊗◌ v.y v.y)) (F.◌⊗◌ v.z v.z)
    (add_upward (F.◌⊗◌ v.x v.x) (F.◌⊗◌ v.y v.y) (square_upward v.x h.x_is.finite) (square_upward v.y h.y_is.finite)) (square_upward v.z h.z_is.finite))
    (dot_size v v b b l l h h).finite

-- the square of each component is a part of the squared length
pub record Parts (v : Vec3) : Type 0 where
  pub x_part : Part v.x (dot v v)
  pub y_part : Part v.y (dot v v)
  pub z_part : Part v.z (dot v v)

pub parts : (v : Vec3) (s : ℕ) → Sized v s → Parts v
parts v s h = record {
  x_part = λ i l g. add_least i (F.◌⊕◌ xx yy) zz l (add_least i xx yy l (square_least i v.x fx l g) (square_upward v.y fy)) (square_upward v.z fz);
  y_part = λ i l g. add_least i (F.◌⊕◌ xx yy) zz l (least_add i xx yy l (square_upward v.x fx) (square_least i v.y fy l g)) (square_upward v.z fz);
  z_part = λ i l g. least_add i (F.◌⊕◌ xx yy) zz l (add_upward xx yy (square_upward v.x fx) (square_upward v.y fy)) (square_least i v.z fz l g);
}
  where
    fx : Fin v.x
    fx = h.x_is.finite

    fy : Fin v.y
    fy = h.y_is.finite

    fz : Fin v.z
    fz = h.z_is.finite

    xx : Float
    xx = mul binary64 v.x v.x

    yy : Float
    yy = mul binary64 v.y v.y

    zz : Float
    zz = mul binary64 v.z v.z

pub squared_small : (v : Vec3) (s : ℕ) → s ≤ 1024 → Sized v s → Size (dot v v) 4194304
squared_small v s l h = size_grow (dot v v) (s * s + s * s + s * s) 4194304 (few (s * s) (mul-le-mul l l)) (dot_size v v s s l l h h)
  where
    few : (x : ℕ) → x ≤ 1048576 → x + x + x ≤ 4194304
    few x h = omega arith

pub rooting_of : (v : Vec3) (s : ℕ) → s ≤ 1024 → Sized v s → eq (root_of (dot v v)) F.zero ≡ false → Rooting (dot v v)
rooting_of v s l h e = rooting (dot v v) (square_plus v s l h) (add-fits binary64 (F.◌⊕◌ (F.◌⊗◌ v.x v.x) (F.◌⊗◌ v.y v.y)) (F.◌⊗◌ v.z v.z)) (squared_small v s l h) e

pub unit_sized : (a b c : Float) (s : ℕ) → s ≤ 1024 → Size a s → Size b s → Size c s → Sized (unit_vec a b c) 2
unfolding unit_vec
unit_sized a b c s l h k j = go (eq (root_of (dot v v)) F.zero) refl
  where
    v : Vec3
    v = record { x = a; y = b; z = c }

    w : Sized v s
    w = record { x_is = h; y_is = k; z_is = j }

    i : Float
    i = F.◌⊘◌ F.one (root_of (dot v v))

    go : (e : Bool) → eq (root_of (dot v v)) F.zero ≡ e → Sized (if e then origin else vec (F.◌⊗◌ i a) (F.◌⊗◌ i b) (F.◌⊗◌ i c)) 2
    go true e = record { x_is = zero_size 2; y_is = zero_size 2; z_is = zero_size 2 }
    go false e =
        let r = rooting_of v s l w e in
        let p = parts v s w in
        let x = quotient (dot v v) r a h.finite p.x_part in
        let y = quotient (dot v v) r b k.finite p.y_part in
        let z = quotient (dot v v) r c j.finite p.z_part in
        vec_sized (F.◌⊗◌ i a) (F.◌⊗◌ i b) (F.◌⊗◌ i c) 2 (lit≤ tt) x y z

-- the same of a vector
pub unit_of_sized : (v : Vec3) (s : ℕ) → s ≤ 1024 → Sized v s → Sized (unit v) 2
unfolding unit
unit_of_sized v s l h = go (eq (root_of (dot v v)) F.zero) refl
  where
    i : Float
    i = F.◌⊘◌ F.one (root_of (dot v v))

    go : (e : Bool) → eq (root_of (dot v v)) F.zero ≡ e → Sized (if e then origin else times v i) 2
    go true e = record { x_is = zero_size 2; y_is = zero_size 2; z_is = zero_size 2 }
    go false e =
        let r = rooting_of v s l h e in
        let p = parts v s h in
        let x = quotient_of (dot v v) r v.x h.x_is.finite p.x_part in
        let y = quotient_of (dot v v) r v.y h.y_is.finite p.y_part in
        let z = quotient_of (dot v v) r v.z h.z_is.finite p.z_part in
        vec_sized (F.◌⊗◌ v.x i) (F.◌⊗◌ v.y i) (F.◌⊗◌ v.z i) 2 (lit≤ tt) x y z
