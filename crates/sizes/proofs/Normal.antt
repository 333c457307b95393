-- A position that is not refused has no component above 2, and neither has the normal of two such. Assumes nothing.
use mathlib.Core.Path.{◌≡◌, ap, subst}
use mathlib.Core.List.{List}
use mathlib.Core.Bool.{Bool, true, false, ◌&&◌}
use Prim.Native.Nat.{ℕ, ◌-◌, ◌*◌, ◌^◌, ◌≤◌, ◌<◌}
use native.Mathlib.Nat.{mul-le-mul, mul-le-mul_right, le_of_mul-le-mul_right, zero-add}
use native.Mathlib.Omega.{arith}
use lib.Dec.{T, lit<, lit≤}
use lib.Pow.{pow-add, pow_pos}
use lib.Ieee.{Float, nan, inf, fin, binary64, of_bits, up, down, mul, lt, le, eq}
use lib.Ieee.Fits.{down_pos, and_l, and_r}
use Rattle.numbers.specs.F64 as F
use Rattle.std.specs.Prelude.{if◌then◌else◌}
use Rattle.numbers.specs.Finite.{finite}
use Rattle.numbers.specs.Near.{abs}
use Rattle.laws.proofs.Firsts.{first_of_zero}
use Rattle.vec3.specs.declared.Vec3.{Vec3}
use Rattle.vec3.specs.Vec.{origin, same, dot, product, summed, parted, stable_unit, axis_x, axis_y, axis_z, axis_for, orthogonal, orthogonal_to}
use Rattle.judge.specs.Judge.{finite_vec, within_range, vector_fault, fault_of, position_fault, positions_fault}
use Rattle.fractions.specs.Frac.{magnitude}
use Rattle.fractions.proofs.Ops.{le_cross}
use Rattle.fractions.proofs.Sizes.{Fin, AtLeast, Size, le_by, square_upward, square_least, add_upward, add_least, least_add}
use Rattle.sizes.proofs.Unit.{Sized, zero_size, one_size, unit_sized}
use Rattle.sizes.proofs.Vectors.{product_sized, summed_sized, parted_sized, if_sized}

-- ---- a position whose squared norm is in range has no component above 2
top : Float
top = of_bits binary64 0x3ff0_0000_0000_1000

over_top : (d : Float) → AtLeast (2 ^ 1076) d → T (le d top) → ⊥
unfolding top of_bits
over_top nan h t = h
over_top (inf true) h t = h
over_top (inf false) h t = unfold le lt eq in t
over_top (fin true m e) h t = h
over_top (fin false m e) h t =
    let l : m * up e * 1099511627776 ≤ 1099511627777 * 1 * down e = le_cross (fin false m e) top tt tt t in
    clash (m * up e) (down e) (2 ^ 1076) (2 ^ 1074) (down_pos e) (pow_pos 1074) (pow-add 2 2 1074) h l
  where
    clash : (a d w u : ℕ) → 0 < d → 0 < u → w ≡ 4 * u → w * d ≤ a * u → a * 1099511627776 ≤ 1099511627777 * 1 * d → ⊥
    clash a d w u D U e h l =
        let k : 4 * d ≤ a = le_of_mul-le-mul_right {k = u} (omega (arith, ap (λ (z : ℕ). z * d) e)) U in
        omega arith

large : (x : Float) → Fin x → 2 * (magnitude x).den < (magnitude x).num → AtLeast (2 ^ 1076) (mul binary64 x x)
large x f h = square_least 1076 x f (lit< tt) (at (magnitude x).num (magnitude x).den (2 ^ 1076) (2 ^ 1074) (pow-add 2 2 1074) h)
  where
    at : (a d w u : ℕ) → w ≡ 4 * u → 2 * d < a → w * (d * d) ≤ a * a * u
    at a d w u e h =
        let l : 2 * d * (2 * d) ≤ a * a = mul-le-mul (omega arith) (omega arith) in
        omega (arith, ap (λ (z : ℕ). z * (d * d)) e, mul-le-mul_right u l)

fin_of : (x : Float) → T (finite x) → Fin x
fin_of nan t = absurd t
fin_of (inf s) t = absurd t
fin_of (fin s m e) t = tt

small : (x : Float) → Fin x → (AtLeast (2 ^ 1076) (mul binary64 x x) → ⊥) → Size x 2
small x f h = record { finite = f; small = le_by ((magnitude x).num * 1) (2 * (magnitude x).den) (λ (g : 2 * (magnitude x).den < (magnitude x).num * 1). h (large x f (omega arith))) }

sized : (p : Vec3) → T (finite_vec p) → T (le (dot p p) top) → Sized p 2
sized p t r = record {
  x_is = small p.x fx (λ h. over_top (dot p p) (add_least 1076 (F.◌⊕◌ xx yy) zz (lit< tt) (add_least 1076 xx yy (lit< tt) h (square_upward p.y fy)) (square_upward p.z fz)) r);
  y_is = small p.y fy (λ h. over_top (dot p p) (add_least 1076 (F.◌⊕◌ xx yy) zz (lit< tt) (least_add 1076 xx yy (lit< tt) (square_upward p.x fx) h) (square_upward p.z fz)) r);
  z_is = small p.z fz (λ h. over_top (dot p p) (least_add 1076 (F.◌⊕◌ xx yy) zz (lit< tt) (add_upward xx yy (square_upward p.x fx) (square_upward p.y fy)) h) r);
}
  where
    fx : Fin p.x
    fx = fin_of p.x (and_l (finite p.x) (finite p.y) (and_l (finite p.x && finite p.y) (finite p.z) t))

    fy : Fin p.y
    fy = fin_of p.y (and_r (finite p.x) (finite p.y) (and_l (finite p.x && finite p.y) (finite p.z) t))

    fz : Fin p.z
    fz = fin_of p.z (and_r (finite p.x && finite p.y) (finite p.z) t)

    xx : Float
    xx = mul binary64 p.x p.x

    yy : Float
    yy = mul binary64 p.y p.y

    zz : Float
    zz = mul binary64 p.z p.z

pub position_sized : (p : Vec3) → fault_of p ≡ 0 → Sized p 2
unfolding fault_of vector_fault top
position_sized p h = let f = fine (finite_vec p) (within_range p) h in sized p f.0 (and_r (le (of_bits binary64 0x3fef_ffff_ffff_e000) (dot p p)) (le (dot p p) top) f.1)
  where
    fine : (b c : Bool) → ◌≡◌ {A = ℕ} (if b then (if c then 0 else 4) else 3) 0 → T b × T c
    fine true true h = (tt, tt)
    fine true false h = absurd (omega arith)
    fine false c h = absurd (omega arith)

-- ---- the normal of an edge
stable_sized : (u v : Vec3) → Sized u 2 → Sized v 2 → Sized (stable_unit u v) 2
stable_sized u v h k =
    let p = product_sized (summed u v) (parted u v) 4 4 (lit≤ tt) (lit≤ tt) (summed_sized u v h k) (parted_sized u v h k) in
    unit_sized (product (summed u v) (parted u v)).x (product (summed u v) (parted u v)).y (product (summed u v) (parted u v)).z 32 (lit≤ tt) p.x_is p.y_is p.z_is

axis_sized : (x y z : Float) → Sized (axis_for x y z) 1
unfolding axis_for
axis_sized x y z =
    if_sized (lt y x) (if lt z x then axis_z else axis_y) (if lt z y then axis_x else axis_y) 1 (if_sized (lt z x) axis_z axis_y 1 third second) (if_sized (lt z y) axis_x axis_y 1 first second)
  where
    first : Sized axis_x 1
    first = record { x_is = one_size; y_is = zero_size 1; z_is = zero_size 1 }

    second : Sized axis_y 1
    second = record { x_is = zero_size 1; y_is = one_size; z_is = zero_size 1 }

    third : Sized axis_z 1
    third = record { x_is = zero_size 1; y_is = zero_size 1; z_is = one_size }

orthogonal_sized : (u : Vec3) → Sized u 2 → Sized (orthogonal u) 2
orthogonal_sized u h =
    let a = axis_for (abs u.x) (abs u.y) (abs u.z) in
    let p = product_sized u a 2 1 (lit≤ tt) (lit≤ tt) h (axis_sized (abs u.x) (abs u.y) (abs u.z)) in
    unit_sized (product u a).x (product u a).y (product u a).z 4 (lit≤ tt) p.x_is p.y_is p.z_is

pub normal_sized : (u v : Vec3) → Sized u 2 → Sized v 2 → Sized (orthogonal_to u v) 2
unfolding orthogonal_to
normal_sized u v h k = if_sized (same (stable_unit u v) origin) (orthogonal u) (stable_unit u v) 2 (orthogonal_sized u h) (stable_sized u v h k)

-- ---- a list whose first n positions are not refused
abbrev pub Fine : List Float → ℕ → Type 0
Fine l n = (j : ℕ) → j < n → position_fault l j ≡ 0

pub fine_of : (l : List Float) (m n : ℕ) → n ≤ m → positions_fault l m ≡ 0 → Fine l n
fine_of l m n b e j h = subst (λ (z : ℕ). position_fault l z ≡ 0) (zero-add j) (first_of_zero (position_fault l) m 0 e j (omega arith))
