-- How large sums, differences, products and means of vectors come out, and that what has a size is finite. Assumes nothing.
use mathlib.Core.Path.{◌≡◌, refl, sym, subst}
use mathlib.Core.Bool.{Bool, true, false}
use Prim.Native.Nat.{ℕ, zero, suc, ◌+◌, ◌*◌, ◌≤◌}
use native.Mathlib.Nat.{mul-le-mul}
use native.Mathlib.Omega.{arith}
use lib.Dec.{T, lit≤}
use lib.Ieee.{Float, nan, inf, fin, binary64, fits, neg}
use Rattle.numbers.specs.F64 as F
use Rattle.std.specs.Prelude.{if◌then◌else◌}
use Rattle.numbers.specs.Finite.{finite}
use Rattle.root.specs.Root.{root_of}
use Rattle.root.proofs.Nearest.{root_is}
use Rattle.vec3.specs.declared.Vec3.{Vec3}
use Rattle.vec3.specs.Vec.{product, summed, parted, plus, minus, opposite, mean3}
use Rattle.judge.specs.Judge.{finite_vec}
use Rattle.fractions.proofs.Round.{Plus}
use Rattle.fractions.proofs.Sizes.{Fin, Size, Whole, mul_size, add_size, sub_size, neg_under, size_grow}
use Rattle.sizes.proofs.Unit.{Sized, zero_size, vec_sized, unit_sized}

pub sized_grow : (v : Vec3) (a b : ℕ) → a ≤ b → Sized v a → Sized v b
sized_grow v a b l h = record { x_is = size_grow v.x a b l h.x_is; y_is = size_grow v.y a b l h.y_is; z_is = size_grow v.z a b l h.z_is }

-- ---- products
pub product_sized : (u v : Vec3) (a b : ℕ) → a ≤ 8 → b ≤ 8 → Sized u a → Sized v b → Sized (product u v) (a * b + a * b)
product_sized u v a b l m h k = record {
  x_is = apart u.y v.z u.z v.y h.y_is k.z_is h.z_is k.y_is;
  y_is = apart u.z v.x u.x v.z h.z_is k.x_is h.x_is k.z_is;
  z_is = apart u.x v.y u.y v.x h.x_is k.y_is h.y_is k.x_is;
}
  where
    apart : (p q r s : Float) → Size p a → Size q b → Size r a → Size s b → Size (F.◌⊖◌ (F.◌⊗◌ p q) (F.◌⊗◌ r s)) (a * b + a * b)
    apart p q r s P Q R S =
        let w : a * b ≤ 64 = mul-le-mul l m in
        sub_size (F.◌⊗◌ p q) (F.◌⊗◌ r s) (a * b) (a * b) (mul_size p q a b P Q (omega arith)) (mul_size r s a b R S (omega arith)) (omega arith)

-- ---- sums and differences, as they come
pub summed_sized : (u v : Vec3) → Sized u 2 → Sized v 2 → Sized (summed u v) 4
summed_sized u v h k = record {
  x_is = add_size v.x u.x 2 2 k.x_is h.x_is (lit≤ tt);
  y_is = add_size v.y u.y 2 2 k.y_is h.y_is (lit≤ tt);
  z_is = add_size v.z u.z 2 2 k.z_is h.z_is (lit≤ tt);
}

pub parted_sized : (u v : Vec3) → Sized u 2 → Sized v 2 → Sized (parted u v) 4
parted_sized u v h k = record {
  x_is = sub_size v.x u.x 2 2 k.x_is h.x_is (lit≤ tt);
  y_is = sub_size v.y u.y 2 2 k.y_is h.y_is (lit≤ tt);
  z_is = sub_size v.z u.z 2 2 k.z_is h.z_is (lit≤ tt);
}

-- and stored
pub plus_sized : (u v : Vec3) (a b : ℕ) → Whole (a + b) → Sized u a → Sized v b → Sized (plus u v) (a + b)
plus_sized u v a b w h k =
    vec_sized (F.◌⊕◌ u.x v.x) (F.◌⊕◌ u.y v.y) (F.◌⊕◌ u.z v.z) (a + b) w (add_size u.x v.x a b h.x_is k.x_is w)
    (add_size u.y v.y a b h.y_is k.y_is w) (add_size u.z v.z a b h.z_is k.z_is w)

pub minus_sized : (u v : Vec3) (a b : ℕ) → Whole (a + b) → Sized u a → Sized v b → Sized (minus u v) (a + b)
minus_sized u v a b w h k =
    vec_sized (F.◌⊖◌ u.x v.x) (F.◌⊖◌ u.y v.y) (F.◌⊖◌ u.z v.z) (a + b) w (sub_size u.x v.x a b h.x_is k.x_is w)
    (sub_size u.y v.y a b h.y_is k.y_is w) (sub_size u.z v.z a b h.z_is k.z_is w)

pub opposite_sized : (u : Vec3) (b : ℕ) → Whole b → Sized u b → Sized (opposite u) b
opposite_sized u b w h = vec_sized (neg u.x) (neg u.y) (neg u.z) b w (neg_under u.x b 1 h.x_is) (neg_under u.y b 1 h.y_is) (neg_under u.z b 1 h.z_is)

-- the mean of three
pub mean_sized : (u v w : Vec3) → Sized u 2 → Sized v 2 → Sized w 2 → Sized (mean3 u v w) 2
mean_sized u v w h k j =
    unit_sized (total u.x v.x w.x) (total u.y v.y w.y) (total u.z v.z w.z) 6 (lit≤ tt) (six u.x v.x w.x h.x_is k.x_is j.x_is)
    (six u.y v.y w.y h.y_is k.y_is j.y_is) (six u.z v.z w.z h.z_is k.z_is j.z_is)
  where
    total : Float → Float → Float → Float
    total a b c = F.◌⊕◌ (F.◌⊕◌ (F.◌⊕◌ F.zero a) b) c

    six : (a b c : Float) → Size a 2 → Size b 2 → Size c 2 → Size (total a b c) 6
    six a b c p q r = add_size (F.◌⊕◌ (F.◌⊕◌ F.zero a) b) c 4 2 (add_size (F.◌⊕◌ F.zero a) b 2 2 (add_size F.zero a 0 2 (zero_size 0) p (lit≤ tt)) q (lit≤ tt)) r (lit≤ tt)

-- ---- a choice of two
pub if_sized : (b : Bool) (u v : Vec3) (s : ℕ) → Sized u s → Sized v s → Sized (if b then u else v) s
if_sized true u v s h k = h
if_sized false u v s h k = k

-- ---- what is finite
pub size_finite : (x : Float) (b : ℕ) → Size x b → finite x ≡ true
size_finite nan b h = absurd h.finite
size_finite (inf s) b h = absurd h.finite
size_finite (fin s m e) b h = refl

pub sized_finite : (v : Vec3) (b : ℕ) → Sized v b → finite_vec v ≡ true
sized_finite v b h = rw (size_finite v.x b h.x_is, size_finite v.y b h.y_is, size_finite v.z b h.z_is)

pub root_finite : (x : Float) → Plus x → T (fits binary64 x) → Fin (root_of x)
root_finite nan p t = absurd p
root_finite (inf s) p t = absurd p
root_finite (fin true m e) p t = absurd p
root_finite (fin false zero e) p t = unfold root_of in tt
root_finite (fin false (suc m) e) p t = let r = root_is (fin false (suc m) e) t in subst Fin (sym r.plus.1.1) tt

pub neg_finite : (x : Float) → Fin x → Fin (neg x)
unfolding neg
neg_finite nan f = f
neg_finite (inf s) f = f
neg_finite (fin s m e) f = tt
