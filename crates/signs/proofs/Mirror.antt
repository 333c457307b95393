-- The mirror law: the side of a vector's opposite is the mirror of its own, unless the product that decides is NaN: then both are right. Assumes nothing.
use Prim.Native.Nat.{zero, suc}
use mathlib.Core.Path.{◌≡◌, refl, sym, ap, ◌∙◌}
use mathlib.Core.Bool.{Bool, true, false, not, false≢true}
use lib.IntN.{negsuc}
use lib.Dec.{T}
use lib.Ieee.{Float, nan, inf, fin, binary64, neg, add, sub, fits, lt, le, of_bits}
use lib.Ieee.Fits.{add-fits, neg-fits}
use Rattle.std.specs.Prelude.{if◌then◌else◌}
use Rattle.numbers.specs.F64 as F
use Rattle.numbers.specs.Near.{abs, near}
use Rattle.vec3.specs.declared.Vec3.{Vec3}
use Rattle.vec3.specs.Vec.{opposite, dot, cross, orthogonal_to}
use Rattle.base.specs.declared.Side.{Side}
use Rattle.base.specs.declared.Side.TheVariants.{Left, Right, Collinear}
use Rattle.base.specs.Sides.{sign_of, retest_of, side_of}
use Rattle.signs.specs.Signs.{cleared_float, Unsigned}
use Rattle.signs.specs.Mirrors.{mirror, is_number, Stored, deciding, Mirrored, MirrorLaw}
use Rattle.signs.proofs.Clears.{stored, cleared_twice}
use Rattle.signs.proofs.Rounding.{mul_neg}
use Rattle.signs.proofs.Adding.{add_neg}
use Rattle.signs.proofs.Alikes.{mul_alike_left, add_alike}
use Rattle.signs.proofs.Tests.{ten_mirrored, above_mirrored, epsilon_is, ten_is, near_small, near_mirrored}

-- ---- the product with the opposite vector
component : (x k : Float) → Unsigned x → cleared_float (F.◌⊗◌ (F.◌⊕◌ F.zero (neg x)) k) ≡ cleared_float (neg (F.◌⊗◌ x k))
component x k u =
    mul_alike_left (F.◌⊕◌ F.zero (neg x)) (neg x) k (ap cleared_float (stored (neg x) (neg-fits binary64 x u.held)) ∙ cleared_twice (neg x))
    ∙ ap cleared_float (mul_neg x k)

pub dot_opposite : (v k : Vec3) → Stored v → cleared_float (dot (opposite v) k) ≡ cleared_float (neg (dot v k))
dot_opposite v k s =
    let a = F.◌⊗◌ v.x k.x in
    let b = F.◌⊗◌ v.y k.y in
    let c = F.◌⊗◌ v.z k.z in
    add_alike _ (neg (F.◌⊕◌ a b)) _ (neg c)
    (add_alike _ (neg a) _ (neg b) (component v.x k.x s.on_x) (component v.y k.y s.on_y) ∙ add_neg a b)
    (component v.z k.z s.on_z)
    ∙ add_neg (F.◌⊕◌ a b) c

dot_fits : (u v : Vec3) → T (fits binary64 (dot u v))
dot_fits u v = add-fits binary64 _ _

-- ---- a NaN decides for right
nan_of : (x : Float) → is_number x ≡ false → x ≡ nan
nan_of nan n = refl
nan_of (inf s) n = absurd (false≢true (sym n))
nan_of (fin s m e) n = absurd (false≢true (sym n))

nan_sign : sign_of nan ≡ Right
unfolding sign_of lt of_bits
nan_sign = refl

nan_far : near nan F.zero ≡ false
unfolding sub add neg abs lt le of_bits
nan_far = refl

nan_if : (b : Bool) (x y : Float) → is_number (if b then x else y) ≡ false → (if b then (if near x F.zero then Collinear else sign_of x) else sign_of y) ≡ Right
nan_if true x y n = rw (nan_of x n, nan_far) nan_sign
nan_if false x y n = rw (nan_of y n) nan_sign

nan_right : (v u w : Vec3) → is_number (deciding v u w) ≡ false → side_of v u w ≡ Right
unfolding deciding side_of retest_of
nan_right v u w n =
    let y = dot v (cross u w) in
    nan_if (le (abs y) F.ten_epsilon) (dot v (orthogonal_to u w)) y n

-- a number with its sign turned, or without a zero's sign, is a number
number_cleared : (x : Float) → is_number (cleared_float x) ≡ is_number x
unfolding cleared_float
number_cleared nan = refl
number_cleared (inf s) = refl
number_cleared (fin s zero e) = refl
number_cleared (fin s (suc m) e) = refl

number_neg : (x : Float) → is_number (neg x) ≡ is_number x
unfolding neg
number_neg nan = refl
number_neg (inf s) = refl
number_neg (fin s m e) = refl

number_mirrored : (x y : Float) → cleared_float x ≡ cleared_float (neg y) → is_number x ≡ is_number y
number_mirrored x y h = sym (number_cleared x) ∙ ap is_number h ∙ number_cleared (neg y) ∙ number_neg y

-- ---- the sign, the retest, and the side
sign_if : (b c : Bool) → b ≡ not c → (if b then Left else Right) ≡ mirror (if c then Left else Right)
sign_if true true e = absurd (false≢true (sym e))
sign_if true false e = refl
sign_if false true e = refl
sign_if false false e = absurd (false≢true e)

sign_mirrored : (x y : Float) → lt F.zero x ≡ not (lt F.zero y) → sign_of x ≡ mirror (sign_of y)
unfolding sign_of
sign_mirrored x y e = sign_if (lt F.zero x) (lt F.zero y) e

retest_if : (b : Bool) (r s : Side) → (b ≡ false → r ≡ mirror s) → (if b then Collinear else r) ≡ mirror (if b then Collinear else s)
retest_if true r s f = refl
retest_if false r s f = f refl

side_if : (b : Bool) (x y : Float) (r s r' s' : Side) → is_number (if b then x else y) ≡ true
    → (is_number x ≡ true → r ≡ mirror r') → (b ≡ false → is_number y ≡ true → s ≡ mirror s') → (if b then r else s) ≡ mirror (if b then r' else s')
side_if true x y r s r' s' n f g = f n
side_if false x y r s r' s' n f g = g refl n

number_if : (b : Bool) (x y x' y' : Float) → is_number x ≡ is_number x' → is_number y ≡ is_number y' → is_number (if b then x else y) ≡ is_number (if b then x' else y')
number_if true x y x' y' f g = f
number_if false x y x' y' f g = g

abbrev is_right : Side → Bool
is_right Left = false
is_right Right = true
is_right Collinear = false

module _ (v u w : Vec3) (held : Stored v) where
  retest_mirrored : is_number (dot v (orthogonal_to u w)) ≡ true → retest_of (opposite v) u w ≡ mirror (retest_of v u w)
  unfolding retest_of
  retest_mirrored n =
      let k = orthogonal_to u w in
      let h = dot_opposite v k held in
      let x = dot (opposite v) k in
      let y = dot v k in
      let is-small = ap (λ (z : Float). le (abs y) z) (sym epsilon_is) ∙ sym (near_small y (dot_fits v k)) in
      rw (near_mirrored x y (dot_fits (opposite v) k) (dot_fits v k) h)
      (retest_if (near y F.zero) (sign_of x) (sign_of y) (λ e. sign_mirrored x y (above_mirrored 0 (negsuc 51) x y h n (is-small ∙ e))))

  pub side_mirrored : is_number (deciding v u w) ≡ true → side_of (opposite v) u w ≡ mirror (side_of v u w)
  unfolding deciding side_of
  side_mirrored n =
      let k = cross u w in
      let h = dot_opposite v k held in
      let x = dot (opposite v) k in
      let y = dot v k in
      let is-small = ap (λ (z : Float). le (abs y) z) (sym ten_is) in
      rw (ten_mirrored x y h)
      (side_if (le (abs y) F.ten_epsilon) (dot v (orthogonal_to u w)) y (retest_of (opposite v) u w) (sign_of x) (retest_of v u w) (sign_of y) n
      retest_mirrored (λ e o. sign_mirrored x y (above_mirrored 4 (negsuc 50) x y h o (is-small ∙ e))))

  deciding_mirrored : is_number (deciding (opposite v) u w) ≡ is_number (deciding v u w)
  unfolding deciding
  deciding_mirrored =
      let k = cross u w in
      let l = orthogonal_to u w in
      let x = dot (opposite v) k in
      let y = dot v k in
      rw (ten_mirrored x y (dot_opposite v k held))
      (number_if (le (abs y) F.ten_epsilon) (dot (opposite v) l) x (dot v l) y
      (number_mirrored (dot (opposite v) l) (dot v l) (dot_opposite v l held)) (number_mirrored x y (dot_opposite v k held)))

  -- by whether the product that decides is a number
  not_right : (s : Side) (b : Bool) → is_number (deciding v u w) ≡ b → side_of v u w ≡ s → is_right s ≡ false → side_of (opposite v) u w ≡ mirror s
  not_right s true n e r = side_mirrored n ∙ ap mirror e
  not_right s false n e r = absurd (false≢true (sym r ∙ ap is_right (sym e ∙ nan_right v u w n)))

  pub left_mirrored : side_of v u w ≡ Left → side_of (opposite v) u w ≡ Right
  left_mirrored e = not_right Left (is_number (deciding v u w)) refl e refl

  mirrored : Mirrored v u w
  mirrored = record {
    by_number = side_mirrored;
    by_nan = λ n. (nan_right v u w n, nan_right (opposite v) u w (deciding_mirrored ∙ n));
    left = left_mirrored;
    collinear = λ e. not_right Collinear (is_number (deciding v u w)) refl e refl;
  }

pub mirror_law : MirrorLaw
mirror_law = mirrored
