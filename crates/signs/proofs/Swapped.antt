-- The unit vector of two normals' product, exchanged, is the opposite one: both ways the great circles meet in the same two points. Assumes nothing.
use Prim.Native.Nat.{ℕ, zero, suc, ◌*◌, ◌^◌}
use mathlib.Core.Path.{◌≡◌, refl, sym, ap, ◌∙◌, subst}
use mathlib.Core.Bool.{Bool, true, false, cond}
use lib.IntN.{ℤ, pos}
use lib.Dec.{T, ltb}
use lib.Ieee.{Float, nan, inf, fin, binary64, up, down, round, neg, add, sub, mul, unlike, fits, eq, of_bits, units, odd}
use lib.Ieee.Fits.{round_is, mul-fits, add-fits, neg-fits}
use Rattle.std.specs.Prelude.{if◌then◌else◌}
use Rattle.numbers.specs.F64 as F
use Rattle.root.specs.Root.{root_of}
use Rattle.vec3.specs.declared.Vec3.{Vec3}
use Rattle.vec3.specs.Vec.{vec, origin, opposite, summed, parted, unit_vec, stable_unit}
use Rattle.signs.specs.Signs.{cleared_float}
use Rattle.signs.proofs.Clears.{zero_exponent, stored}
use Rattle.signs.proofs.Rounding.{mul_neg}
use Rattle.signs.proofs.Adding.{add_order, add_neg}
use Rattle.signs.proofs.Alikes.{neg_twice, neg_cleared, mul_alike_left, mul_alike_right, mul_neg_right, add_alike, sub_swapped}

-- ---- a square has no sign
square_signs : (x : Float) → mul binary64 (neg x) (neg x) ≡ mul binary64 x x
square_signs x = mul_neg x (neg x) ∙ ap neg (mul_neg_right x x) ∙ neg_twice (mul binary64 x x)

unlike_itself : (s : Bool) → unlike s s ≡ false
unlike_itself true = refl
unlike_itself false = refl

-- not negative: as rounding leaves it
data Above : Float → Type 0 where
  no_number : Above nan
  endless : Above (inf false)
  number : (m : ℕ) (e : ℤ) → Above (fin false m e)

above_odd : (d q k l : ℕ) → Above (odd d false q k l)
unfolding odd
above_odd d zero k l = number zero (pos zero)
above_odd d (suc q) k l = number _ _

above_if : (b : Bool) (q k : ℕ) → Above (cond b (odd 54 false q k 1074) (inf false))
above_if true q k = above_odd 54 q k 1074
above_if false q k = endless

above_units : (q k : ℕ) → Above (units binary64 false q k)
unfolding units
above_units q k = above_if (ltb (q * 2 ^ k) (2 ^ 2098)) q k

above_round : (num den : ℕ) → Above (round binary64 false num den)
above_round num den = subst Above (sym (round_is binary64 false num den)) (above_units _ _)

above_is_cleared : (x : Float) → Above x → T (fits binary64 x) → cleared_float x ≡ x
unfolding cleared_float
above_is_cleared nan a t = refl
above_is_cleared (inf s) a t = refl
above_is_cleared (fin false zero e) a t = sym (zero_exponent false e t)
above_is_cleared (fin false (suc m) e) a t = refl
above_is_cleared (fin true _ e) a t = elim a [ ]

square_above : (x : Float) → Above (mul binary64 x x)
unfolding mul
square_above nan = no_number
square_above (inf s) = subst (λ (b : Bool). Above (inf b)) (sym (unlike_itself s)) endless
square_above (fin s m e) =
    let n = m * up e in
    let d = down e in
    subst (λ (b : Bool). Above (round binary64 b (n * n) (d * d))) (sym (unlike_itself s)) (above_round (n * n) (d * d))

square_cleared : (x : Float) → cleared_float (mul binary64 x x) ≡ mul binary64 x x
square_cleared x = above_is_cleared (mul binary64 x x) (square_above x) (mul-fits binary64 x x)

-- of two that are negations but for a zero's sign
square_same : (x y : Float) → cleared_float x ≡ cleared_float (neg y) → mul binary64 x x ≡ mul binary64 y y
square_same x y h = sym (square_cleared x) ∙ mul_alike_left x (neg y) x h ∙ mul_alike_right (neg y) x (neg y) h ∙ ap cleared_float (square_signs y) ∙ square_cleared y

-- ---- the components of (v + u) × (v - u), exchanged
component : (a b c d b' d' : Float) → cleared_float b' ≡ cleared_float (neg b) → cleared_float d' ≡ cleared_float (neg d)
    → cleared_float (F.◌⊖◌ (F.◌⊗◌ a b') (F.◌⊗◌ c d')) ≡ cleared_float (neg (F.◌⊖◌ (F.◌⊗◌ a b) (F.◌⊗◌ c d)))
unfolding sub
component a b c d b' d' g h =
    let p = mul_alike_right a b' (neg b) g ∙ ap cleared_float (mul_neg_right a b) in
    let q = mul_alike_right c d' (neg d) h ∙ ap cleared_float (mul_neg_right c d) in
    let r = neg_cleared (F.◌⊗◌ c d') ∙ ap (λ (z : Float). cleared_float (neg z)) q ∙ sym (neg_cleared (neg (F.◌⊗◌ c d))) in
    add_alike (F.◌⊗◌ a b') (neg (F.◌⊗◌ a b)) (neg (F.◌⊗◌ c d')) (neg (neg (F.◌⊗◌ c d))) p r
    ∙ add_neg (F.◌⊗◌ a b) (neg (F.◌⊗◌ c d))

-- ---- at unit length
scaled : (k a b : Float) → cleared_float a ≡ cleared_float (neg b) → F.◌⊕◌ F.zero (F.◌⊗◌ k a) ≡ F.◌⊕◌ F.zero (neg (F.◌⊕◌ F.zero (F.◌⊗◌ k b)))
scaled k a b h =
    let w = F.◌⊗◌ k b in
    stored (F.◌⊗◌ k a) (mul-fits binary64 k a)
    ∙ mul_alike_right k a (neg b) h
    ∙ ap cleared_float (mul_neg_right k b)
    ∙ neg_cleared w
    ∙ ap (λ (z : Float). cleared_float (neg z)) (sym (stored w (mul-fits binary64 k b)))
    ∙ sym (stored (neg (F.◌⊕◌ F.zero w)) (neg-fits binary64 (F.◌⊕◌ F.zero w) (add-fits binary64 F.zero w)))

opposite_origin : opposite origin ≡ origin
unfolding add neg of_bits
opposite_origin = refl

unit_if : (z : Bool) (k a b c a' b' c' : Float) → cleared_float a ≡ cleared_float (neg a') → cleared_float b ≡ cleared_float (neg b') → cleared_float c ≡ cleared_float (neg c')
    → (if z then origin else vec (F.◌⊗◌ k a) (F.◌⊗◌ k b) (F.◌⊗◌ k c)) ≡ opposite (if z then origin else vec (F.◌⊗◌ k a') (F.◌⊗◌ k b') (F.◌⊗◌ k c'))
unit_if true k a b c a' b' c' f g h = sym opposite_origin
unit_if false k a b c a' b' c' f g h = rw (scaled k a a' f, scaled k b b' g, scaled k c c' h) refl

unit_swapped : (a b c a' b' c' : Float) → cleared_float a ≡ cleared_float (neg a') → cleared_float b ≡ cleared_float (neg b') → cleared_float c ≡ cleared_float (neg c') → unit_vec a b c ≡ opposite (unit_vec a' b' c')
unfolding unit_vec
unit_swapped a b c a' b' c' f g h =
    let n' = root_of (F.◌⊕◌ (F.◌⊕◌ (F.◌⊗◌ a' a') (F.◌⊗◌ b' b')) (F.◌⊗◌ c' c')) in
    rw (square_same a a' f, square_same b b' g, square_same c c' h) (unit_if (eq n' F.zero) (F.◌⊘◌ F.one n') a b c a' b' c' f g h)

pub stable_swapped : (u v : Vec3) → stable_unit v u ≡ opposite (stable_unit u v)
stable_swapped u v =
    let s = summed u v in
    let d = parted u v in
    let e = parted v u in
    rw (add_order u.x v.x, add_order u.y v.y, add_order u.z v.z)
    (unit_swapped _ _ _ _ _ _
    (component s.y d.z s.z d.y e.z e.y (sub_swapped v.z u.z) (sub_swapped v.y u.y))
    (component s.z d.x s.x d.z e.x e.z (sub_swapped v.x u.x) (sub_swapped v.z u.z))
    (component s.x d.y s.y d.x e.y e.x (sub_swapped v.y u.y) (sub_swapped v.x u.x)))
