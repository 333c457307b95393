-- A unit vector is as it is stored, and so is the opposite of a stored vector, whose own opposite is that vector again. Assumes nothing.
use mathlib.Core.Path.{◌≡◌, refl, sym, ap, ◌∙◌}
use mathlib.Core.Bool.{Bool, true, false}
use lib.Dec.{T}
use lib.Ieee.{Float, binary64, neg, add, fits, eq, of_bits}
use lib.Ieee.Fits.{add-fits, mul-fits, neg-fits}
use Rattle.std.specs.Prelude.{if◌then◌else◌}
use Rattle.numbers.specs.F64 as F
use Rattle.root.specs.Root.{root_of}
use Rattle.vec3.specs.declared.Vec3.{Vec3}
use Rattle.vec3.specs.Vec.{vec, origin, opposite, unit_vec, stable_cross, stable_unit}
use Rattle.signs.specs.Signs.{cleared_float, Unsigned}
use Rattle.signs.specs.Mirrors.{Stored}
use Rattle.signs.proofs.Clears.{stored, plus_unsigned, stored_unsigned}
use Rattle.signs.proofs.Alikes.{neg_twice, neg_cleared}

pub vec_stored : (a b c : Float) → T (fits binary64 a) → T (fits binary64 b) → T (fits binary64 c) → Stored (vec a b c)
vec_stored a b c p q r = record { on_x = stored_unsigned a p; on_y = stored_unsigned b q; on_z = stored_unsigned c r }

-- ---- a unit vector
origin_stored : Stored origin
unfolding add fits of_bits
origin_stored = vec_stored F.zero F.zero F.zero tt tt tt

unit_if : (z : Bool) (k a b c : Float) → Stored (if z then origin else vec (F.◌⊗◌ k a) (F.◌⊗◌ k b) (F.◌⊗◌ k c))
unit_if true k a b c = origin_stored
unit_if false k a b c = vec_stored (F.◌⊗◌ k a) (F.◌⊗◌ k b) (F.◌⊗◌ k c) (mul-fits binary64 k a) (mul-fits binary64 k b) (mul-fits binary64 k c)

unit_stored : (a b c : Float) → Stored (unit_vec a b c)
unfolding unit_vec
unit_stored a b c = let n = root_of (F.◌⊕◌ (F.◌⊕◌ (F.◌⊗◌ a a) (F.◌⊗◌ b b)) (F.◌⊗◌ c c)) in unit_if (eq n F.zero) (F.◌⊘◌ F.one n) a b c

pub stable_stored : (u v : Vec3) → Stored (stable_unit u v)
stable_stored u v = let k = stable_cross u v in unit_stored k.x k.y k.z

-- ---- the opposite, and back
pub opposite_stored : (v : Vec3) → Stored v → Stored (opposite v)
opposite_stored v s =
    vec_stored (neg v.x) (neg v.y) (neg v.z)
    (neg-fits binary64 v.x s.on_x.held) (neg-fits binary64 v.y s.on_y.held) (neg-fits binary64 v.z s.on_z.held)

back : (x : Float) → Unsigned x → F.◌⊕◌ F.zero (neg (F.◌⊕◌ F.zero (neg x))) ≡ x
back x h =
    let a = F.◌⊕◌ F.zero (neg x) in
    stored (neg a) (neg-fits binary64 a (add-fits binary64 F.zero (neg x)))
    ∙ ap (λ (z : Float). cleared_float (neg z)) (stored (neg x) (neg-fits binary64 x h.held))
    ∙ sym (neg_cleared (neg x))
    ∙ ap cleared_float (neg_twice x)
    ∙ sym (stored x h.held)
    ∙ plus_unsigned x h

pub opposite_back : (v : Vec3) → Stored v → opposite (opposite v) ≡ v
opposite_back v s = rw (back v.x s.on_x, back v.y s.on_y, back v.z s.on_z) refl
