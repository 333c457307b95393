-- Where a triple product settles its side alone, that is the side. Assumes nothing.
use mathlib.Core.Path.{◌≡◌, refl}
use mathlib.Core.Bool.{Bool, true, false, not, ◌&&◌, false≢true}
use lib.Ieee.{lt, le}
use Rattle.std.specs.Prelude.{if◌then◌else◌}
use Rattle.numbers.specs.F64.{zero, ten_epsilon}
use Rattle.numbers.specs.Near.{abs}
use Rattle.vec3.specs.declared.Vec3.{Vec3}
use Rattle.vec3.specs.Vec.{dot, cross}
use Rattle.base.specs.declared.Side.{Side}
use Rattle.base.specs.declared.Side.TheVariants.{Left, Right}
use Rattle.base.specs.Sides.{sign_of, retest_of, side_of, settles_right, settles_left}

-- by whether the product is small, and whether it is above 0
to_right : (r : Side) (small above : Bool) → not small && not above ≡ true → (if small then r else (if above then Left else Right)) ≡ Right
to_right r true above h = absurd (false≢true h)
to_right r false true h = absurd (false≢true h)
to_right r false false h = refl

to_left : (r : Side) (small above : Bool) → not small && above ≡ true → (if small then r else (if above then Left else Right)) ≡ Left
to_left r true above h = absurd (false≢true h)
to_left r false true h = refl
to_left r false false h = absurd (false≢true h)

module _ (v0 v1 v2 : Vec3) where
  pub settled_right : settles_right (dot v0 (cross v1 v2)) ≡ true → side_of v0 v1 v2 ≡ Right
  unfolding side_of sign_of
  settled_right h = let t = dot v0 (cross v1 v2) in to_right (retest_of v0 v1 v2) (le (abs t) ten_epsilon) (lt zero t) h

  pub settled_left : settles_left (dot v0 (cross v1 v2)) ≡ true → side_of v0 v1 v2 ≡ Left
  unfolding side_of sign_of
  settled_left h = let t = dot v0 (cross v1 v2) in to_left (retest_of v0 v1 v2) (le (abs t) ten_epsilon) (lt zero t) h
