-- SCOPE 5: the side of v0 against the great circle from v1 to v2, by the sign of t = v0·(v1 × v2); where |t| is at most 10·2^-52, that limit included, by
-- v0·`orthogonal_to`(v1, v2). Above 0 is left. Definitions only.
use Rattle.std.specs.Prelude.{ℤ, pos, negsuc, Bool, not, ◌&&◌, Float, if◌then◌else◌}
use Rattle.std.specs.Float.Ieee.{lt, le}
use Rattle.numbers.specs.F64.{zero, ten_epsilon}
use Rattle.numbers.specs.Near.{abs, near}
use Rattle.vec3.specs.declared.Vec3.{Vec3}
use Rattle.vec3.specs.Vec.{dot, cross, orthogonal_to}
use Rattle.base.specs.declared.Side.{Side}
use Rattle.base.specs.declared.Side.TheVariants.{Left, Right, Collinear}

-- SCOPE 5, codes: -1 right, 0 collinear, 1 left
abbrev pub side_code : Side → ℤ
side_code Right = negsuc 0
side_code Collinear = pos 0
side_code Left = pos 1

unfoldable pub sign_of : Float → Side
sign_of t = if lt zero t then Left else Right

unfoldable pub retest_of : Vec3 → Vec3 → Vec3 → Side
retest_of v0 v1 v2 =
    let s = dot v0 (orthogonal_to v1 v2) in
    if near s zero then Collinear else sign_of s

unfoldable pub side_of : Vec3 → Vec3 → Vec3 → Side
side_of v0 v1 v2 =
    let t = dot v0 (cross v1 v2) in
    if le (abs t) ten_epsilon then retest_of v0 v1 v2 else sign_of t

-- the triple product t decides alone, for right and for left
abbrev pub settles_right : Float → Bool
settles_right t = not (le (abs t) ten_epsilon) && not (lt zero t)

abbrev pub settles_left : Float → Bool
settles_left t = not (le (abs t) ten_epsilon) && lt zero t

-- right by the product with a normal alone, so that no second test is asked
unfoldable pub surely_right : Vec3 → Vec3 → Bool
surely_right v0 n = settles_right (dot v0 n)
