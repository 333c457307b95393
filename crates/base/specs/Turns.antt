-- SCOPE 6: the turning angle with a reference vector, the arctangent of a signed sine and a cosine. Definitions only.
use Rattle.std.specs.Prelude.{Float, if◌then◌else◌}
use Rattle.std.specs.Float.Ieee.{neg, le}
use Rattle.numbers.specs.F64.{zero}
use Rattle.root.specs.Root.{root_of}
use Rattle.vec3.specs.declared.Vec3.{Vec3}
use Rattle.vec3.specs.Vec.{dot, cross}
use Rattle.angle.specs.declared.Angle.{Angle}
use Rattle.angle.specs.Angles.{between}

unfoldable pub sine_of : Vec3 → Vec3 → Vec3 → Float
sine_of v1 v2 vn =
    let k = cross v1 v2 in
    let norm = root_of (dot k k) in
    if le zero (dot k vn) then norm else neg norm

abbrev pub turning_angle : Vec3 → Vec3 → Vec3 → Angle
turning_angle v1 v2 vn = between (sine_of v1 v2 vn) (dot v1 v2)
