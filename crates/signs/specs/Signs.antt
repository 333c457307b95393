-- The sign of a zero: a float without it, and floats and vectors that have none. Definitions only.
use Rattle.std.specs.Prelude.{zero, suc, ◌≡◌, false, pos, T, Float}
use Rattle.std.specs.Float.{nan, inf, fin, binary64}
use Rattle.std.specs.Float.Ieee.{fits, neg}
use Rattle.numbers.specs.F64 as F
use Rattle.vec3.specs.declared.Vec3.{Vec3}

-- a zero without its sign, everything else as it is
unfoldable pub cleared_float : Float → Float
cleared_float nan = nan
cleared_float (inf s) = inf s
cleared_float (fin s zero e) = fin false zero (pos zero)
cleared_float (fin s (suc m) e) = fin s (suc m) e

-- a float of the format that is not -0.0, and a vector of them
pub record Unsigned (x : Float) : Type 0 where
  pub held : T (fits binary64 x)
  pub signed : x ≡ neg F.zero → ⊥

pub record UnsignedVec (v : Vec3) : Type 0 where
  pub on_x : Unsigned v.x
  pub on_y : Unsigned v.y
  pub on_z : Unsigned v.z
