-- The sides of SCOPE 37: antt computes each. Assumes nothing.
use mathlib.Core.Path.{◌≡◌, refl}
use lib.Ieee.{add, sub, mul, div, neg, lt, le, eq, of_bits}
use Rattle.root.specs.Root.{root_of}
use Rattle.numbers.specs.Near.{abs}
use Rattle.vec3.specs.Vec.{axis_x, axis_y, axis_z, unit_vec, axis_for, orthogonal_to}
use Rattle.base.specs.Sides.{sign_of, retest_of, side_of}
use Rattle.base.specs.declared.Side.TheVariants.{Left, Right, Collinear}

pub axes : (side_of axis_x axis_y axis_z ≡ Left) × (side_of axis_x axis_z axis_y ≡ Right) × (side_of axis_x axis_x axis_y ≡ Collinear)
unfolding side_of sign_of retest_of orthogonal_to unit_vec axis_for abs root_of add sub mul div neg lt le eq of_bits
axes = (refl, refl, refl)
