-- A position that is right by a product with the normal is right by the side test. Assumes nothing.
use mathlib.Core.Path.{◌≡◌}
use mathlib.Core.Bool.{true}
use Rattle.vec3.specs.declared.Vec3.{Vec3}
use Rattle.vec3.specs.Vec.{cross}
use Rattle.base.specs.declared.Side.TheVariants.{Right}
use Rattle.base.specs.Sides.{side_of, surely_right}
use Rattle.base.proofs.Settling.{settled_right}

pub surely_right_lem : (v0 v1 v2 : Vec3) → surely_right v0 (cross v1 v2) ≡ true → side_of v0 v1 v2 ≡ Right
unfolding surely_right
surely_right_lem v0 v1 v2 h = settled_right v0 v1 v2 h
