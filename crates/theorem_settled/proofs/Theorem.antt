-- The theorem over the worked examples of SCOPE 37: by computation, with the real root and arctangent. Assumes nothing.
use mathlib.Core.Path.{◌≡◌, refl}
use mathlib.Core.Bool.{true}
use Rattle.vec3.specs.declared.Vec3.{Vec3}
use Rattle.vec3.specs.Vec.{cleared, same}
use Rattle.ring_corners.specs.Corners.{opened}
use Rattle.theorem_settled.proofs.Computing as Computing
use Rattle.theorem_settled.specs.Settled.{Openings, Settled}

openings : (a b c : Vec3) → same (cleared a) (cleared a) ≡ true → Openings a b c
unfolding opened
openings a b c e = record { one = simp e; closed_once = simp e; closed_twice = simp e }

pub settled : Settled
unfolding Computing.of_checking Computing.of_relating
settled = record {
  left = refl;
  right = refl;
  collinear = refl;
  root_4 = refl;
  root_least = refl;
  openings = openings;
  area_1_ring = refl;
  full = refl;
  four_ring = refl;
  four_triangles = refl;
  four_own = refl;
  four_also = refl;
  four_not = refl;
  containing = refl;
  disjoint = refl;
}
