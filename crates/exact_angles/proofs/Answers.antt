-- SCOPE 43: what the contracts of `angle::atan2` and `Angle::between` let through is `NearAngle`: the definition by the contract, and `near_angle`. Assumes nothing.
use mathlib.Core.Path.{sym, subst}
use lib.Ieee.{Float}
use Rattle.angle.specs.declared.Angle.{Angle}
use Rattle.exact_angles.specs.Exact.{NearAngle}
use Rattle.exact_angles.specs.Answers.{Answers}
use Rattle.exact_angles.proofs.Plane.{near_angle}

pub answers : Answers
answers = record {
  atan2_near = λ κs a r v e. subst (λ (z : Float). NearAngle a.0 a.1.0 z) (sym e) (near_angle a.0 a.1.0);
  between_near = λ κs a r v e. subst (λ (z : Angle). NearAngle a.0 a.1.0 z.0) (sym e) (near_angle a.0 a.1.0);
}
