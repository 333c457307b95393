-- SCOPE 43: what a caller is answered. Over the contracts' own postconditions (`Reads.Post`): each answer that `angle::atan2` and `Angle::between` can give by
-- their contracts is the angle of their two arguments, y and x. Proved in proofs/Answers.antt. Definitions only.
use Rattle.outcomes.specs.Outcomes.{EachAnswer}
use Rattle.angle.proofs.atan2 as Atan2
use Rattle.angle.proofs.Angle.between as Between
use Rattle.exact_angles.specs.Exact.{NearAngle}

pub record Answers : Type 0 where
  pub atan2_near : EachAnswer Atan2.Kinds.ps Atan2.Kinds.r Atan2.Reads.Post (λ κs a r. NearAngle a.0 a.1.0 r)
  pub between_near : EachAnswer Between.Kinds.ps Between.Kinds.r Between.Reads.Post (λ κs a r. NearAngle a.0 a.1.0 r.0)
