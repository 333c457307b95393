-- The classes stand at each index before k.
use Rattle.std.proofs.Common.{◌∷◌, []}
use Rattle.laws.proofs.Blocks.{Fill}
use Rattle.ring_corners.specs.Corners.{class_at}
use Rattle.ring_corners.proofs.write_classes.Given as goal

abbrev pub invariant-loop-k : goal.invariant-loop-k
invariant-loop-k l = Fill 1 (λ j. class_at l.list l.n l.reversed j ∷ []) l.n l.k l.initial.out l.out
