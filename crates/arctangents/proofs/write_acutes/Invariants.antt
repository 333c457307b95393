-- The arctangents stand at each index before j.
use Rattle.std.proofs.Common.{◌∷◌, [], get_or}
use Rattle.std.specs.Float.{nan}
use Rattle.angle.specs.Arctan.{acute}
use Rattle.laws.proofs.Blocks.{Fill}
use Rattle.arctangents.proofs.write_acutes.Given as goal

abbrev pub invariant-loop-j : goal.invariant-loop-j
invariant-loop-j l = Fill 1 (λ i. acute (get_or l.ts i nan) ∷ []) l.k l.j l.initial.out l.out
