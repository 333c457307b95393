-- The indexes before i stand in the list.
use Rattle.std.proofs.Common.{length}
use Rattle.laws.proofs.Blocks.{Fill}
use Rattle.ring_theory.specs.Ring.{one_number}
use Rattle.ring_cut.proofs.number.Given as goal

abbrev pub invariant-loop-i : goal.invariant-loop-i
invariant-loop-i l = Fill 1 one_number (length l.initial.ids) l.i l.initial.ids l.ids
