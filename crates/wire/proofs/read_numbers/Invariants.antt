-- The numbers before i stand in the array.
use Rattle.std.proofs.Common.{length}
use Rattle.laws.proofs.Blocks.{Fill}
use Rattle.wire.specs.Wire.{number_block}
use Rattle.wire.proofs.read_numbers.Given as goal

abbrev pub invariant-loop-i : goal.invariant-loop-i
invariant-loop-i l = Fill 1 (number_block l.s) (length l.initial.out) l.i l.initial.out l.out
