-- The bytes of the numbers before i are laid.
use Rattle.std.proofs.Common.{length}
use Rattle.wire.specs.Wire.{number_bytes_at}
use Rattle.wire.proofs.Lays.{Lay}
use Rattle.wire.proofs.put_numbers.Given as goal

abbrev pub invariant-loop-i : goal.invariant-loop-i
invariant-loop-i l = Lay 2 0 (number_bytes_at l.from) (length l.from) l.i l.initial.out l.out
