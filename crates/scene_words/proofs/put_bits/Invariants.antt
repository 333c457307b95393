-- The digits before i are laid, one after the other.
use Rattle.wire.proofs.Lays.{Lay}
use Rattle.scene_words.specs.Words.{hex_at}
use Rattle.scene_words.proofs.put_bits.Given as goal

abbrev pub invariant-loop-i : goal.invariant-loop-i
invariant-loop-i l = Lay 1 l.at (hex_at l.bits) 16 l.i l.initial.out l.out
