-- One turn more is added.
use Rattle.std.proofs.Common.{refl, arith}
use Rattle.laws.proofs.Loops.{iterate_from, iterate_on, iterate_end}
use Rattle.ring_turns.proofs.add_turns.Goals as goal

pub loop-i-init : goal.loop-i-init
loop-i-init c = iterate_from (omega arith) refl

pub loop-i-preserved : goal.loop-i-preserved
loop-i-preserved c = iterate_on c.loop-i.invariant (simp (c.add-sum.ensures, c.turn.ensures)) (omega arith)

pub returns : goal.returns
returns c = iterate_end c.loop-i.invariant (omega arith)
