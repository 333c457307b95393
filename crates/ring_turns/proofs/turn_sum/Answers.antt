-- One block more is added.
use Rattle.std.proofs.Common.{refl, arith}
use Rattle.laws.proofs.Loops.{iterate_begin, iterate_end}
use Rattle.laws.proofs.Parts.{iterate_part}
use Rattle.ring_turns.specs.Turns.{turn_sum}
use Rattle.ring_turns.proofs.turn_sum.Goals as goal

pub loop-from-init : goal.loop-from-init
unfolding turn_sum
loop-from-init c = iterate_begin refl

pub loop-from-preserved : goal.loop-from-preserved
loop-from-preserved c =
    let e = c.block_end-to.ensures in
    iterate_part c.loop-from.invariant c.add_block-sum.ensures (omega (arith, e.1)) e.3

pub returns : goal.returns
returns c = iterate_end c.loop-from.invariant (omega arith)
