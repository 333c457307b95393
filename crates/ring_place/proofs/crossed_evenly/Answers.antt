-- Each iteration passes one block of edges.
use Rattle.std.proofs.Common.{arith, ap}
use Rattle.ring_place.specs.declared.Crossings.{Crossings}
use Rattle.laws.proofs.Loops.{iterate_begin, iterate_end}
use Rattle.laws.proofs.Parts.{iterate_part}
use Rattle.ring_place.specs.Places.{crossed_evenly}
use Rattle.ring_place.proofs.crossed_evenly.Goals as goal

pub loop-from-init : goal.loop-from-init
loop-from-init c = iterate_begin (simp c.new-s.ensures)

pub loop-from-preserved : goal.loop-from-preserved
loop-from-preserved c =
    let block = c.block_end-to.ensures in
    iterate_part c.loop-from.invariant c.pass_block-s.ensures (omega (arith, block.1)) block.3

pub returns : goal.returns
unfolding crossed_evenly
returns c = ap (λ (s : Crossings). s.even) (iterate_end c.loop-from.invariant (omega arith))
