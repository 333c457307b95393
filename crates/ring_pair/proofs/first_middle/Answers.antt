-- The first edge with a free midpoint ends the loop.
use Rattle.std.proofs.Common.{arith}
use Rattle.laws.proofs.Loops.{look, look_on, look_hit, look_end}
use Rattle.ring_pair.specs.Probes.{first_middle}
use Rattle.ring_pair.proofs.first_middle.Goals as goal

pub loop-i-init : goal.loop-i-init
unfolding first_middle
loop-i-init c = look

pub returns-then-free_point : goal.returns-then-free_point
returns-then-free_point c = look_hit c.loop-i.invariant (simp (c.free_point.ensures, c.middle.ensures)) (omega arith) c.if-free_point.true

pub loop-i-preserved : goal.loop-i-preserved
loop-i-preserved c = look_on c.loop-i.invariant (simp (c.free_point.ensures, c.middle.ensures)) (omega arith) c.if-free_point.false

pub returns : goal.returns
returns c = look_end c.loop-i.invariant (omega arith)
