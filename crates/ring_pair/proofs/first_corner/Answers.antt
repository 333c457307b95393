-- The first corner that is free ends the loop.
use Rattle.std.proofs.Common.{arith}
use Rattle.laws.proofs.Loops.{look, look_on, look_hit, look_end}
use Rattle.ring_pair.specs.Probes.{first_corner}
use Rattle.ring_pair.proofs.first_corner.Goals as goal

pub loop-i-init : goal.loop-i-init
unfolding first_corner
loop-i-init c = look

pub returns-then-free_corner : goal.returns-then-free_corner
returns-then-free_corner c = look_hit c.loop-i.invariant c.free_corner.ensures (omega arith) c.if-free_corner.true

pub loop-i-preserved : goal.loop-i-preserved
loop-i-preserved c = look_on c.loop-i.invariant c.free_corner.ensures (omega arith) c.if-free_corner.false

pub returns : goal.returns
returns c = look_end c.loop-i.invariant (omega arith)
