-- One more is listed, unless it is convex.
use Rattle.std.proofs.Common.{refl, arith}
use Rattle.ring_reflex.proofs.Aparts.{listed, listed_on, listed_end}
use Rattle.ring_reflex.proofs.list_apart.Goals as goal

pub loop-j-init : goal.loop-j-init
loop-j-init c = listed

pub is_convex-requires : goal.is_convex-requires
is_convex-requires c = (omega arith, c.requires.0 _ (omega arith))

pub loop-j-preserved : goal.loop-j-preserved
loop-j-preserved c = listed_on c.loop-j.invariant refl c.is_convex.ensures c.past-k.ensures (omega arith) c.requires.1

pub returns : goal.returns
returns c = listed_end c.loop-j.invariant (omega arith)
