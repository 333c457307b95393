-- Each edge's distance is taken in, in the order of the list.
use Rattle.std.proofs.Common.{arith, refl}
use Rattle.laws.proofs.Loops.{iterate_begin, iterate_on, iterate_end}
use Rattle.loop_distances.proofs.far_each.Goals as goal

pub loop-j-init : goal.loop-j-init
loop-j-init c = iterate_begin refl

pub loop-j-preserved : goal.loop-j-preserved
loop-j-preserved c =
    iterate_on c.loop-j.invariant (simp (c.least-r.ensures, c.far_with.ensures, c.raw-in-loop-j.ensures, c.raw.ensures, c.edge-a.ensures)) (omega arith)

pub returns : goal.returns
returns c = iterate_end c.loop-j.invariant (omega arith)
