-- Each iteration passes one edge, with its candidate at hand.
use Rattle.std.proofs.Common.{arith, refl}
use Rattle.laws.proofs.Loops.{iterate_from, iterate_on, iterate_end}
use Rattle.ring_place.proofs.pass_edges.Goals as goal

pub loop-i-init : goal.loop-i-init
loop-i-init c = (iterate_from (omega arith) refl, omega arith)

pub loop-i-preserved : goal.loop-i-preserved
loop-i-preserved c =
    let inv = c.loop-i.invariant in
    (iterate_on inv.0 (simp (c.passed-s.ensures, c.point_at.ensures)) (omega arith), omega (arith, inv.1))

pub returns : goal.returns
returns c = iterate_end c.loop-i.invariant.0 (omega arith)
