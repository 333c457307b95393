-- Block after block, the least of the edges up to its end.
use Rattle.std.proofs.Common.{arith, ◌∙◌}
use Rattle.loop_distances.proofs.Parted.{least_start, least_end}
use Rattle.loop_distances.proofs.far_ring.Goals as goal

pub loop-from-init : goal.loop-from-init
loop-from-init c = (least_start _ _ _ _, omega arith)

pub returns : goal.returns
returns c =
    let w = c.loop-from.invariant in
    w.0 ∙ least_end _ _ _ _ (omega (arith, w.1))
