-- Each edge of the block is taken in, or listed.
use Rattle.std.proofs.Common.{arith, refl}
use Rattle.loop_distances.proofs.Settles.{going, going_on, going_end}
use Rattle.loop_distances.proofs.settle.Goals as goal

pub loop-i-init : goal.loop-i-init
loop-i-init c = let pre = c.requires in going _ _ _ _ _ _ _ c.corner-start.ensures c.new-chord.ensures pre.0 pre.2

pub loop-i-preserved : goal.loop-i-preserved
loop-i-preserved c =
    let pre = c.requires in
    going_on _ _ _ _ _ _ _ c.loop-i.invariant (omega arith) pre.2 c.corner_after-end.ensures c.at-normal.ensures c.new-next.ensures c.is_settled-settled.ensures
    (simp c.least.ensures at c.taken-r.ensures) refl c.counted-k.ensures pre.1

pub returns : goal.returns
returns c = going_end _ _ _ _ _ _ _ c.loop-i.invariant (omega arith) c.requires.1
