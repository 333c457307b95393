-- A header is made of the prepared edges and classes: FULL where all classes are both, else the ring as written, with its cap and marks.
use Rattle.loop_build.proofs.Writes.{ready, full_made, ring_made_lem}
use Rattle.loop_build.proofs.make.Goals as goal

pub returns-then-all_both : goal.returns-then-all_both
returns-then-all_both c = full_made _ _ c.prepare-sum.ensures _ _ _ _ c.all_both.ensures c.if-all_both.true c.is_weak.ensures c.full.ensures

pub write_ring-insides-requires : goal.write_ring-insides-requires
write_ring-insides-requires c = ready _ _ c.prepare-sum.ensures c.requires c.is_clockwise-reversed.ensures

pub returns : goal.returns
returns c =
    ring_made_lem _ _ c.prepare-sum.ensures _ _ _ _
    c.all_both.ensures c.if-all_both.false c.is_clockwise-reversed.ensures
    c.write_ring-insides.ensures c.bounding_cap.ensures c.is_weak-2.ensures
