-- The ring is cut in its work arrays: its triangles are copied out where all are cut, and `out` is as it was where a ring above three has no ear.
use Rattle.std.proofs.Common.{arith}
use Rattle.ring_cut.proofs.Wholes.{ready, none_found, all_found}
use Rattle.ring_cut.proofs.cut_ring_in.Goals as goal

pub cut_all-requires : goal.cut_all-requires
cut_all-requires c =
    let given = c.requires in
    let made = ready given.0 c.whole_ring.ensures in
    (made.0, made.1, omega (arith, made.2, given.1), omega (arith, made.2, given.2))

pub returns-then-cut_all : goal.returns-then-cut_all
returns-then-cut_all c = all_found c.requires.0 c.whole_ring.ensures _ _ c.cut_all.ensures c.if-cut_all.true c.requires.2 c.copy_front.ensures

pub returns : goal.returns
returns c = none_found c.requires.0 c.whole_ring.ensures _ _ c.cut_all.ensures c.if-cut_all.false
