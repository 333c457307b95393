-- The settled edges first, and then the listed ones, come to the least of all up to the block's end.
use Rattle.std.proofs.Common.{arith}
use Rattle.loop_distances.proofs.Parted.{passed_few, passed_below, passed_least}
use Rattle.loop_distances.proofs.far_block.Goals as goal

pub far_listed-requires : goal.far_listed-requires
far_listed-requires c =
    let passed = c.settle-s.ensures in
    let pre = c.requires in
    (passed_below passed pre.0 pre.2, omega (arith, passed_few passed, passed.few, pre.1))

pub returns : goal.returns
returns c = let pre = c.requires in passed_least c.settle-s.ensures pre.3 pre.0 pre.2 pre.4 c.far_listed.ensures
