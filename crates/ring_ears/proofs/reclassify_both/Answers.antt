-- Above three, the corner at the cut and then the one before it are classed afresh, and the answer is whether one changed; else nothing is done.
use Rattle.std.proofs.Common.{◌<◌, ◌≤◌, length, arith}
use borrow.Author.Tests.{lt-ltb, le-ltb}
use Rattle.ring_ears.specs.Ears.{reclassify_both}
use Rattle.ring_ears.specs.Changes.{one_changed}
use Rattle.ring_ears.proofs.Indexes.{relent, before_at_cut}
use Rattle.ring_ears.proofs.reclassify_both.Goals as goal

pub reclassify-b-requires : goal.reclassify-b-requires
reclassify-b-requires c = (relent c.requires.0 c.reclassify-a.auto.classes, omega (arith, c.previous-before_cut.ensures.1, c.wrapped-at_cut.ensures.1))

pub returns-then-m-gt3 : goal.returns-then-m-gt3
unfolding reclassify_both one_changed
returns-then-m-gt3 c =
    let above : 3 < length c.args.ids.now = omega arith in
    let same = before_at_cut c.args.i above in
    let index = c.previous-before_cut.ensures.0 in
    let after = c.wrapped-at_cut.ensures.0 in
    let one = c.reclassify-a.ensures in
    let two = c.reclassify-b.ensures in
    (rw (two.0, index, one.0, after, same, lt-ltb 3 _ above), rw (two.1, index, one.1, one.0, after, same, lt-ltb 3 _ above))

pub returns : goal.returns
unfolding reclassify_both one_changed
returns c =
    let few : length c.args.ids.now ≤ 3 = omega arith in
    (rw (le-ltb 3 _ few), rw (le-ltb 3 _ few))
