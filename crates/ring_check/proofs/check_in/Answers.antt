-- The list is followed from the whole ring, which the work arrays are given first.
use Rattle.std.proofs.Common.{arith}
use Rattle.ring_cut.proofs.Wholes.{ready}
use Rattle.ring_check.proofs.Followings.{of_whole}
use Rattle.ring_check.proofs.check_in.Goals as goal

pub follow-requires : goal.follow-requires
follow-requires c =
    let given = c.requires in
    let made = ready given.0 c.whole_ring.ensures in
    (made.0, made.1, omega (arith, made.2, given.1))

pub returns : goal.returns
returns c = of_whole _ _ _ c.whole_ring.ensures c.follow.ensures
