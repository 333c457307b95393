-- A loop that can be copied has at most 512 corners, so its floats fit the work arrays.
use Rattle.std.proofs.Common.{sym}
use Rattle.bytes_ask.proofs.Asks.{room, rooms}
use Rattle.bytes_pair.proofs.paired.Goals as goal

pub slice_bounds-copy_first-end : goal.slice_bounds-copy_first-end
slice_bounds-copy_first-end c = sym (room _ c.in_ok-copy_fault.ensures c.count_at-size.ensures.value)

pub slice_bounds-copy_first-end-2 : goal.slice_bounds-copy_first-end-2
slice_bounds-copy_first-end-2 c = sym (room _ c.in_ok-copy_fault.ensures c.count_at-size.ensures.value)

pub copy_first-requires : goal.copy_first-requires
copy_first-requires c = rooms _ c.in_ok-copy_fault.ensures c.count_at-size.ensures.value
