-- A loop that can be copied has at most 512 corners, so its floats fit the work arrays.
use Rattle.std.proofs.Common.{sym}
use Rattle.bytes_ask.proofs.Asks.{room, rooms}
use Rattle.bytes_pair.proofs.against.Goals as goal

pub slice_bounds-copy_second-end : goal.slice_bounds-copy_second-end
slice_bounds-copy_second-end c = sym (room _ c.in_default.ensures c.count_at-size.ensures.value)

pub slice_bounds-copy_second-end-2 : goal.slice_bounds-copy_second-end-2
slice_bounds-copy_second-end-2 c = sym (room _ c.in_default.ensures c.count_at-size.ensures.value)

pub copy_second-requires : goal.copy_second-requires
copy_second-requires c = rooms _ c.in_default.ensures c.count_at-size.ensures.value
