-- A loop that can be copied has at most 512 corners, so its floats fit the work arrays.
use Rattle.std.proofs.Common.{sym}
use Rattle.bytes_ask.proofs.Asks.{room, rooms}
use Rattle.bytes_ask.proofs.asked.Goals as goal

pub slice_bounds-ask_in-end : goal.slice_bounds-ask_in-end
slice_bounds-ask_in-end c = sym (room _ c.in_ok-copy_fault.ensures c.count_at-size.ensures.value)

pub slice_bounds-ask_in-end-2 : goal.slice_bounds-ask_in-end-2
slice_bounds-ask_in-end-2 c = sym (room _ c.in_ok-copy_fault.ensures c.count_at-size.ensures.value)

pub ask_in-requires : goal.ask_in-requires
ask_in-requires c = rooms _ c.in_ok-copy_fault.ensures c.count_at-size.ensures.value
