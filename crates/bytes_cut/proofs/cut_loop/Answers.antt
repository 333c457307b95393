-- A loop that cannot be copied is refused as its cutting is; else its positions are copied into a work array of their size.
use Rattle.std.proofs.Common.{arith, sym}
use Rattle.std.proofs.lemmas.Result.{err_from_is_err_and}
use Rattle.bytes_ask.proofs.Asks.{copied_header, copied_most, room}
use Rattle.bytes_cut.proofs.Slices.{early, array, late}
use Rattle.bytes_cut.proofs.cut_loop.Goals as goal

pub returns-in_err-copy_fault : goal.returns-in_err-copy_fault
returns-in_err-copy_fault c =
    let p = err_from_is_err_and c.from_residual.result c.from_residual.ensures.1 in
    rw (p.1, p.2) (early _ _ _ c.in_err-copy_fault.ensures)

pub count_at-size-requires : goal.count_at-size-requires
count_at-size-requires c = copied_header _ c.in_ok-copy_fault.ensures

pub slice_bounds-positions-end : goal.slice_bounds-positions-end
slice_bounds-positions-end c = let few = copied_most _ c.in_ok-copy_fault.ensures in omega (arith, few, c.count_at-size.ensures.value)

pub slice_bounds-cut_in-end : goal.slice_bounds-cut_in-end
slice_bounds-cut_in-end c = sym (room _ c.in_ok-copy_fault.ensures c.count_at-size.ensures.value)

pub cut_in-requires : goal.cut_in-requires
cut_in-requires c = array _ c.in_ok-copy_fault.ensures c.count_at-size.ensures.value (room _ c.in_ok-copy_fault.ensures c.count_at-size.ensures.value)

pub returns : goal.returns
returns c = late _ c.in_ok-copy_fault.ensures _ c.cut_in.ensures
