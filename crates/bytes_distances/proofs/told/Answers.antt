-- A loop that cannot be copied is refused so; else it is copied into work arrays of its size.
use Rattle.std.proofs.Common.{sym, arith}
use Rattle.std.proofs.lemmas.Result.{err_from_is_err_and}
use Rattle.numbers.specs.F64 as F
use Rattle.laws.proofs.Copies.{first_of_lem}
use Rattle.bytes_distances.proofs.Fars.{early, few, arrays}
use Rattle.bytes_distances.proofs.told.Goals as goal

pub returns-in_err-copy_fault : goal.returns-in_err-copy_fault
returns-in_err-copy_fault c =
    let p = err_from_is_err_and c.from_residual.result c.from_residual.ensures.1 in
    rw (p.1, p.2) (early _ _ c.in_err-copy_fault.ensures)

pub slice_bounds-told_in-end : goal.slice_bounds-told_in-end
slice_bounds-told_in-end c = let h = few _ c.in_ok-copy_fault.ensures in sym (first_of_lem 1536 F.zero (omega arith))

pub slice_bounds-told_in-end-2 : goal.slice_bounds-told_in-end-2
slice_bounds-told_in-end-2 c = let h = few _ c.in_ok-copy_fault.ensures in sym (first_of_lem 1536 F.zero (omega arith))

pub told_in-requires : goal.told_in-requires
told_in-requires c =
    let h = few _ c.in_ok-copy_fault.ensures in
    arrays _ c.in_ok-copy_fault.ensures c.count_at-size.ensures.value (first_of_lem 1536 F.zero (omega arith)) (first_of_lem 1536 F.zero (omega arith))
