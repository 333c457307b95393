-- A list that cannot be checked is refused as its checking is; else the loop and the list are read into work arrays of their sizes.
use Rattle.std.proofs.Common.{ℕ, arith, sym}
use Rattle.std.proofs.lemmas.Result.{err_from_is_err_and}
use Rattle.laws.proofs.Copies.{first_of_lem}
use Rattle.bytes_ask.proofs.Asks.{copied_header, copied_most, room}
use Rattle.bytes_cut.proofs.Slices.{array}
use Rattle.bytes_check.proofs.Lists.{list_early, list_fine, list_late, halved}
use Rattle.bytes_check.proofs.accepted.Goals as goal

pub returns-in_err-list_fault : goal.returns-in_err-list_fault
returns-in_err-list_fault c =
    let p = err_from_is_err_and c.from_residual.result c.from_residual.ensures.1 in
    rw (p.1, p.2) (list_early _ _ _ c.in_err-list_fault.ensures)

pub count_at-size-requires : goal.count_at-size-requires
count_at-size-requires c = copied_header _ (list_fine _ _ c.in_ok-list_fault.ensures)

pub slice_bounds-positions-end : goal.slice_bounds-positions-end
slice_bounds-positions-end c = let few = copied_most _ (list_fine _ _ c.in_ok-list_fault.ensures) in omega (arith, few, c.count_at-size.ensures.value)

pub slice_bounds-accepts_in-end : goal.slice_bounds-accepts_in-end
slice_bounds-accepts_in-end c = sym (room _ (list_fine _ _ c.in_ok-list_fault.ensures) c.count_at-size.ensures.value)

pub accepts_in-requires : goal.accepts_in-requires
accepts_in-requires c =
    let fine = list_fine _ _ c.in_ok-list_fault.ensures in
    let count = c.count_at-size.ensures.value in
    let read = c.numbers_for-count.ensures in
    (array _ fine count (room _ fine count), halved (first_of_lem {A = ℕ} 1533 0 read.upper_bound) read.result_bound)

pub returns : goal.returns
returns c =
    let read = c.numbers_for-count.ensures in
    list_late _ _ c.in_ok-list_fault.ensures (first_of_lem {A = ℕ} 1533 0 read.upper_bound) read.value c.accepts_in.ensures
