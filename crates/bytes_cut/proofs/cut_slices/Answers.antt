-- A header that is refused is the answer; else the header is read, and the number is the one that the cutting answers.
use Rattle.std.proofs.Common.{◌≤◌, arith}
use Rattle.std.proofs.lemmas.Result.{err_from_is_err_and}
use Rattle.bytes_ask.proofs.Asks.{headed}
use Rattle.bytes_cut.proofs.Slices.{counted, header_refused, numbered}
use Rattle.bytes_cut.proofs.cut_slices.Goals as goal

pub returns-in_err-header_fault : goal.returns-in_err-header_fault
returns-in_err-header_fault c =
    let p = err_from_is_err_and c.from_residual.result c.from_residual.ensures.1 in
    rw (p.1, p.2) (header_refused _ _ _ _ _ c.in_err-header_fault.ensures)

pub header_at-requires : goal.header_at-requires
header_at-requires c = headed _ c.in_ok-header_fault.ensures

pub returns-in_err-n : goal.returns-in_err-n
returns-in_err-n c =
    let p = err_from_is_err_and c.from_residual-in_err-n.result c.from_residual-in_err-n.ensures.1 in
    rw (p.1, p.2) (numbered _ _ _ _ c.in_ok-header_fault.ensures c.header_at.ensures c.in_err-n.ensures)

pub overflow_cast-result : goal.overflow_cast-result
overflow_cast-result c =
    let few : ◌≤◌ c.in_ok-n.n 510 = counted _ _ _ _ c.in_ok-n.ensures in
    omega (arith, few)

pub returns : goal.returns
returns c = numbered _ _ _ _ c.in_ok-header_fault.ensures c.header_at.ensures c.in_ok-n.ensures
