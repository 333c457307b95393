-- A header without room is refused after the list's own refusals; else what is built leaves its header there.
use Rattle.std.proofs.Common.{◌≤◌, refl, arith}
use Rattle.std.proofs.lemmas.Result.{err_from_is_err_and}
use Rattle.bytes_build.proofs.Builds.{counted_told, headed, unheaded}
use Rattle.bytes_build.proofs.built_floats.Goals as goal

pub returns-in_err-list_fault : goal.returns-in_err-list_fault
returns-in_err-list_fault c =
    let p = err_from_is_err_and c.from_residual.result c.from_residual.ensures.1 in
    rw (p.1, p.2) (unheaded _ _ _ _ _ _ (omega (arith, c.if-header-lt-HEADER.true)) (rw (← c.in_err-list_fault.ensures)))

pub returns-then-header-lt-HEADER : goal.returns-then-header-lt-HEADER
returns-then-header-lt-HEADER c = unheaded _ _ _ _ _ _ (omega (arith, c.if-header-lt-HEADER.true)) (rw (← c.in_ok-list_fault.ensures))

pub returns-in_err-h : goal.returns-in_err-h
returns-in_err-h c =
    let p = err_from_is_err_and c.from_residual-in_err-h.result c.from_residual-in_err-h.ensures.1 in
    rw (p.1, p.2) (headed _ _ _ _ _ _ c.in_err-h.ensures c.if-header-lt-HEADER.false refl)

pub overflow_cast-result : goal.overflow_cast-result
overflow_cast-result c =
    let few : ◌≤◌ c.in_ok-h.h.count 512 = counted_told _ _ _ _ _ c.args.header.now c.in_ok-h.ensures in
    omega (arith, few)

pub returns : goal.returns
returns c = headed _ _ _ _ _ _ c.in_ok-h.ensures c.if-header-lt-HEADER.false (rw c.put_header.ensures)
