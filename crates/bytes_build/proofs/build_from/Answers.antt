-- What is built in the arrays is refused as its bytes are, or fits the bytes and is written there.
use Rattle.std.proofs.Common.{rules}
use Rattle.std.proofs.lemmas.Result.{err_from_is_err_and}
use Rattle.bytes_build.proofs.Builds.{was_refused, was_written, fitting}
use Rattle.bytes_build.proofs.build_from.Goals as goal

pub returns-in_err-h : goal.returns-in_err-h
returns-in_err-h c =
    let p = err_from_is_err_and c.from_residual.result c.from_residual.ensures.1 in
    rw (p.1, p.2) (was_refused _ _ _ _ _ _ c.requires c.in_err-h.ensures)

pub leave_loop-requires : goal.leave_loop-requires
leave_loop-requires c = fitting _ _ _ _ _ _ c.requires c.in_ok-h.ensures (search rules) (search rules) (search rules)

pub returns : goal.returns
returns c = was_written _ _ _ _ _ _ c.requires c.in_ok-h.ensures c.leave_loop.ensures
