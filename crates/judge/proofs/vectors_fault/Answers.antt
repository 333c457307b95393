-- The first normal that gives a refusal gives the answer; where none does there is none.
use Rattle.std.proofs.Common.{arith, ap, ◌∙◌}
use Rattle.std.proofs.lemmas.Result.{err_from_is_err_and}
use Rattle.laws.proofs.Loops.{seek_on, seek_found, seek_none}
use Rattle.judge.specs.Judge.{vector_fault}
use Rattle.judge.specs.Refusals.{number_of}
use Rattle.judge.proofs.Numbers.{not_none}
use Rattle.judge.proofs.vectors_fault.Goals as goal

pub returns-in_err-vector_fault : goal.returns-in_err-vector_fault
returns-in_err-vector_fault c =
    let p = err_from_is_err_and c.from_residual.result c.from_residual.ensures.1 in
    rw (p.1, p.2) (seek_found c.loop-i.invariant (c.in_err-vector_fault.ensures ∙ ap (λ v. vector_fault v 0) c.at.ensures) (omega arith) (not_none _))

pub loop-i-preserved : goal.loop-i-preserved
loop-i-preserved c = seek_on c.loop-i.invariant (c.vector_fault.ensures ∙ ap (λ v. vector_fault v 0) c.at.ensures) (omega arith) (ap number_of c.in_ok-vector_fault.was)

pub returns : goal.returns
returns c = seek_none c.loop-i.invariant (omega arith)
