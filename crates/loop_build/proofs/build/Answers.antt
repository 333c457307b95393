-- A refused list is answered with its refusal, an opened list below three with the empty loop, any other with the loop that is made of it.
use Rattle.std.proofs.Common.{refl}
use Rattle.std.proofs.lemmas.Result.{err_from_is_err_and}
use Rattle.loop_build.proofs.Outs.{was_refused, nothing_left, lent, looped}
use Rattle.loop_build.proofs.build.Goals as goal

pub returns-in_err-refusal_of : goal.returns-in_err-refusal_of
returns-in_err-refusal_of c =
    let p = err_from_is_err_and c.from_residual.result c.from_residual.ensures.1 in
    rw (p.1, p.2) (was_refused _ _ _ _ _ _ c.in_err-refusal_of.ensures)

pub returns-then-n-lt3 : goal.returns-then-n-lt3
returns-then-n-lt3 c = nothing_left _ _ _ _ c.in_ok-refusal_of.ensures c.opened-n.ensures _ c.empty.ensures c.if-n-lt3.true

pub make_with-requires : goal.make_with-requires
make_with-requires c = lent _ _ _ _ c.in_ok-refusal_of.ensures c.opened-n.ensures c.if-n-lt3.false refl refl

pub returns : goal.returns
returns c = looped _ _ _ _ c.in_ok-refusal_of.ensures c.opened-n.ensures _ c.if-n-lt3.false c.make_with.ensures
