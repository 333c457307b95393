-- All corners are compared, from the first on.
use Rattle.std.proofs.Common.{rules, tests}
use Rattle.laws.proofs.Ranges.{all_below}
use Rattle.ring_shape.specs.Shapes.{agree_at, all_agree}
use Rattle.ring_shape.proofs.all_agree.Goals as goal

pub returns : goal.returns
unfolding all_agree
returns c =
    let a = c.args in
    all_below (agree_at a.back a.positions.now a.classes.now a.others.now a.theirs.now a.n a.offset) a.n _ _ _ c.all.ensures.ran (λ x b q k. search (rules, tests))
