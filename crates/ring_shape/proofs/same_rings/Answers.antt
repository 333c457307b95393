-- The offsets are searched from 0 on.
use Rattle.std.proofs.Common.{rules, tests}
use Rattle.laws.proofs.Ranges.{any_below}
use Rattle.ring_shape.specs.Shapes.{same_from, same_rings}
use Rattle.ring_shape.proofs.same_rings.Goals as goal

pub returns : goal.returns
unfolding same_rings
returns c =
    let a = c.args in
    any_below (same_from a.positions.now a.classes.now a.others.now a.theirs.now a.n) a.n _ _ _ c.any.ensures.ran (λ x b q k. search (rules, tests))
