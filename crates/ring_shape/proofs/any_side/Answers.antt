-- The corners are searched from the first on.
use Rattle.std.proofs.Common.{rules, tests}
use Rattle.laws.proofs.Ranges.{any_below}
use Rattle.ring_shape.specs.Shapes.{turns_to, any_side}
use Rattle.ring_shape.proofs.any_side.Goals as goal

pub returns : goal.returns
unfolding any_side
returns c =
    let a = c.args in
    let b = a.border.now in
    any_below (turns_to a.left b.positions.now b.n) b.n _ _ _ c.any.ensures.ran (λ x q r k. search (rules, tests))
