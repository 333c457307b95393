-- The corners are searched from the first on.
use Rattle.std.proofs.Common.{rules, tests}
use Rattle.laws.proofs.Ranges.{any_below}
use Rattle.ring_shape.specs.Shapes.{no_circle, any_without_circle}
use Rattle.ring_shape.proofs.any_without_circle.Goals as goal

pub returns : goal.returns
unfolding any_without_circle
returns c =
    let a = c.args in
    let b = a.border.now in
    any_below (no_circle b.positions.now b.n) b.n _ _ _ c.any.ensures.ran (λ x q r k. search (rules, tests))
