-- The edges are searched from the first on.
use Rattle.std.proofs.Common.{◌-◌, rules, tests}
use Rattle.laws.proofs.Ranges.{any_below}
use Rattle.ring_shape.specs.Shapes.{meets_later, any_meets_later}
use Rattle.ring_shape.proofs.any_meets_later.Goals as goal

pub returns : goal.returns
unfolding any_meets_later
returns c =
    let a = c.args in
    let b = a.border.now in
    any_below (meets_later a.mode b.positions.now b.normals.now b.n) (b.n - 1) _ _ _ c.any.ensures.ran (λ x q r k. search (rules, tests))
