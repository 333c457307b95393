-- The edges that come later are searched from the next but one on.
use Rattle.std.proofs.Common.{◌+◌, rules, tests}
use Rattle.laws.proofs.Ranges.{any_between}
use Rattle.ring_shape.specs.Shapes.{edges_meet, meets_later}
use Rattle.ring_shape.proofs.meets_later.Goals as goal

pub returns : goal.returns
unfolding meets_later
returns c =
    let a = c.args in
    let b = a.border.now in
    rw (c.end_of.ensures.0) at (any_between (edges_meet a.mode b.positions.now b.normals.now b.n a.i) (a.i + 2) c.end_of.result _ _ _ c.any.ensures.ran (λ x q r k. search (rules, tests)))
