-- The corners are searched from the first on.
use Rattle.std.proofs.Common.{rules, tests}
use Rattle.laws.proofs.Ranges.{any_below}
use Rattle.ring_edges.specs.Edges.{corner_is, has_vertex}
use Rattle.ring_edges.proofs.Border.has_vertex.Goals as goal

pub returns : goal.returns
unfolding has_vertex
returns c =
    let b = c.args.self.now in
    any_below (corner_is b.positions.now c.args.p) b.n _ _ _ c.any.ensures.ran (λ x q r k. search (rules, tests))
