-- The edges are searched from the first on.
use Rattle.std.proofs.Common.{rules, tests}
use Rattle.laws.proofs.Ranges.{any_below}
use Rattle.ring_edges.specs.Edges.{edge_has, on_edge}
use Rattle.ring_edges.proofs.Border.any_edge_contains_position.Goals as goal

pub returns : goal.returns
unfolding on_edge
returns c =
    let b = c.args.self.now in
    any_below (edge_has b.positions.now b.normals.now b.n c.args.p) b.n _ _ _ c.any.ensures.ran (λ x q r k. search (rules, tests))
