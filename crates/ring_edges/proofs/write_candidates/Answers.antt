-- The products go into the one work array, and their units, which are the candidates, into the other.
use Rattle.ring_edges.proofs.Arrays.{units_of}
use Rattle.ring_edges.proofs.write_candidates.Goals as goal

pub returns : goal.returns
returns c =
    let products = c.write_products.ensures in
    (products, simp (c.write_units.ensures, products) (units_of _ _ _ _))
