-- The products stand in order, and fill the array.
use Rattle.std.proofs.Common.{◌+◌, rules}
use Rattle.laws.proofs.Blocks.{front_is_all}
use Rattle.ring_edges.specs.Blocks.{product_at}
use Rattle.ring_edges.proofs.write_products.Goals as goal

pub returns : goal.returns
unfolding product_at
returns c = front_is_all _ (c.put_each.ensures (λ j. product_at c.args.normal c.args.normals.now (c.args.from + j)) (λ k v below called. search rules)) c.requires.2
