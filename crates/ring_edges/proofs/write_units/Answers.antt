-- The unit vectors stand in order, and fill the array.
use Rattle.std.proofs.Common.{rules}
use Rattle.laws.proofs.Blocks.{front_is_all}
use Rattle.ring_edges.specs.Blocks.{unit_at}
use Rattle.ring_edges.proofs.write_units.Goals as goal

pub returns : goal.returns
returns c = front_is_all _ (c.put_each.ensures (unit_at c.args.vs.now) (λ k v below called. search rules)) c.requires.2
