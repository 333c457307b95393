-- The normals stand in order.
use Rattle.std.proofs.Common.{rules}
use Rattle.ring_corners.specs.Corners.{normal_at}
use Rattle.ring_corners.proofs.write_normals.Goals as goal

pub returns : goal.returns
returns c = c.put_each.ensures (normal_at c.args.list.now c.args.n c.args.reversed) (λ k v below called. search rules)
