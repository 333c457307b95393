-- The corners stand in order.
use Rattle.std.proofs.Common.{rules}
use Rattle.ring_corners.specs.Corners.{corner_at}
use Rattle.ring_corners.proofs.write_corners.Goals as goal

pub returns : goal.returns
returns c = c.put_each.ensures (corner_at c.args.list.now c.args.n c.args.reversed) (λ k v below called. search rules)
