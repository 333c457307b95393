-- The least of the edges before `from` is at hand.
use Rattle.std.proofs.Common.{◌-◌, ◌≡◌, ◌≤◌}
use Rattle.loop_distances.specs.Blocks.{least_of}
use Rattle.loop_distances.proofs.far_ring.Given as goal

abbrev pub invariant-loop-from : goal.invariant-loop-from
invariant-loop-from l =
    let b = l.border in
    (l.r ≡ least_of b.positions.now b.normals.now b.n l.p l.from) × (l.from ≤ b.n)

abbrev pub decreases-loop-from : goal.decreases-loop-from
decreases-loop-from l = l.border.n - l.from
