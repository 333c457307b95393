-- The edges listed before j are taken in.
use Rattle.std.proofs.Common.{length, get_or}
use Rattle.laws.proofs.Loops.{Iterate}
use Rattle.vec3.specs.Vec.{raw_at}
use Rattle.chord_length.specs.Chords.{least}
use Rattle.ring_edges.specs.Edges.{edge_at}
use Rattle.loop_distances.specs.Blocks.{far_with, each_least}
use Rattle.loop_distances.proofs.far_each.Given as goal

abbrev pub invariant-loop-j : goal.invariant-loop-j
invariant-loop-j l =
    let ps = l.border.positions.now in
    let ns = l.border.normals.now in
    Iterate (λ i x. least x (far_with (edge_at ps ns l.border.n (get_or l.listed i 0)) l.p (raw_at l.across i) (raw_at l.units i))) (length l.listed) l.j l.r
    (each_least ps ns l.border.n l.p l.listed l.across l.units l.fn.known)
