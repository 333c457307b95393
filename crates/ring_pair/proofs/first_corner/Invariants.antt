-- No corner before i is free.
use Rattle.laws.proofs.Loops.{Look}
use Rattle.ring_pair.specs.Probes.{free_corner, first_corner}
use Rattle.ring_pair.proofs.first_corner.Given as goal

abbrev pub invariant-loop-i : goal.invariant-loop-i
invariant-loop-i l =
    let ps = l.probe.positions.now in
    let r = l.reference in
    let rs = r.positions.now in
    let rn = r.normals.now in
    Look (free_corner ps rs rn r.n) l.probe.n l.i (first_corner ps l.probe.n rs rn r.n)
