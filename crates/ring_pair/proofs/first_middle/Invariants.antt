-- No edge before i has a free midpoint.
use Rattle.laws.proofs.Loops.{Look}
use Rattle.ring_pair.specs.Probes.{free_middle, first_middle}
use Rattle.ring_pair.proofs.first_middle.Given as goal

abbrev pub invariant-loop-i : goal.invariant-loop-i
invariant-loop-i l =
    let ps = l.probe.positions.now in
    let r = l.reference in
    let rs = r.positions.now in
    let rn = r.normals.now in
    Look (free_middle ps l.probe.n rs rn r.n) l.probe.n l.i (first_middle ps l.probe.n rs rn r.n)
