-- What is counted so far and the edges left come to the whole count.
use Rattle.std.proofs.Common.{◌-◌, ◌≤◌}
use Rattle.laws.specs.Loop.{iterate}
use Rattle.laws.proofs.Loops.{Iterate}
use Rattle.ring_place.specs.Places.{pass}
use Rattle.ring_place.proofs.pass_edges.Given as goal

abbrev pub invariant-loop-i : goal.invariant-loop-i
invariant-loop-i l =
    let b = l.border in
    let step = pass l.mode l.arc b.positions.now b.normals.now b.n in
    Iterate step l.to l.i l.s (iterate step (l.to - l.from) l.from l.fn.before) × (l.from ≤ l.i)
