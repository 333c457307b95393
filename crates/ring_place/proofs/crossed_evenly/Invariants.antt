-- What is counted so far and the edges left come to the whole count.
use Rattle.std.proofs.Common.{◌-◌}
use Rattle.laws.specs.Loop.{iterate}
use Rattle.laws.proofs.Loops.{Iterate}
use Rattle.ring_place.specs.Places.{pass, start}
use Rattle.ring_place.proofs.crossed_evenly.Given as goal

abbrev pub invariant-loop-from : goal.invariant-loop-from
invariant-loop-from l =
    let b = l.border in
    let step = pass l.mode l.arc b.positions.now b.normals.now b.n in
    Iterate step b.n l.from l.s (iterate step b.n 0 start)

abbrev pub decreases-loop-from : goal.decreases-loop-from
decreases-loop-from l = l.border.n - l.from
