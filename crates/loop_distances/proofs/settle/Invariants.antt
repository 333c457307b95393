-- What is settled so far is taken in, and the others are listed.
use Rattle.loop_distances.proofs.Settles.{Going}
use Rattle.loop_distances.proofs.settle.Given as goal

abbrev pub invariant-loop-i : goal.invariant-loop-i
invariant-loop-i l =
    let b = l.border in
    Going b.positions.now b.normals.now b.n l.from l.to l.p l.fn.known l.fn.listed l.listed l.r l.k l.start l.chord l.i
