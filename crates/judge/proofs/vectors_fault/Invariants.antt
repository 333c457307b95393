-- The normals before i give no refusal.
use Rattle.laws.proofs.Loops.{Seek}
use Rattle.judge.specs.Judge.{normal_fault, vectors_fault}
use Rattle.judge.proofs.vectors_fault.Given as goal

abbrev pub invariant-loop-i : goal.invariant-loop-i
invariant-loop-i l = Seek (normal_fault l.ns) l.n l.i (vectors_fault l.ns l.n)
