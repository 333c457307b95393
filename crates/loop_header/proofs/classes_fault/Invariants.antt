-- No class before the one at hand is above 2.
use Rattle.std.proofs.Common.{length}
use Rattle.laws.proofs.Loops.{Seek}
use Rattle.loop_header.specs.Loops.{class_fault, classes_fault}
use Rattle.loop_header.proofs.classes_fault.Given as goal

abbrev pub invariant-loop-class : goal.invariant-loop-class
invariant-loop-class l = Seek (class_fault l.classes) (length l.classes) l.class-index (classes_fault l.classes)
