-- The first class above 2 ends the loop with 6; where none is, there is no refusal.
use Rattle.std.proofs.Common.{arith, refl}
use borrow.Author.Tests.{lt-ltb, le-ltb}
use Rattle.laws.proofs.Loops.{seek, seek_on, seek_found, seek_none}
use Rattle.loop_header.specs.Loops.{classes_fault}
use Rattle.loop_header.proofs.classes_fault.Goals as goal

pub loop-class-init : goal.loop-class-init
unfolding classes_fault
loop-class-init c = seek refl

pub returns-then-class-gt2 : goal.returns-then-class-gt2
returns-then-class-gt2 c = seek_found c.loop-class.invariant (simp (lt-ltb _ _ c.if-class-gt2.true)) (omega arith) (λ z. omega arith)

pub loop-class-preserved : goal.loop-class-preserved
loop-class-preserved c = seek_on c.loop-class.invariant {y = 0} (simp (le-ltb _ _ c.if-class-gt2.false)) (omega arith) refl

pub returns : goal.returns
returns c = seek_none c.loop-class.invariant (omega arith)
