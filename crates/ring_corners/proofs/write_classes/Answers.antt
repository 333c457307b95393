-- One class more stands there.
use Rattle.std.proofs.Common.{refl, arith}
use Rattle.laws.proofs.Blocks.{fill, fill_on_one, fill_all_one}
use Rattle.ring_corners.proofs.write_classes.Goals as goal

pub loop-k-init : goal.loop-k-init
loop-k-init c = fill (λ j. refl) (omega arith)

pub loop-k-preserved : goal.loop-k-preserved
loop-k-preserved c = fill_on_one c.loop-k.invariant refl (simp c.class.ensures) (omega arith)

pub returns : goal.returns
returns c = fill_all_one c.loop-k.invariant (omega arith) (omega arith)
