-- One sine more stands there.
use Rattle.std.proofs.Common.{refl, arith}
use Rattle.laws.proofs.Blocks.{fill, fill_on_one, fill_all_one}
use Rattle.ring_turns.proofs.write_sines.Goals as goal

pub loop-j-init : goal.loop-j-init
loop-j-init c = fill (λ j. refl) (omega arith)

pub loop-j-preserved : goal.loop-j-preserved
loop-j-preserved c = fill_on_one c.loop-j.invariant refl (simp c.sine.ensures) (omega arith)

pub returns : goal.returns
returns c = fill_all_one c.loop-j.invariant (omega arith) (omega arith)
