-- One index more stands there.
use Rattle.std.proofs.Common.{refl, arith}
use Rattle.laws.proofs.Blocks.{fill, fill_on_one, fill_all_one}
use Rattle.ring_cut.proofs.number.Goals as goal

pub loop-i-init : goal.loop-i-init
loop-i-init c = fill (λ j. refl) (omega arith)

pub loop-i-preserved : goal.loop-i-preserved
loop-i-preserved c = fill_on_one c.loop-i.invariant refl refl (omega arith)

pub returns : goal.returns
returns c = fill_all_one c.loop-i.invariant (omega arith) refl
