-- Each iteration puts one float more: in the end the array is filled with the floats from the offset on.
use Rattle.std.proofs.Common.{refl, arith}
use Rattle.laws.proofs.Blocks.{fill, fill_on_one, fill_all_one}
use Rattle.wire.specs.Wire.{floats_at}
use Rattle.wire.proofs.read_floats.Goals as goal

pub loop-i-init : goal.loop-i-init
loop-i-init c = fill (λ j. refl) (omega arith)

pub loop-i-preserved : goal.loop-i-preserved
loop-i-preserved c = fill_on_one c.loop-i.invariant refl (simp c.float_at.ensures) (omega arith)

pub returns : goal.returns
unfolding floats_at
returns c = fill_all_one c.loop-i.invariant (omega arith) refl
