-- One number more moves down.
use Rattle.std.proofs.Common.{refl, sym, arith}
use Rattle.laws.proofs.Loops.{iterate_from, iterate_on, iterate_end}
use Rattle.laws.proofs.Shifts.{shifted}
use Rattle.ring_ears.proofs.remove_at.Goals as goal

pub loop-j-init : goal.loop-j-init
loop-j-init c = iterate_from (omega arith) (sym (shifted 0 _ _ _ (omega arith) (omega arith)))

pub loop-j-preserved : goal.loop-j-preserved
loop-j-preserved c = iterate_on c.loop-j.invariant refl (omega arith)

pub returns : goal.returns
returns c = iterate_end c.loop-j.invariant (omega arith)
