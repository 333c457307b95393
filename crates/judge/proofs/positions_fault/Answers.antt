-- The first position that is refused has the number; where there is none it is 0.
use Rattle.std.proofs.Common.{ap, ◌∙◌}
use Rattle.judge.specs.Judge.{fault_of}
use Rattle.judge.proofs.Refused.{none_refused, one_refused}
use Rattle.judge.proofs.positions_fault.Goals as goal

pub returns-then-i-n : goal.returns-then-i-n
returns-then-i-n c = one_refused _ _ c.first_refused-i.ensures.value c.if-i-n.true (c.fault.ensures ∙ ap fault_of c.at.ensures)

pub returns-else-i-n : goal.returns-else-i-n
returns-else-i-n c = none_refused _ _ c.first_refused-i.ensures.value c.if-i-n.false
