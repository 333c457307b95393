-- A closing position goes, where the last equals the first.
use Rattle.std.proofs.Common.{rules}
use Rattle.ring_corners.proofs.Openings.{opened_none, opened_some}
use Rattle.ring_corners.proofs.opened.Goals as goal

pub returns-then-m-eq0 : goal.returns-then-m-eq0
returns-then-m-eq0 c = opened_none _ _ c.if-m-eq0.true

pub returns-then-equals : goal.returns-then-equals
returns-then-equals c = rw (← opened_some _ _ c.if-m-eq0.false) (search rules)

pub returns-else-equals : goal.returns-else-equals
returns-else-equals c = rw (← opened_some _ _ c.if-m-eq0.false) (search rules)
