-- The corners that are left are searched from the first on.
use Rattle.std.proofs.Common.{length, rules, tests}
use Rattle.laws.proofs.Ranges.{any_below}
use Rattle.ring_ears.specs.Ears.{blocks}
use Rattle.ring_ears.proofs.is_blocked.Goals as goal

pub returns : goal.returns
returns c =
    let a = c.args in
    any_below (blocks a.ps.now a.ids.now a.classes.now a.t) (length a.ids.now) _ _ _ c.any.ensures.ran (λ x b q k. search (rules, tests))
