-- Those listed are searched from the first on.
use Rattle.std.proofs.Common.{length, rules, tests}
use Rattle.laws.proofs.Ranges.{any_below}
use Rattle.ring_reflex.specs.Apart.{holds}
use Rattle.ring_reflex.proofs.is_one_held.Goals as goal

pub returns : goal.returns
returns c =
    let a = c.args in
    any_below (holds a.ps.now a.apart.now a.t) (length a.apart.now) _ _ _ c.any.ensures.ran (λ x b q k. search (rules, tests))
