-- The ears are searched from the first index on.
use Rattle.std.proofs.Common.{length, rules, tests}
use Rattle.laws.proofs.Ranges.{find_below}
use Rattle.ring_ears.specs.Ears.{ear}
use Rattle.ring_reflex.proofs.lowest_ear.Goals as goal

pub returns : goal.returns
returns c =
    let a = c.args in
    find_below (ear a.ps.now a.ids.now a.classes.now) (length a.ids.now) _ _ _ c.find.ensures.ran (λ x b q k. search (rules, tests))
