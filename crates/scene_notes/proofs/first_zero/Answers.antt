-- The search answers the first index of a zero, or how many numbers there are.
use Rattle.std.proofs.Common.{eqb, refl, ◌∙◌, rules, tests}
use Rattle.std.proofs.lemmas.Iterator.{YieldsList-from_slice}
use Rattle.std.proofs.lemmas.Iterator.Search.{position_from_yields_List}
use Rattle.scene_notes.specs.Noted.{first_zero}
use Rattle.scene_notes.proofs.Firsts.{found}
use Rattle.scene_notes.proofs.first_zero.Goals as goal

pub returns : goal.returns
unfolding first_zero
returns c =
    let p = position_from_yields_List (λ n. eqb n 0) _ _ c.position.result c.position.ensures.ran (YieldsList-from_slice c.args.numbers.now cc) (λ x b q k. search (rules, tests)) in
    c.unwrap_or.ensures ∙ found (λ n. eqb n 0) c.args.numbers.now 0 refl p
