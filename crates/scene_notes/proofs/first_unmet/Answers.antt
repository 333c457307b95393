-- The search answers the first index past the areas met, or how many indexes there are.
use Rattle.std.proofs.Common.{leb, refl, ◌∙◌, rules, tests}
use Rattle.std.proofs.lemmas.Iterator.{YieldsList-from_slice}
use Rattle.std.proofs.lemmas.Iterator.Search.{position_from_yields_List}
use Rattle.scene_notes.specs.Noted.{first_past}
use Rattle.scene_notes.proofs.Firsts.{found}
use Rattle.scene_notes.proofs.first_unmet.Goals as goal

pub returns : goal.returns
unfolding first_past
returns c =
    let p = position_from_yields_List (λ i. leb c.args.met i) _ _ c.position.result c.position.ensures.ran (YieldsList-from_slice c.args.indexes.now cc) (λ x b q k. search (rules, tests)) in
    c.unwrap_or.ensures ∙ found (λ i. leb c.args.met i) c.args.indexes.now 0 refl p
