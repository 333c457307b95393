-- The classes are searched for one that is not both.
use Rattle.std.proofs.Common.{eqb, ◌∙◌, rules, tests}
use Rattle.std.proofs.lemmas.Iterator.{YieldsList-from_slice}
use Rattle.std.proofs.lemmas.Iterator.Search.{all_from_yields_List}
use Rattle.ring_corners.specs.Corners.{all_both}
use Rattle.laws.proofs.Elements.{all_elements}
use Rattle.ring_corners.proofs.all_both.Goals as goal

pub returns : goal.returns
unfolding all_both
returns c =
    all_from_yields_List (λ k. eqb k 2) _ _ _ c.all.ensures.ran (YieldsList-from_slice c.args.classes.now cc) (λ x b q k. search (rules, tests))
    ∙ all_elements (λ k. eqb k 2) c.args.classes.now 0
