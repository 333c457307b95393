-- The numbers are searched from the first on.
use Rattle.std.proofs.Common.{eqb, rules, tests}
use Rattle.std.proofs.lemmas.Iterator.{YieldsList-from_slice}
use Rattle.std.proofs.lemmas.Iterator.Search.{position_from_yields_List}
use Rattle.laws.proofs.Elements.{found_element}
use Rattle.ring_check.proofs.index_of.Goals as goal

pub returns : goal.returns
returns c =
    let a = c.args in
    found_element (λ x. eqb x a.b) a.ids.now 0
    (position_from_yields_List (λ x. eqb x a.b) _ _ c.position.result c.position.ensures.ran (YieldsList-from_slice a.ids.now cc) (λ x b q k. search (rules, tests)))
