-- The search answers the index of the first area of that number, or how many were met.
use Rattle.std.proofs.Common.{eqb, ◌∙◌, rules, tests}
use Rattle.std.proofs.lemmas.Iterator.{YieldsList-from_slice}
use Rattle.std.proofs.lemmas.Iterator.Search.{position_from_yields_List}
use Rattle.scene_store.specs.declared.Area.{Area}
use Rattle.scene_store.specs.Store.{nobody}
use Rattle.scene_notes.specs.Noted.{index_of, areas_of}
use Rattle.scene_notes.proofs.Firsts.{found}
use Rattle.scene_notes.proofs.Tables.{met_count}
use Rattle.scene_notes.proofs.index_of.Goals as goal

pub returns-clause-value : goal.returns-clause-value
unfolding index_of
returns-clause-value c =
    let p = position_from_yields_List (λ (a : Area). eqb a.number c.args.number) _ _ c.position.result c.position.ensures.ran (YieldsList-from_slice (areas_of c.args.c) cc) (λ x b q k. search (rules, tests)) in
    c.unwrap_or.ensures ∙ found (λ (a : Area). eqb a.number c.args.number) (areas_of c.args.c) nobody (met_count c.args.c c.requires) p
