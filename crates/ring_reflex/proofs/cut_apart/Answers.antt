-- Where the cut changed a neighbour's class the list is made afresh, else it is kept: either way it lists what is not convex in the ring left.
use Rattle.std.proofs.Common.{sym, ◌∙◌, arith}
use Rattle.ring_reflex.proofs.Cuts.{cut_lent, cut_room, list_kept, list_afresh}
use Rattle.ring_reflex.proofs.cut_apart.Goals as goal

pub list_apart-requires : goal.list_apart-requires
list_apart-requires c =
    let given = c.requires in
    let told = c.cut_told in
    let lent = cut_lent given.0 given.1 told.ensures.0 told.auto.ids told.auto.classes in
    (lent.below, cut_room given.0 given.1 told.ensures.0 told.auto.ids told.auto.classes given.5, lent.few)

pub returns-then-cut_told : goal.returns-then-cut_told
returns-then-cut_told c =
    let given = c.requires in
    let told = c.cut_told in
    let list = list_afresh given.0 given.1 told.ensures.0 told.auto.ids told.auto.classes c.list_apart.ensures in
    (told.ensures.0, list.0, omega (arith, list.1, given.5))

pub returns : goal.returns
returns c =
    let given = c.requires in
    let told = c.cut_told in
    let same = sym told.ensures.1 ∙ c.if-cut_told.false in
    (told.ensures.0, list_kept given.0 given.1 told.ensures.0 told.auto.ids told.auto.classes given.2 given.3 same, given.4)
