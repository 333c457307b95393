-- The areas at the two indexes are asked how they stand, their relation is told and the record passed.
use Rattle.scene_steps.proofs.Steps.{pair_told_met}
use Rattle.scene_steps.proofs.pair_met.Goals as goal

pub returns : goal.returns
returns c = pair_told_met c.requires.0 _ _ c.requires.1.0 c.requires.2.0 c.area_of-a.ensures c.area_of-b.ensures c.pair_in-related.ensures c.pair_told.ensures c.passed.ensures
