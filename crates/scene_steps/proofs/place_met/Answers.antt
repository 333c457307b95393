-- The area at the index is asked of the point, what it says is told and the record passed.
use Rattle.scene_steps.proofs.Steps.{place_told_met}
use Rattle.scene_steps.proofs.place_met.Goals as goal

pub returns : goal.returns
returns c = place_told_met c.requires.0 _ _ c.requires.1 c.area_of-a.ensures c.vec_at-p.ensures c.said_in-said.ensures c.place_told.ensures c.passed.ensures
