-- The parts of the store that are lent are the area's own.
use Rattle.scene_far.proofs.Parts.{distant}
use Rattle.scene_far.proofs.far_in.Goals as goal

pub returns : goal.returns
returns c = distant _ _ _ _ _ c.distance_to_boundary.ensures
