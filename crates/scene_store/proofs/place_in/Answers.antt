-- The parts of the store that are lent are the area's own.
use Rattle.scene_store.proofs.Stores.{placed}
use Rattle.scene_store.proofs.place_in.Goals as goal

pub returns : goal.returns
returns c = placed _ _ _ _ _ c.contains_position.ensures
