-- The parts of the store that are lent are the two areas' own.
use Rattle.scene_store.proofs.Stores.{paired}
use Rattle.scene_store.proofs.pair_in.Goals as goal

pub returns : goal.returns
returns c = paired _ _ _ _ _ c.relate.ensures
