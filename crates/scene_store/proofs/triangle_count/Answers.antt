-- The parts of the store that are lent are the area's own, and the room for its triangles is blank.
use Rattle.std.proofs.Common.{refl}
use Rattle.scene_store.proofs.Stores.{cut}
use Rattle.scene_store.specs.Store.{blank}
use Rattle.scene_store.proofs.triangle_count.Goals as goal

pub returns : goal.returns
unfolding blank
returns c = cut _ _ _ _ c.triangulate.ensures refl c.counted.ensures
