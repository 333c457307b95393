-- The record's floats are read into the list, which is of their size: what is built of it into the rests is built of the record.
use Rattle.std.proofs.Common.{ap, ◌∙◌}
use Rattle.wire.specs.Wire.{floats_at}
use Rattle.scene_store.proofs.Stores.{built}
use Rattle.scene_store.proofs.build_from.Goals as goal

pub returns : goal.returns
returns c = built _ _ _ _ _ (c.read_floats.ensures ∙ ap (floats_at c.args.s.now c.args.at) c.requires.exact) c.build.ensures
