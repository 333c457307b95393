-- The record at the notes' offset is read and matched: what each kind's step asks holds with that kind's size.
use Rattle.scene_steps.proofs.Taken.{ready_on}
use Rattle.scene_steps.proofs.step.Goals as goal

pub area_step-requires : goal.area_step-requires
area_step-requires c = ready_on c.requires c.read_at.ensures c.in-Area.is

pub place_step-requires : goal.place_step-requires
place_step-requires c = ready_on c.requires c.read_at.ensures c.in-Place.is

pub pair_step-requires : goal.pair_step-requires
pair_step-requires c = ready_on c.requires c.read_at.ensures c.in-Pair.is
