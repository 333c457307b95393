-- An area that may come in is built into the rest of the store: a refusal of the build ends the step, a loop's line and its notes follow from `area_line`.
use Rattle.std.proofs.Common.{rules}
use Rattle.scene_steps.proofs.Steps.{room, area_refused, addable, new_lies, area_looped}
use Rattle.scene_steps.proofs.area_made.Goals as goal

pub build_area-requires : goal.build_area-requires
build_area-requires c = room _ _ c.requires.0 c.requires.1

pub refusal-requires : goal.refusal-requires
refusal-requires c = (c.requires.0.good.small, (room _ _ c.requires.0 c.requires.1).0, c.requires.0.whole)

pub area_line-requires : goal.area_line-requires
area_line-requires c = (new_lies _ _ c.requires.0 c.requires.1 c.build_area.ensures c.in-Ok.is (search rules) (search rules) (search rules), addable _ _ c.requires.0 c.requires.1 c.build_area.ensures c.in-Ok.is)

pub returns-in-Err : goal.returns-in-Err
returns-in-Err c = area_refused _ _ c.requires.0 c.requires.1 c.build_area.ensures c.in-Err.is c.refusal.ensures

pub returns-in-Ok : goal.returns-in-Ok
returns-in-Ok c = area_looped _ _ c.requires.0 c.requires.1 c.build_area.ensures c.in-Ok.is c.area_line.ensures
