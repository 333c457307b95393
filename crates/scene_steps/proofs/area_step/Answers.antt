-- An area record is judged first: a fault ends the step, and one that is fine goes on as `area_made`.
use Rattle.std.proofs.Common.{ap}
use Rattle.scene_notes.specs.Judged.{told_judged}
use Rattle.scene_steps.proofs.Steps.{area_bad, area_fine}
use Rattle.scene_steps.proofs.area_step.Goals as goal

pub returns-in-Err : goal.returns-in-Err
returns-in-Err c = area_bad _ _ c.requires c.judge_area.ensures (ap told_judged c.in-Err.is)

pub returns-in-Ok : goal.returns-in-Ok
returns-in-Ok c = area_fine _ _ c.requires c.judge_area.ensures (ap told_judged c.in-Ok.is) c.area_made.ensures
