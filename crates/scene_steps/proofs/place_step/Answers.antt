-- The number is looked up and judged first: a fault ends the step, and one that was met goes on as `place_met`.
use Rattle.std.proofs.Common.{ap}
use Rattle.scene_notes.specs.Judged.{told_judged}
use Rattle.scene_steps.proofs.Steps.{place_bad, place_below, place_fine}
use Rattle.scene_steps.proofs.place_step.Goals as goal

pub place_met-requires : goal.place_met-requires
place_met-requires c = (c.requires, c.index_of-i.ensures.value, place_below c.requires _ c.index_of-i.ensures.value c.judge_numbers.ensures (ap told_judged c.in-Ok.is))

pub returns-in-Err : goal.returns-in-Err
returns-in-Err c = place_bad c.requires _ c.index_of-i.ensures.value c.judge_numbers.ensures _ (ap told_judged c.in-Err.is)

pub returns-in-Ok : goal.returns-in-Ok
returns-in-Ok c = place_fine c.requires _ c.index_of-i.ensures.value c.judge_numbers.ensures _ (ap told_judged c.in-Ok.is) c.place_met.ensures
