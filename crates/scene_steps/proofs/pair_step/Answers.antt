-- Both numbers are looked up and judged first: a fault ends the step, and two that were met go on as `pair_met`.
use Rattle.std.proofs.Common.{ap}
use Rattle.scene_notes.specs.Judged.{told_judged}
use Rattle.scene_steps.proofs.Steps.{pair_bad, first_below, second_below, pair_fine}
use Rattle.scene_steps.proofs.pair_step.Goals as goal

pub pair_met-requires : goal.pair_met-requires
pair_met-requires c = (c.requires, (c.index_of-i.ensures.value, first_below c.requires _ _ c.index_of-i.ensures.value c.index_of-j.ensures.value c.judge_numbers.ensures (ap told_judged c.in-Ok.is)), (c.index_of-j.ensures.value, second_below c.requires _ _ c.index_of-i.ensures.value c.index_of-j.ensures.value c.judge_numbers.ensures (ap told_judged c.in-Ok.is)))

pub returns-in-Err : goal.returns-in-Err
returns-in-Err c = pair_bad c.requires _ _ c.index_of-i.ensures.value c.index_of-j.ensures.value c.judge_numbers.ensures (ap told_judged c.in-Err.is)

pub returns-in-Ok : goal.returns-in-Ok
returns-in-Ok c = pair_fine c.requires _ _ c.index_of-i.ensures.value c.index_of-j.ensures.value c.judge_numbers.ensures (ap told_judged c.in-Ok.is) c.pair_met.ensures
