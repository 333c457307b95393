-- Record after record is taken and its line written.
use Rattle.std.proofs.Common.{arith, rules}
use Rattle.scene_lines.proofs.Rooms.{longest}
use Rattle.scene_steps.proofs.Outcomes.{told_step_lem, kept_step}
use Rattle.scene_run.proofs.Runs.{begin, ends, after, on}
use Rattle.scene_run.proofs.run_in.Goals as goal

pub loop-r-init : goal.loop-r-init
loop-r-init c = begin _ _ _ _ _ c.requires c.fresh-c.ensures

pub step-r-requires : goal.step-r-requires
step-r-requires c = c.loop-r.invariant.ready

pub put_line-written-requires : goal.put_line-written-requires
put_line-written-requires c =
    let going = c.loop-r.invariant in
    let good = going.ready.good in
    omega (arith, going.bound, going.room, good.within, good.small, good.few)

pub returns-then-not-goes_on-clause-wrote : goal.returns-then-not-goes_on-clause-wrote
returns-then-not-goes_on-clause-wrote c =
    ends c.loop-r.invariant c.step-r.result c.step-r.new.positions c.step-r.new.normals c.step-r.new.classes (told_step_lem _ _ _ _ _ c.step-r.ensures) c.line_of.ensures
    c.put_line-written.ensures.wrote c.goes_on.ensures c.if-not-goes_on.true

pub returns-then-not-goes_on-clause-upper_bound : goal.returns-then-not-goes_on-clause-upper_bound
returns-then-not-goes_on-clause-upper_bound c =
    let going = c.loop-r.invariant in
    let good = going.ready.good in
    omega (arith, c.put_line-written.ensures.upper_bound, longest c.line_of.result, going.bound, good.within, good.small, good.few)

pub loop-r-smaller : goal.loop-r-smaller
loop-r-smaller c =
    let onward = after c.loop-r.invariant c.step-r.result c.step-r.new.positions c.step-r.new.normals c.step-r.new.classes (told_step_lem _ _ _ _ _ c.step-r.ensures) c.line_of.ensures
    c.put_line-written.ensures.wrote c.goes_on.ensures c.if-not-goes_on.false in
    omega (arith, onward.forth, onward.good.within)

pub loop-r-preserved : goal.loop-r-preserved
loop-r-preserved c =
    on c.loop-r.invariant c.step-r.result c.step-r.new.positions c.step-r.new.normals c.step-r.new.classes (told_step_lem _ _ _ _ _ c.step-r.ensures) c.line_of.ensures
    c.put_line-written.ensures.wrote c.goes_on.ensures c.if-not-goes_on.false
    (kept_step _ _ _ _ _ c.step-r.ensures c.loop-r.invariant.ready) c.put_line-written.ensures.upper_bound (search rules) (search rules) (search rules) (search rules)
