-- An input of more than 65,536 bytes is refused in one line; any other is run over a blank store.
use Rattle.std.proofs.Common.{arith}
use Rattle.scene_lines.specs.declared.Line.TheVariants as Line
use Rattle.scene_lines.proofs.Rooms.{longest}
use Rattle.scene_run.proofs.Runs.{too_many, whole}
use Rattle.scene_run.specs.Run.{blank_floats, blank_codes}
use Rattle.scene_run.proofs.run.Goals as goal

pub returns-then-s-gt65536-clause-wrote : goal.returns-then-s-gt65536-clause-wrote
returns-then-s-gt65536-clause-wrote c = too_many _ c.if-s-gt65536.true c.put_line.ensures.wrote

pub returns-then-s-gt65536-clause-upper_bound : goal.returns-then-s-gt65536-clause-upper_bound
returns-then-s-gt65536-clause-upper_bound c = omega (arith, c.put_line.ensures.upper_bound, longest (Line.Refused 28 0 65536))

pub returns-clause-wrote : goal.returns-clause-wrote
unfolding blank_floats blank_codes
returns-clause-wrote c = whole _ c.if-s-gt65536.false c.run_in.ensures.wrote
