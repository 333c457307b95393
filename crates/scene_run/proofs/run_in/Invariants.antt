-- What is written so far, with the text from here on, is always the whole text; each record that is taken shortens the rest.
use Prim.Native.Nat.{◌-◌}
use lib.ListN.{length}
use Rattle.scene_run.proofs.Runs.{Going}
use Rattle.scene_run.proofs.run_in.Given as goal

abbrev pub invariant-loop-r : goal.invariant-loop-r
invariant-loop-r l =
    Going l.s l.initial.out l.initial.positions l.initial.normals l.initial.classes l.c l.written l.positions l.normals l.classes l.out

abbrev pub decreases-loop-r : goal.decreases-loop-r
decreases-loop-r l = length l.s - l.c.at
