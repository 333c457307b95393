-- The step of a record that was read. Assumes nothing.
use Prim.Native.Nat.{ℕ}
use mathlib.Core.Path.{◌≡◌}
use mathlib.Core.List.{List}
use lib.Ieee.{Float}
use Rattle.scene_records.specs.declared.Read.{Read}
use Rattle.scene_records.specs.Records.{read_at, size_of}
use Rattle.scene_records.proofs.Sizes.{within}
use Rattle.scene_notes.specs.declared.Notes.{Notes}
use Rattle.scene_notes.specs.Noted.{view}
use Rattle.scene_steps.specs.Steps.{step_by, step, StepOutcome, outcome_of, refused_notes, step_outcome, Ready}

pub ready_on : {s : List ℕ} {c : Notes} {ps ns : List Float} {cs : List ℕ} {r x : Read} → Ready s c 0 ps ns cs → r ≡ read_at s c.at → r ≡ x → Ready s c (size_of x) ps ns cs
ready_on {s} {c} y e q = record { good = y.good; kept = y.kept; sized = y.sized; whole = rw (← q, e) (within s c.at y.good.within) }

pub step_is : (s : List ℕ) (c : Notes) (ps ns : List Float) (cs : List ℕ) {r x : Read} {o : StepOutcome} → r ≡ read_at s c.at → r ≡ x
    → o ≡ outcome_of (step_by x s (view c ps ns cs)) c (refused_notes x c) ps ns cs → o ≡ step_outcome s c ps ns cs
unfolding step_outcome step
step_is s c ps ns cs e q h = rw (← e, q) h
