-- Whether a record may be taken, or its fault and that field's offset. Definitions only.
use Rattle.std.specs.Prelude.{ℕ, Result, Ok, Err}
use Rattle.scene_records.specs.declared.Fault.{Fault}

pub data Judged : Type 0 where
  Fine : Judged
  Bad : Fault → ℕ → Judged

-- a function's answer by cases
abbrev pub told_judged : {T : Type 0} → Result T (Fault × ℕ) → Judged
told_judged (Ok t) = Fine
told_judged (Err e) = Bad e.0 e.1
