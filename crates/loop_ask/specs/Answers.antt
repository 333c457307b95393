-- The answers by cases, each with its number (SCOPE 21, 27). Definitions only.
use Rattle.std.specs.Prelude.{ℕ, zero, suc, Bool, true, false, Result, Ok, Err}
use Rattle.judge.specs.declared.Refusal.{Refusal}
use Rattle.judge.specs.Refusals.{number}
use Rattle.loop_ask.specs.declared.Place.{Place}
use Rattle.loop_ask.specs.declared.Place.TheVariants.{Outside, Inside, Mute}

-- a refusal's number alone, or an answer's
pub data Told : Type 0 where
  refused : ℕ → Told
  answer : ℕ → Told

abbrev pub place_code : Place → ℕ
place_code Outside = 0
place_code Inside = 1
place_code Mute = 2

abbrev pub told_placed : Result Place Refusal → Told
told_placed (Ok p) = answer (place_code p)
told_placed (Err r) = refused (number r)

abbrev pub bool_told : Bool → Told
bool_told false = answer 0
bool_told true = answer 1

abbrev pub told_answered : Result Bool Refusal → Told
told_answered (Ok b) = bool_told b
told_answered (Err r) = refused (number r)

-- the refusal, or what there is to tell
abbrev pub judged : ℕ → Told → Told
judged zero t = t
judged (suc k) t = refused (suc k)
