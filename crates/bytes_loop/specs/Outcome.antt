-- What a call leaves: the number that it answers and its output buffer. Definitions only.
use Rattle.std.specs.Prelude.{ℕ, zero, suc, ◌+◌, ℤ, pos, negsuc, List}

pub record Outcome (A : Type 0) : Type 0 where
  pub number : ℕ
  pub out : List A

abbrev pub outcome : {A : Type 0} → ℕ → List A → Outcome A
outcome n out = record { number = n; out = out }

-- SCOPE 33: an answer's code as it is handed over, without a sign: -1 is 2
abbrev pub unsigned : ℤ → ℕ
unsigned (pos n) = n
unsigned (negsuc n) = 2 + n

-- SCOPE 33: a refusal is 65,536 plus its number
abbrev pub refusal_of : ℕ → ℕ
refusal_of f = 65536 + f

-- SCOPE 33: a refusal leaves the output as it was
abbrev pub outcome_by : {A : Type 0} → ℕ → List A → Outcome A → Outcome A
outcome_by zero out x = x
outcome_by (suc k) out x = outcome (refusal_of (suc k)) out
