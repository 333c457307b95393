-- What cutting and the checker answer, and what cutting leaves in its output (SCOPE 17, 19, 20). Definitions only.
use Rattle.std.specs.Prelude.{ℕ, zero, suc, ◌-◌, ◌*◌, Bool, true, false, List, ◌++◌, length, drop, ltb, Float, Result, Ok, Err}
use Rattle.judge.specs.declared.Refusal.{Refusal}
use Rattle.judge.specs.Refusals.{number}
use Rattle.icosahedron.specs.Table.{triples}
use Rattle.ring_cut.specs.Cut as C
use Rattle.ring_check.specs.Accepted.{accepted}
use Rattle.loop_header.specs.declared.State.{State}
use Rattle.loop_header.specs.declared.State.TheVariants.{Empty, Full, Ring}
use Rattle.loop_header.specs.declared.Header.{Header}
use Rattle.loop_header.specs.Loops.{cut_fault, check_fault}
use Rattle.loop_ask.specs.Answers.{Told, refused, answer, bool_told, judged}

-- SCOPE 27: the refusal's number, or the number of triples
abbrev pub told_cut : Result ℕ Refusal → Told
told_cut (Err r) = refused (number r)
told_cut (Ok n) = answer n

-- an answer, and the output at exit
pub record Outcome : Type 0 where
  pub answer : Told
  pub triangles : List ℕ

abbrev pub outcome : Told → List ℕ → Outcome
outcome t l = record { answer = t; triangles = l }

-- SCOPE 25: 5 for an output that is shorter than the result needs
abbrev pub roomy : Bool → List ℕ → Outcome → Outcome
roomy true tris o = outcome (refused 5) tris
roomy false tris o = o

unfoldable pub full_outcome : List ℕ → Outcome
full_outcome tris = roomy (ltb (length tris) 60) tris (outcome (answer 20) (triples ++ drop 60 tris))

-- SCOPE 17: n - 2 triples, or 8 where a ring above three is reached that has no eligible ear
abbrev pub cut_told : Bool → ℕ → Told
cut_told true n = answer n
cut_told false n = refused 8

abbrev pub laid : C.Outcome → ℕ → Outcome
laid o n = outcome (cut_told o.answer n) o.out

-- SCOPE 26: 5 is judged by n - 2, before 8
unfoldable pub ring_outcome : List Float → List ℕ → List ℕ → Outcome
ring_outcome ps cs tris = roomy (ltb (length tris) (3 * (length cs - 2))) tris (laid (C.cut_ring_outcome ps cs tris) (length cs - 2))

abbrev pub state_outcome : State → List Float → List ℕ → List ℕ → Outcome
state_outcome Empty ps cs tris = outcome (answer 0) tris
state_outcome Full ps cs tris = full_outcome tris
state_outcome Ring ps cs tris = ring_outcome ps cs tris

abbrev pub outcome_by : ℕ → List ℕ → Outcome → Outcome
outcome_by zero tris o = o
outcome_by (suc k) tris o = outcome (refused (suc k)) tris

unfoldable pub triangulate_outcome : Header → List Float → List ℕ → List ℕ → Outcome
triangulate_outcome h ps cs tris = outcome_by (cut_fault h ps cs) tris (state_outcome h.state ps cs tris)

-- SCOPE 20: the checker says yes exactly for accepted lists
unfoldable pub accepts_answer : Header → List Float → List ℕ → List ℕ → Told
accepts_answer h ps cs tris = judged (check_fault h ps cs (length tris)) (bool_told (accepted ps cs tris))
