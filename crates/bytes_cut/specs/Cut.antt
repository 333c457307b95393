-- Triangles over bytes, three u16 each, answered by their number. SCOPE 26, 34: 5 is judged by six bytes for each triangle of the result, of a ring by n - 2
-- and before 8. Definitions only.
use Rattle.std.specs.Prelude.{ℕ, ◌-◌, ◌*◌, ◌≤◌, cond, List, ◌++◌, length, replicate, drop, ltb, Float, Result}
use Rattle.std.proofs.lemmas.List.Edits.{sets}
use Rattle.laws.specs.Loop.{first}
use Rattle.judge.specs.declared.Refusal.{Refusal}
use Rattle.loop_header.specs.declared.State.{State}
use Rattle.loop_header.specs.declared.State.TheVariants.{Empty, Full, Ring}
use Rattle.loop_header.specs.declared.Header.{Header}
use Rattle.loop_header.specs.Loops.{cut_fault}
use Rattle.loop_ask.specs.Answers.{Told, refused, answer}
use Rattle.icosahedron.specs.Table.{positions}
use Rattle.loop_triangles.specs.Triangles as T
use Rattle.wire.specs.Wire.{numbers_bytes}
use Rattle.bytes_loop.specs.Outcome.{Outcome, outcome, refusal_of, outcome_by}
use Rattle.bytes_loop.specs.Layout.{header_at, positions_at, classes_at, header_fault, frame_fault}
use Rattle.bytes_ask.specs.Ask.{number_of}

-- how many triangles a loop has: none, 20 or n - 2
abbrev pub triples_by : State → ℕ → ℕ
triples_by Empty n = 0
triples_by Full n = 20
triples_by Ring n = n - 2

abbrev pub triples_of : Header → ℕ
triples_of h = triples_by h.state h.count

-- what was cut: a refusal, or the triangles in bytes
abbrev pub told_outcome : Told → List ℕ → List ℕ → Outcome ℕ
told_outcome (refused f) l out = outcome (refusal_of f) out
told_outcome (answer n) l out = outcome n (sets out 0 (numbers_bytes l))

abbrev pub out_outcome : T.Outcome → List ℕ → Outcome ℕ
out_outcome o out = told_outcome o.answer o.triangles out

-- room for as many numbers
unfoldable pub blank : ℕ → List ℕ
blank n = replicate n 0

-- of a loop in its parts: its refusals, then 5, then what the cutting with room for all comes to
abbrev pub cut_outcome : Header → List Float → List ℕ → List ℕ → List ℕ → Outcome ℕ
cut_outcome h ps cs triples out = out_outcome (T.triangulate_outcome h ps cs triples) out

unfoldable pub room_fault : Header → ℕ → ℕ
room_fault h size = cond (ltb size (6 * triples_of h)) 5 0

unfoldable pub parts_outcome : Header → List Float → List ℕ → List ℕ → Outcome ℕ
parts_outcome h ps cs out = outcome_by (first (cut_fault h ps cs) (room_fault h (length out))) out (cut_outcome h ps cs (blank (3 * triples_of h)) out)

-- of a loop in bytes
unfoldable pub triangles_outcome : List ℕ → List ℕ → Outcome ℕ
triangles_outcome s out = outcome_by (frame_fault s) out (parts_outcome (header_at s) (positions_at s) (classes_at s) out)

-- with the header alone in bytes, and the output in numbers
abbrev pub numbers_outcome : T.Outcome → Outcome ℕ
numbers_outcome o = outcome (number_of o.answer) o.triangles

unfoldable pub floats_outcome : List ℕ → List Float → List ℕ → List ℕ → Outcome ℕ
floats_outcome s ps cs out = outcome_by (header_fault s) out (numbers_outcome (T.triangulate_outcome (header_at s) ps cs out))

-- SCOPE 19, 34: the 12 positions that a full loop's triangles number, as 36 floats; 5 below that, else 12 with the table in front
unfoldable pub full_positions_outcome : List Float → Outcome Float
full_positions_outcome out = outcome_by (cond (ltb (length out) 36) 5 0) out (outcome 12 (positions ++ drop 36 out))

-- ---- inner
abbrev pub told_cut : Result ℕ Refusal → Told
told_cut = T.told_cut

abbrev pub Small : Told → Type 0
Small (refused f) = Unit
Small (answer n) = n ≤ 510

abbrev pub Counted : Result ℕ Refusal → Type 0
Counted c = Small (T.told_cut c)

abbrev pub laid_outcome : Result ℕ Refusal → List ℕ → List ℕ → Outcome ℕ
laid_outcome c l out = told_outcome (T.told_cut c) l out
