-- Questions over bytes. SCOPE 34: a position's own length is judged after all refusals of the loop before it. Definitions only.
use Rattle.std.specs.Prelude.{ℕ, Bool, true, false, List, length, Float, Result, Ok, Err}
use Rattle.laws.specs.Loop.{first}
use Rattle.vec3.specs.declared.Vec3.{Vec3}
use Rattle.judge.specs.declared.Refusal.{Refusal}
use Rattle.judge.specs.Refusals.{number}
use Rattle.loop_header.specs.declared.Header.{Header}
use Rattle.loop_header.specs.Loops.{loop_fault}
use Rattle.loop_ask.specs.Answers.{Told, refused, answer, judged}
use Rattle.loop_ask.specs.Questions.{place_answer, vertex_answer, on_edge_answer, convex_answer, simple_answer}
use Rattle.wire.specs.Wire.{vec_size, vec_of}
use Rattle.bytes_loop.specs.Outcome.{refusal_of}
use Rattle.bytes_loop.specs.Layout.{header_at, positions_at, normals_at, classes_at, size_fault, header_fault, frame_fault}
use Rattle.bytes_ask.specs.declared.Question.{Question}
use Rattle.bytes_ask.specs.declared.Question.TheVariants.{Place, Vertex, OnEdge, Convex, Simple}

-- SCOPE 33: the number that is answered
abbrev pub number_of : Told → ℕ
number_of (refused f) = refusal_of f
number_of (answer n) = n

-- SCOPE 27: an answer's number, or what it is refused for
abbrev pub told_number : Result ℕ Refusal → Told
told_number (Ok n) = answer n
told_number (Err r) = refused (number r)

-- the answer about a position; convexity and simplicity are asked of none
abbrev pub told_at : Question → Header → List Float → List Float → List ℕ → Vec3 → Told
told_at Place h ps ns cs p = place_answer h ps ns cs p
told_at Vertex h ps ns cs p = vertex_answer h ps ns cs p
told_at OnEdge h ps ns cs p = on_edge_answer h ps ns cs p
told_at Convex h ps ns cs p = convex_answer h ps ns cs
told_at Simple h ps ns cs p = simple_answer h ps ns cs

abbrev pub needs_position : Question → Bool
needs_position Place = true
needs_position Vertex = true
needs_position OnEdge = true
needs_position Convex = false
needs_position Simple = false

-- the loop's refusals, and then that of a position of another length
abbrev pub length_fault : Bool → ℕ → List ℕ → ℕ
length_fault true fault p = first fault (size_fault (length p) vec_size)
length_fault false fault p = 0

-- of a loop in its parts and a position in bytes
unfoldable pub told_by : Question → Header → List Float → List Float → List ℕ → List ℕ → Told
told_by q h ps ns cs p = judged (length_fault (needs_position q) (loop_fault h ps ns cs) p) (told_at q h ps ns cs (vec_of p 0))

-- of a loop in bytes
abbrev pub ask_told : Question → List ℕ → List ℕ → Told
ask_told q s p = judged (frame_fault s) (told_by q (header_at s) (positions_at s) (normals_at s) (classes_at s) p)

-- of no position
abbrev pub convex_told : List ℕ → Told
convex_told s = judged (frame_fault s) (convex_answer (header_at s) (positions_at s) (normals_at s) (classes_at s))

abbrev pub simple_told : List ℕ → Told
simple_told s = judged (frame_fault s) (simple_answer (header_at s) (positions_at s) (normals_at s) (classes_at s))

-- with the header alone in bytes, and the position as a vector
abbrev pub place_told : List ℕ → List Float → List Float → List ℕ → Vec3 → Told
place_told s ps ns cs p = judged (header_fault s) (place_answer (header_at s) ps ns cs p)

-- ---- inner
abbrev pub no_query : Header → List Float → List Float → List ℕ → Told
no_query h ps ns cs = refused (first (loop_fault h ps ns cs) 1)
