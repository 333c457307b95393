-- How far, over bytes. SCOPE 53: 0 is answered and the squared chord written, 8 bytes or one float; the refusals are those of a place, or of what an arc
-- contains, and then, last of all, 5 where there is no room. Definitions only.
use Rattle.std.specs.Prelude.{ℕ, zero, suc, true, List, [], ◌∷◌, length, ltb, Float, if◌then◌else◌}
use Rattle.std.proofs.lemmas.List.Edits.{sets}
use Rattle.vec3.specs.declared.Vec3.{Vec3}
use Rattle.wire.specs.Wire.{vec_size, vec_of, float_bytes}
use Rattle.loop_header.specs.declared.Header.{Header}
use Rattle.loop_header.specs.Loops.{loop_fault}
use Rattle.loop_distances.specs.Distances.{Told, refused, chord, arc_answer, boundary_answer}
use Rattle.bytes_loop.specs.Outcome.{Outcome, outcome, refusal_of}
use Rattle.bytes_loop.specs.Layout.{header_at, positions_at, normals_at, classes_at, header_fault, frame_fault}
use Rattle.bytes_ask.specs.Ask.{length_fault}
use Rattle.bytes_arcs.specs.Arcs.{arc_at, next_judged}

-- ---- what is told, by the bytes
abbrev pub judged : ℕ → Told → Told
judged zero t = t
judged (suc k) t = refused (suc k)

-- of a loop in its parts and a position in bytes: the loop's refusals, and then that of a position of another length
unfoldable pub told_by : Header → List Float → List Float → List ℕ → List ℕ → Told
told_by h ps ns cs p = judged (length_fault true (loop_fault h ps ns cs) p) (boundary_answer h ps ns cs (vec_of p 0))

-- of a loop in bytes
abbrev pub far_told : List ℕ → List ℕ → Told
far_told s p = judged (frame_fault s) (told_by (header_at s) (positions_at s) (normals_at s) (classes_at s) p)

-- with the header alone in bytes, and the position as a vector
abbrev pub floats_told : List ℕ → List Float → List Float → List ℕ → Vec3 → Told
floats_told s ps ns cs p = judged (header_fault s) (boundary_answer (header_at s) ps ns cs p)

-- of an arc in bytes
abbrev pub arc_told : List ℕ → List ℕ → Told
arc_told a p = judged (next_judged a p vec_size) (arc_answer (arc_at a) (vec_of p 0))

-- ---- what is answered and written: a squared chord as 8 bytes, and as one float
abbrev pub chord_size : ℕ
chord_size = 8

unfoldable pub leave : Told → List ℕ → Outcome ℕ
leave (refused f) out = outcome (refusal_of f) out
leave (chord c) out = if ltb (length out) chord_size then outcome (refusal_of 5) out else outcome 0 (sets out 0 (float_bytes c.0))

unfoldable pub leave_float : Told → List Float → Outcome Float
leave_float (refused f) out = outcome (refusal_of f) out
leave_float (chord c) out = if ltb (length out) 1 then outcome (refusal_of 5) out else outcome 0 (sets out 0 (c.0 ∷ []))

-- ---- the outcomes
abbrev pub far_outcome : List ℕ → List ℕ → List ℕ → Outcome ℕ
far_outcome s p out = leave (far_told s p) out

abbrev pub arc_far_outcome : List ℕ → List ℕ → List ℕ → Outcome ℕ
arc_far_outcome a p out = leave (arc_told a p) out

abbrev pub far_floats_outcome : List ℕ → List Float → List Float → List ℕ → Vec3 → List Float → Outcome Float
far_floats_outcome s ps ns cs p out = leave_float (floats_told s ps ns cs p) out
