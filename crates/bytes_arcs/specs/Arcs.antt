-- The exports on arcs, over bytes. SCOPE 34: 1 for a position that is not 24 bytes, an arc that is not 72; a query's own after all refusals of the arc before
-- it, a second arc's after all of the first's, and `desk_arc` judges both lengths before 3 and 4; 5 by the bytes that the answer writes. Definitions only.
use Rattle.std.specs.Prelude.{ℕ, ◌*◌, List, [], ◌∷◌, ◌++◌, length, ltb, if◌then◌else◌}
use Rattle.std.proofs.lemmas.List.Edits.{sets}
use Rattle.laws.specs.Loop.{first}
use Rattle.vec3.specs.declared.Vec3.{Vec3}
use Rattle.wire.specs.Wire.{vec_of, vec_bytes}
use Rattle.minor_arc.specs.declared.MinorArc.{MinorArc}
use Rattle.minor_arc.specs.declared.Mode.{Mode}
use Rattle.arcs.specs.Answers.{Told, refused, answer, judged, arc_fault, new_answer, opposite_answer, side_answer, contains_answer, intersection_answer, relate_answer}
use Rattle.bytes_loop.specs.Outcome.{Outcome, outcome, refusal_of, unsigned}
use Rattle.bytes_loop.specs.Layout.{size_fault}

abbrev pub arc_at : List ℕ → MinorArc
arc_at s = record { start = vec_of s 0; end = vec_of s 24; normal = vec_of s 48 }

-- ---- what is told, by the bytes
abbrev pub arc_judged : List ℕ → ℕ
arc_judged a = first (size_fault (length a) 72) (arc_fault (arc_at a))

-- of an arc, and then of the length of what comes after it
abbrev pub next_judged : List ℕ → List ℕ → ℕ → ℕ
next_judged a p n = first (arc_judged a) (size_fault (length p) n)

abbrev pub ends_judged : List ℕ → List ℕ → ℕ
ends_judged s e = first (size_fault (length s) 24) (size_fault (length e) 24)

abbrev pub arc_told : List ℕ → List ℕ → Told
arc_told s e = judged (ends_judged s e) (new_answer (vec_of s 0) (vec_of e 0))

abbrev pub opposite_told : List ℕ → Told
opposite_told a = judged (size_fault (length a) 72) (opposite_answer (arc_at a))

abbrev pub side_told : List ℕ → List ℕ → Told
side_told a p = judged (next_judged a p 24) (side_answer (arc_at a) (vec_of p 0))

abbrev pub contains_told : List ℕ → List ℕ → Told
contains_told a p = judged (next_judged a p 24) (contains_answer (arc_at a) (vec_of p 0))

-- SCOPE 55: these two take the mode
abbrev pub intersection_told : Mode → List ℕ → List ℕ → Told
intersection_told mode a b = judged (next_judged a b 72) (intersection_answer mode (arc_at a) (arc_at b))

abbrev pub relate_told : Mode → List ℕ → List ℕ → Told
relate_told mode a b = judged (next_judged a b 72) (relate_answer mode (arc_at a) (arc_at b))

-- ---- what is answered and written (SCOPE 33)
abbrev pub number_of : Told → ℕ
number_of (refused f) = refusal_of f
number_of (answer code vs) = unsigned code

abbrev pub value_bytes : List Vec3 → List ℕ
value_bytes [] = []
value_bytes (v ∷ vs) = vec_bytes v ++ value_bytes vs

unfoldable pub leave : Told → List ℕ → Outcome ℕ
leave (refused f) out = outcome (refusal_of f) out
leave (answer code vs) out = if ltb (length out) (24 * length vs) then outcome (refusal_of 5) out else outcome (unsigned code) (sets out 0 (value_bytes vs))
