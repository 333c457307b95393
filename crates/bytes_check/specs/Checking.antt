-- The checker over bytes, answered by 0 or 1. SCOPE 34: triangle bytes that are not in sixes come with the loop's own 1. Definitions only.
use Rattle.std.specs.Prelude.{ℕ, ◌/◌, ◌%◌, cond, List, length, eqb, ltb}
use Rattle.laws.specs.Loop.{first}
use Rattle.loop_ask.specs.Answers.{Told, judged}
use Rattle.loop_triangles.specs.Triangles.{accepts_answer}
use Rattle.wire.specs.Wire.{numbers_at}
use Rattle.bytes_loop.specs.Layout.{header_at, positions_at, classes_at, frame_fault, copy_fault}

unfoldable pub sixes_fault : ℕ → ℕ
sixes_fault size = cond (eqb (size % 6) 0) 0 1

-- of a loop in bytes and a list of triples, of any length, in bytes
abbrev pub accepts_told : List ℕ → List ℕ → Told
accepts_told s t =
    judged (first (sixes_fault (length t)) (frame_fault s))
    (accepts_answer (header_at s) (positions_at s) (classes_at s) (numbers_at t (length t / 2)))

-- ---- inner
abbrev pub list_fault : List ℕ → ℕ → ℕ
list_fault s size = first (sixes_fault size) (copy_fault s)

-- how many numbers of a list are looked at: 511 triples are too many for any ring, as more are
unfoldable pub numbers_for : ℕ → ℕ
numbers_for size = cond (ltb (size / 2) 1533) (size / 2) 1533
