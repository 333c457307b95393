-- Two loops in bytes. SCOPE 34: the second's refusals come after all of the first's; SCOPE 56: 11 comes after both. Definitions only.
use Rattle.std.specs.Prelude.{ℕ, List, Float}
use Rattle.laws.specs.Loop.{first}
use Rattle.loop_header.specs.declared.Header.{Header}
use Rattle.loop_header.specs.Loops.{loop_fault}
use Rattle.loop_ask.specs.Answers.{Told, refused, judged}
use Rattle.loop_ask.specs.Questions.{equivalent_answer}
use Rattle.loop_relate.specs.Relations.{relate_answer}
use Rattle.bytes_loop.specs.Layout.{header_at, positions_at, normals_at, classes_at, header_fault, frame_fault}
use Rattle.bytes_pair.specs.declared.Comparison.{Comparison}
use Rattle.bytes_pair.specs.declared.Comparison.TheVariants.{Relation, Equivalence}

-- the relation's number, or whether the two are equivalent. SCOPE 56: loops of different modes have no relation, 65,547 as a number, but may be equivalent
abbrev pub told_of : Comparison → Header → List Float → List Float → List ℕ → Header → List Float → List Float → List ℕ → Told
told_of Relation h ps ns cs o qs ms ds = relate_answer h ps ns cs o qs ms ds
told_of Equivalence h ps ns cs o qs ms ds = equivalent_answer h ps ns cs o qs ms ds

-- of loops in their parts, where the second's bytes have a refusal of their own
unfoldable pub next_told : Comparison → Header → List Float → List Float → List ℕ → ℕ → Header → List Float → List Float → List ℕ → Told
next_told q h ps ns cs fault o qs ms ds = judged (first (loop_fault h ps ns cs) fault) (told_of q h ps ns cs o qs ms ds)

-- of a loop in its parts and one in bytes
abbrev pub against_told : Comparison → Header → List Float → List Float → List ℕ → List ℕ → Told
against_told q h ps ns cs b = next_told q h ps ns cs (frame_fault b) (header_at b) (positions_at b) (normals_at b) (classes_at b)

-- of two loops in bytes
abbrev pub pair_told : Comparison → List ℕ → List ℕ → Told
pair_told q a b = judged (frame_fault a) (against_told q (header_at a) (positions_at a) (normals_at a) (classes_at a) b)

-- with the headers alone in bytes
abbrev pub floats_told : List ℕ → List Float → List Float → List ℕ → List ℕ → List Float → List Float → List ℕ → Told
floats_told a ps ns cs b qs ms ds = judged (header_fault a) (next_told Relation (header_at a) ps ns cs (header_fault b) (header_at b) qs ms ds)

-- ---- inner
abbrev pub no_pair : Header → List Float → List Float → List ℕ → ℕ → Told
no_pair h ps ns cs fault = refused (first (loop_fault h ps ns cs) fault)
