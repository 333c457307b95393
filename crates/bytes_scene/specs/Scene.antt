-- The run of a scene over bytes. SCOPE 48: the answer is how many bytes the text has, which stand in front of `out`, the rest of it behind them; 5 where `out`
-- is shorter than the text, and no other refusal: a scene that is refused is a text. Definitions only.
use Rattle.std.specs.Prelude.{ℕ, ◌+◌, cond, List, length, ltb}
use Rattle.std.proofs.lemmas.List.Edits.{sets}
use Rattle.bytes_loop.specs.Outcome.{Outcome, outcome}
use Rattle.scene_run.specs.Run.{scene_text}

-- SCOPE 48: an answer that is a size is below 2^32; a refusal is 2^32 plus its number
abbrev pub size_refusal_of : ℕ → ℕ
size_refusal_of f = 4294967296 + f

-- of a text, by its size and the room for it
unfoldable pub text_outcome : List ℕ → List ℕ → Outcome ℕ
text_outcome text out = cond (ltb (length out) (length text)) (outcome (size_refusal_of 5) out) (outcome (length text) (sets out 0 text))

-- of a scene, by its bytes
abbrev pub scene_outcome : List ℕ → List ℕ → Outcome ℕ
scene_outcome s out = text_outcome (scene_text s) out

-- ---- inner: how many bytes of a text are written, and what is answered, by its size and the room for it
unfoldable pub fitting : ℕ → ℕ → ℕ
fitting size room = cond (ltb room size) 0 size

unfoldable pub size_answer : ℕ → ℕ → ℕ
size_answer size room = cond (ltb room size) (size_refusal_of 5) size
