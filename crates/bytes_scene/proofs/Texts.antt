-- A text that stands in front of a work buffer is written in front of another, or is refused with 5 and leaves it as it was. Assumes nothing.
use Prim.Native.Nat.{ℕ, ◌≤◌}
use mathlib.Core.Path.{◌≡◌, refl, ap}
use mathlib.Core.Bool.{Bool, true, false, cond}
use mathlib.Core.List.{List}
use native.Mathlib.Nat.{zero-add}
use native.Mathlib.Omega.{arith}
use lib.ListN.{length, take}
use lib.Seq.{sets, sets-eq, take_at}
use lib.Dec.{ltb}
use Rattle.scene_words.specs.Words.{Wrote}
use Rattle.bytes_loop.specs.Outcome.{outcome}
use Rattle.bytes_scene.specs.Scene.{size_refusal_of, text_outcome, fitting, size_answer}

-- as many bytes of the buffer as the text has are the text
front : (before text : List ℕ) → length text ≤ length before → take (length text) (sets before 0 text) ≡ text
front before text h = rw (sets-eq text before 0 (omega (arith, h))) (take_at text _ (length text) refl)

-- by whether it fits
either : (text before out : List ℕ) → length text ≤ length before → (b : Bool)
    → outcome (cond b (size_refusal_of 5) (length text)) (sets out 0 (take (cond b 0 (length text)) (sets before 0 text)))
    ≡ cond b (outcome (size_refusal_of 5) out) (outcome (length text) (sets out 0 text))
either text before out h true = refl
either text before out h false = ap (λ (t : List ℕ). outcome (length text) (sets out 0 t)) (front before text h)

pub all_or_nothing : (text before out : List ℕ) {work after : List ℕ} {size n answer : ℕ} → Wrote before 0 text work size → size ≤ length before
    → answer ≡ size_answer size (length out) → n ≡ fitting size (length out) → after ≡ sets out 0 (take n work)
    → outcome answer after ≡ text_outcome text out
unfolding text_outcome fitting size_answer
all_or_nothing text before out w h a f q =
    rw (a, q, f, w.text_there, w.next_offset, zero-add) (either text before out (omega (arith, w.next_offset)) (ltb (length out) (length text)))
