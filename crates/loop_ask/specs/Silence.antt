-- SCOPE 15, 21, 55: silence is not empty air. What an answer of outside says of the loop, and when the answer is mute: of every header, whatever its mode and
-- its cap are. Proved in proofs/Silence.antt. Definitions only.
use Rattle.std.specs.Prelude.{ℕ, ◌≡◌, true, List, Some, Float}
use Rattle.vec3.specs.declared.Vec3.{Vec3}
use Rattle.vec3.specs.Vec.{cleared}
use Rattle.loop_header.specs.declared.State.TheVariants.{Empty}
use Rattle.loop_header.specs.declared.Header.{Header}
use Rattle.loop_header.specs.Loops.{mute}
use Rattle.loop_ask.specs.Answers.{Told, refused, answer}
use Rattle.loop_ask.specs.Questions.{query_fault, place_answer}

-- a loop that can say what is outside of it
pub data Speaks (h : Header) : Type 0 where
  empty : h.state ≡ Empty → Speaks h
  three : h.count ≡ 3 → Speaks h
  with_insides : (a b : Vec3) → h.insides ≡ Some (a, b) → Speaks h

-- what any other answers
pub data Other : Told → Type 0 where
  refusal : (k : ℕ) → Other (refused k)
  inside : Other (answer 1)
  untold : Other (answer 2)

module _ (h : Header) (ps ns : List Float) (cs : List ℕ) (p : Vec3) where
  pub record Silence : Type 0 where
    -- outside is answered only by a loop that is empty, or three-cornered, or has insides; any other answers inside or mute, or refuses
    pub outside_speaks : place_answer h ps ns cs p ≡ answer 0 → Speaks h
    pub silent_otherwise : (Speaks h → ⊥) → Other (place_answer h ps ns cs p)
    -- mute is answered exactly where nothing is refused and the header is mute
    pub mute_only : place_answer h ps ns cs p ≡ answer 2 → (query_fault h ps ns cs (cleared p) ≡ 0) × (mute h ≡ true)
    pub mute_always : query_fault h ps ns cs (cleared p) ≡ 0 → mute h ≡ true → place_answer h ps ns cs p ≡ answer 2
