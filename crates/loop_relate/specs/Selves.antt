-- SCOPE 24, 55: a loop beside itself. A loop that is not refused is equal to itself: in plain mode where it is full or empty or its cap meets itself, in long
-- mode always, as no cap is asked there. Proved in proofs/Selves.antt. Definitions only.
use Rattle.std.specs.Prelude.{ℕ, ◌≡◌, true, List, Float}
use Rattle.cap.specs.Caps.{intersects}
use Rattle.minor_arc.specs.declared.Mode.TheVariants.{Long}
use Rattle.loop_header.specs.declared.State.TheVariants.{Empty, Full}
use Rattle.loop_header.specs.declared.Header.{Header}
use Rattle.loop_header.specs.Loops.{loop_fault}
use Rattle.loop_ask.specs.Answers.{answer}
use Rattle.loop_ask.specs.Places.{cleared_cap}
use Rattle.loop_relate.specs.Relations.{relate_answer}

-- what lets a loop of either mode be found equal to itself
pub data Meets (h : Header) : Type 0 where
  full : h.state ≡ Full → Meets h
  empty : h.state ≡ Empty → Meets h
  by_cap : intersects (cleared_cap h.cap) (cleared_cap h.cap) ≡ true → Meets h

module _ (h : Header) (ps ns : List Float) (cs : List ℕ) where
  pub record Itself : Type 0 where
    pub meeting : loop_fault h ps ns cs ≡ 0 → Meets h → relate_answer h ps ns cs h ps ns cs ≡ answer 5
    -- whatever its state and its cap are
    pub long : loop_fault h ps ns cs ≡ 0 → h.mode ≡ Long → relate_answer h ps ns cs h ps ns cs ≡ answer 5
