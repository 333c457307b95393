-- SCOPE 44, 45: a steady loop's direction is the sign of the exact sum of the exact angles of the same computed pairs of sine and cosine. Proved in
-- proofs/Theorem.antt. Definitions only.
use Rattle.std.specs.Prelude.{ℕ, ◌≤◌, ◌≡◌, true, false, List, Float}
use Rattle.numbers.specs.F64 as F64
use Rattle.angle.specs.Angles.{weak, clockwise}
use Rattle.minor_arc.specs.declared.Mode.{Mode}
use Rattle.judge.specs.Judge.{positions_fault}
use Rattle.exact_angles.specs.Steady.{total, AllAimed, low_sum, high_sum, Above, Below}
use Rattle.ring_turns.specs.Turns.{turn_sum}
use Rattle.loop_header.specs.declared.Header.{Header}
use Rattle.loop_header.specs.declared.State.TheVariants.{Ring}
use Rattle.loop_build.specs.Build.{opened_count, loop, build_outcome}
use Rattle.theorem_steady.specs.Turns.{turn_pairs}

-- SCOPE 44: the exact sum of the turns of a list of n positions: from the 48th ends on all of it is below 0, or above 0
abbrev pub SumBelow : List Float → ℕ → Type 0
SumBelow l n = (i : ℕ) → 48 ≤ i → Below (high_sum (turn_pairs l n) i)

abbrev pub SumAbove : List Float → ℕ → Type 0
SumAbove l n = (i : ℕ) → 48 ≤ i → Above (low_sum (turn_pairs l n) i)

-- SCOPE 45: the opened list was kept exactly if its sum is below 0, and reversed exactly if it is above 0
pub record Directed (l : List Float) (h : Header) : Type 0 where
  pub kept : h.reversed ≡ false → SumBelow l (opened_count l)
  pub turned : h.reversed ≡ true → SumAbove l (opened_count l)
  pub below : SumBelow l (opened_count l) → h.reversed ≡ false
  pub above : SumAbove l (opened_count l) → h.reversed ≡ true

-- What is said of lists, and of what `build` answers.
pub record SteadyLoops : Type 0 where
  -- SCOPE 44: the turn sum is the float sum from 0.0 of exactly these pairs' angles, in their order
  pub turn_sum_is : (l : List Float) (n : ℕ) → (turn_sum l n).0 ≡ total F64.zero (turn_pairs l n)
  -- of positions of which none is refused every sine and every cosine is finite
  pub all_aimed : (l : List Float) (n : ℕ) → positions_fault l n ≡ 0 → AllAimed (turn_pairs l n)
  -- SCOPE 44: where the sum is not weak, the exact sum is on its side of 0: below it where the list is kept, above it where it is reversed
  pub steady_kept : (l : List Float) (n : ℕ) → n ≤ 512 → positions_fault l n ≡ 0 → weak (turn_sum l n) ≡ false → clockwise (turn_sum l n) ≡ true → SumBelow l n
  pub steady_reversed : (l : List Float) (n : ℕ) → n ≤ 512 → positions_fault l n ≡ 0 → weak (turn_sum l n) ≡ false → clockwise (turn_sum l n) ≡ false → SumAbove l n
  -- SCOPE 45: of every list and lent slices, in either mode (SCOPE 54), from the answer alone. Of EMPTY and FULL nothing is said: their `reversed` is false by SCOPE 15.
  pub directed : (mode : Mode) (l ps ns : List Float) (cs : List ℕ) (h : Header) → (build_outcome mode l ps ns cs).answer ≡ loop h → h.state ≡ Ring → h.weak ≡ false → Directed l h
