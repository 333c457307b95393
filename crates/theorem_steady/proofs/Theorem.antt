-- The statement of specs/Directed whole. Assumes nothing.
use Rattle.theorem_steady.specs.Directed.{SteadyLoops}
use Rattle.theorem_steady.proofs.Turned as Turned
use Rattle.theorem_steady.proofs.Finite as Finite
use Rattle.theorem_steady.proofs.Loops as Loops

pub steady_loops : SteadyLoops
steady_loops = record {
  turn_sum_is = Turned.turn_sum_is;
  all_aimed = Finite.turns_aimed;
  steady_kept = Finite.steady_kept;
  steady_reversed = Finite.steady_reversed;
  directed = Loops.directed;
}
