-- The sines stand at each index before j.
use Rattle.std.proofs.Common.{◌+◌, ◌∷◌, []}
use Rattle.laws.proofs.Blocks.{Fill}
use Rattle.ring_turns.specs.Blocks.{sine_at}
use Rattle.ring_turns.proofs.write_sines.Given as goal

abbrev pub invariant-loop-j : goal.invariant-loop-j
invariant-loop-j l = Fill 1 (λ i. sine_at l.list l.n (l.from + i) ∷ []) l.k l.j l.initial.out l.out
