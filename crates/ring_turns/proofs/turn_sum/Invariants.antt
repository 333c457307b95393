-- The turns before this block are added.
use Rattle.std.proofs.Common.{◌-◌}
use Rattle.laws.proofs.Loops.{Iterate}
use Rattle.ring_turns.specs.Turns.{turn_sum, plus_turn}
use Rattle.ring_turns.proofs.turn_sum.Given as goal

abbrev pub invariant-loop-from : goal.invariant-loop-from
invariant-loop-from l = Iterate (plus_turn l.list l.n) l.n l.from l.sum (turn_sum l.list l.n)

abbrev pub decreases-loop-from : goal.decreases-loop-from
decreases-loop-from l = l.n - l.from
