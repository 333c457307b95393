-- The turns before i are added.
use Rattle.std.proofs.Common.{◌-◌}
use Rattle.laws.specs.Loop.{iterate}
use Rattle.laws.proofs.Loops.{Iterate}
use Rattle.ring_turns.specs.Turns.{plus_turn}
use Rattle.ring_turns.proofs.add_turns.Given as goal

abbrev pub invariant-loop-i : goal.invariant-loop-i
invariant-loop-i l =
    Iterate (plus_turn l.list l.n) l.to l.i l.sum (iterate (plus_turn l.list l.n) (l.to - l.from) l.from l.initial.sum)
