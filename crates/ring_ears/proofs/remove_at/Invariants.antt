-- The moves from j on come to what is left.
use Rattle.std.proofs.Common.{◌-◌, ◌++◌, length, drop}
use Rattle.laws.proofs.Loops.{Iterate}
use Rattle.laws.proofs.Shifts.{shift}
use Rattle.ring_theory.specs.Ring.{without}
use Rattle.ring_ears.proofs.remove_at.Given as goal

abbrev pub invariant-loop-j : goal.invariant-loop-j
invariant-loop-j l =
    let ids = l.initial.ids in
    Iterate (shift 0) (length ids - 1) l.j l.ids (without l.i ids ++ drop (length ids - 1) ids)
