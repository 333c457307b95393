-- What the checker keeps from triple to triple, and that each leaves a corner less.
use Rattle.ring_check.proofs.Followings.{Following}
use Rattle.ring_check.proofs.follow.Given as goal

abbrev pub invariant-loop-m : goal.invariant-loop-m
invariant-loop-m l = Following l.ps l.initial.ids l.initial.classes l.triangles l.ids l.classes l.m l.t

abbrev pub decreases-loop-m : goal.decreases-loop-m
decreases-loop-m l = l.m
