-- What a ring under the knife keeps from cut to cut, and that each leaves a corner less.
use Rattle.ring_cut.proofs.Goings.{Going}
use Rattle.ring_cut.proofs.cut_all.Given as goal

abbrev pub invariant-loop-m : goal.invariant-loop-m
invariant-loop-m l = Going l.ps l.initial.ids l.initial.classes l.initial.apart l.initial.triangles l.ids l.classes l.apart l.triangles l.k l.m l.t

abbrev pub decreases-loop-m : goal.decreases-loop-m
decreases-loop-m l = l.m
