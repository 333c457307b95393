-- What is left to find comes to the means of the whole ring, and each cut leaves a corner less.
use Rattle.ring_insides.proofs.Seekings.{Seeking}
use Rattle.ring_insides.proofs.find_means.Given as goal

abbrev pub invariant-loop-m : goal.invariant-loop-m
invariant-loop-m l = Seeking l.ps l.initial.ids l.initial.classes l.initial.apart l.ids l.classes l.apart l.count l.m l.f

abbrev pub decreases-loop-m : goal.decreases-loop-m
decreases-loop-m l = l.m
