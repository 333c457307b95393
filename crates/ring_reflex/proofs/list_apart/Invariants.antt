-- Those before j that are not convex are listed.
use Rattle.ring_reflex.proofs.Aparts.{Listed}
use Rattle.ring_reflex.proofs.list_apart.Given as goal

abbrev pub invariant-loop-j : goal.invariant-loop-j
invariant-loop-j l = Listed l.ids l.classes l.initial.apart l.apart l.k l.j
