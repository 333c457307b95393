-- What is found so far and the edges left come to the whole contact.
use Rattle.std.proofs.Common.{◌-◌}
use Rattle.ring_pair.proofs.Grades.{Grade}
use Rattle.ring_pair.specs.Contacts.{crosses, touches, arc_contact}
use Rattle.ring_pair.proofs.arc_contact.Given as goal

abbrev pub invariant-loop-from : goal.invariant-loop-from
invariant-loop-from l =
    let o = l.other in
    let ps = o.positions.now in
    let ns = o.normals.now in
    Grade (crosses l.mode l.a ps ns o.n) (touches l.mode l.a ps ns o.n) o.n l.from l.touched (arc_contact l.mode l.a ps ns o.n)

abbrev pub decreases-loop-from : goal.decreases-loop-from
decreases-loop-from l = l.other.n - l.from
