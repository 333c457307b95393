-- What is found so far and the edges left come to the part's contact.
use Rattle.std.proofs.Common.{◌≤◌}
use Rattle.ring_pair.proofs.Grades.{Grade}
use Rattle.ring_pair.specs.Contacts.{crosses, touches, part_contact}
use Rattle.ring_pair.proofs.edges_contact.Given as goal

abbrev pub invariant-loop-j : goal.invariant-loop-j
invariant-loop-j l =
    let o = l.other in
    let ps = o.positions.now in
    let ns = o.normals.now in
    Grade (crosses l.mode l.a ps ns o.n) (touches l.mode l.a ps ns o.n) l.to l.j l.touched (part_contact l.mode l.a ps ns o.n l.from l.to) × (l.from ≤ l.j)
