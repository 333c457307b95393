-- What is found so far and the edges left come to the whole contact.
use Rattle.ring_pair.proofs.Grades.{Grade}
use Rattle.ring_pair.specs.Contacts.{edge_crosses, edge_touches, contact_of}
use Rattle.ring_pair.proofs.contact_of.Given as goal

abbrev pub invariant-loop-i : goal.invariant-loop-i
invariant-loop-i l =
    let b = l.one in
    let ps = b.positions.now in
    let ns = b.normals.now in
    let o = l.other in
    let os = o.positions.now in
    let om = o.normals.now in
    Grade (edge_crosses l.mode ps ns b.n os om o.n) (edge_touches l.mode ps ns b.n os om o.n) b.n l.i l.touched (contact_of l.mode ps ns b.n os om o.n)
