-- What arcs, and the edges of two rings, are computed with, beside theorem_settled/proofs/Computing. Assumes nothing.
use Prim.Native.Nat.{ℕ}
use Rattle.laws.specs.Loop.{first_at}
use Rattle.vec3.specs.Points.{midpoint}
use Rattle.minor_arc.specs.Arcs.{arc_side, location_of, on_arc, nearer, meeting_in, better, meeting_of}
use Rattle.arc_relations.specs.Relations.{pushed, considered, span_of, collinear_of, relation_of}
use Rattle.ring_edges.specs.Edges.{edge_at, on_edge}
use Rattle.ring_shape.specs.Shapes.{agree, beside, all_agree, same_rings}
use Rattle.ring_pair.specs.Contacts.{any_crosses, any_touches, contact_of}
use Rattle.ring_pair.specs.Probes.{free_corner, middle_at, first_corner, first_middle, asked_midpoint, middle_probe, unambiguous_point}
use Rattle.loop_ask.specs.Questions.{equivalent_loops}
use Rattle.loop_relate.specs.Relations.{lies_in, by_edges}
use Rattle.theorem_settled.proofs.Computing as Computing

-- how two arcs relate, and the edges of two rings
unfoldable pub of_arcs : ℕ
unfolding Computing.of_sides arc_side location_of on_arc nearer meeting_in better meeting_of pushed considered span_of collinear_of relation_of edge_at on_edge any_crosses any_touches contact_of
of_arcs = 0

-- how two rings stand to each other
unfoldable pub of_pairs : ℕ
unfolding of_arcs Computing.of_asking Computing.of_relating first_at midpoint agree beside all_agree same_rings free_corner middle_at first_corner first_middle asked_midpoint middle_probe unambiguous_point equivalent_loops lies_in by_edges
of_pairs = 0
