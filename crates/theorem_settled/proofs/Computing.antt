-- What an example is computed with, by layer: to unfold one of these is to unfold all that its line names. Assumes nothing.
use Prim.Native.Nat.{ℕ}
use lib.Ieee.{add, sub, mul, div, neg, lt, le, eq, of_bits}
use Rattle.laws.specs.Loop.{first_of, any_of, first_at, iterate, flat}
use Rattle.numbers.specs.Near.{abs}
use Rattle.root.specs.Root.{root_of}
use Rattle.vec3.specs.Vec.{unit_vec, unit, axis_for, orthogonal_to}
use Rattle.angle.specs.Arctan.{size, sum_of, acute, quadrant, atan2}
use Rattle.base.specs.Sides.{sign_of, retest_of, side_of}
use Rattle.base.specs.Turns.{sine_of}
use Rattle.judge.specs.Judge.{vector_fault, fault_of}
use Rattle.chord_length.specs.Chords.{from_squared_length, joined, sum, later_max}
use Rattle.cap.specs.Caps.{grown, bounding_cap, intersects}
use Rattle.ring_turns.specs.Turns.{edge_normal, turn_at, turn_sum}
use Rattle.ring_corners.specs.Corners.{opened, reversal, normal_at, class_by, class_at, all_both}
use Rattle.ring_edges.specs.Edges.{has_vertex}
use Rattle.ring_place.specs.Places.{in_triangle, sides}
use Rattle.ring_triangle.specs.Inside.{fits, edge_side, fits_edges, is_corner, inside_or_edge}
use Rattle.ring_ears.specs.Ears.{blocks, ear, reclassify, reclassify_both, cut_at}
use Rattle.ring_cut.specs.Cut.{cutting, cut_ring_outcome}
use Rattle.ring_check.specs.Accepted.{fits_at, same_numbers, accepts, accepted}
use Rattle.loop_header.specs.Loops.{shape_fault, threes_of, ring_fault, classes_fault, cut_fault, check_fault, cap_fault, vectors_fault, loop_fault}
use Rattle.loop_build.specs.Build.{list_fault, room_fault, refusal, ring_header, insides_for, made, build_outcome}
use Rattle.loop_ask.specs.Places.{place_without}
use Rattle.loop_ask.specs.Questions.{pair_fault, place_answer, query_fault}
use Rattle.loop_triangles.specs.Triangles.{ring_outcome, triangulate_outcome, accepts_answer}
use Rattle.loop_relate.specs.Relations.{relate_fault, by_caps, by_states, relate_answer}

-- floats and vectors
unfoldable pub of_floats : ℕ
unfolding add sub mul div neg lt le eq of_bits abs root_of unit_vec unit axis_for orthogonal_to
of_floats = 0

-- sides, and a position in a triangle
unfoldable pub of_sides : ℕ
unfolding of_floats sign_of retest_of side_of fits edge_side fits_edges is_corner inside_or_edge
of_sides = 0

-- edges and their turn sum
unfoldable pub of_turns : ℕ
unfolding of_floats iterate size sum_of acute quadrant atan2 sine_of edge_normal turn_at turn_sum
of_turns = 0

-- a list judged and built, but for its cap and insides
unfoldable pub of_building : ℕ
unfolding of_turns first_of any_of flat vector_fault fault_of opened reversal normal_at class_by class_at all_both list_fault room_fault refusal ring_header made build_outcome
of_building = 0

-- a loop handed back and judged, its cap and insides too
unfoldable pub of_judging : ℕ
unfolding of_building shape_fault threes_of ring_fault classes_fault cut_fault check_fault cap_fault vectors_fault loop_fault query_fault pair_fault
of_judging = 0

unfoldable pub of_caps : ℕ
unfolding of_floats from_squared_length joined sum later_max grown bounding_cap intersects insides_for
of_caps = 0

-- a place, but for the crossings of a ring above three
unfoldable pub of_asking : ℕ
unfolding of_judging of_caps has_vertex sides in_triangle place_without place_answer
of_asking = 0

-- cutting and the checker
unfoldable pub of_cutting : ℕ
unfolding of_judging of_sides first_at blocks ear reclassify reclassify_both cut_at cutting cut_ring_outcome ring_outcome triangulate_outcome
of_cutting = 0

unfoldable pub of_checking : ℕ
unfolding of_cutting fits_at same_numbers accepts accepted accepts_answer
of_checking = 0

-- how two loops stand to each other, but for the edges of rings
unfoldable pub of_relating : ℕ
unfolding of_judging of_caps relate_fault by_caps by_states relate_answer
of_relating = 0
