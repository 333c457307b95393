-- The crossings of a square round the pole, computed. Assumes nothing.
use mathlib.Core.Path.{◌≡◌, refl}
use mathlib.Core.Bool.{true, false}
use lib.Ieee.{of_bits, add, sub, mul, div, neg, lt, le, eq}
use Rattle.numbers.specs.Near.{abs}
use Rattle.root.specs.Root.{root_of}
use Rattle.laws.specs.Loop.{iterate}
use Rattle.vec3.specs.Vec.{axis_x, axis_z, unit_vec, axis_for, orthogonal_to}
use Rattle.base.specs.Sides.{side_of, sign_of, retest_of}
use Rattle.minor_arc.specs.declared.Mode.TheVariants.{Plain}
use Rattle.minor_arc.specs.Arcs.{arc_of, location_of, meeting_of, meeting_in, nearer}
use Rattle.ring_edges.specs.Edges.{edge_at}
use Rattle.ring_edges.proofs.Examples.{square, normals, near_pole}
use Rattle.ring_place.specs.Places.{met_at, crossed_evenly}

-- from the pole: to a place inside, and through a corner, which two edges share, to one outside
crossings : (crossed_evenly Plain (arc_of axis_z near_pole) square (normals square) 4 ≡ true) × (crossed_evenly Plain (arc_of axis_z axis_x) square (normals square) 4 ≡ false)
unfolding normals crossed_evenly iterate met_at edge_at meeting_of meeting_in nearer location_of side_of sign_of retest_of orthogonal_to unit_vec axis_for abs root_of add sub mul div neg lt le eq of_bits
crossings = (refl, refl)
