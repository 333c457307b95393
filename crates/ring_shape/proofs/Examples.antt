-- The shapes of a square round the pole and of an hourglass of its corners, computed. Assumes nothing.
use mathlib.Core.Path.{◌≡◌, refl}
use mathlib.Core.Bool.{true, false}
use mathlib.Core.List.{List, [], ◌∷◌}
use lib.Ieee.{Float, of_bits, add, sub, mul, div, neg, lt, le, eq}
use Rattle.numbers.specs.F64 as F
use Rattle.numbers.specs.Near.{abs}
use Rattle.root.specs.Root.{root_of}
use Rattle.laws.specs.Loop.{any_of}
use Rattle.vec3.specs.Vec.{unit_vec, axis_for, orthogonal_to}
use Rattle.base.specs.Sides.{side_of, sign_of, retest_of}
use Rattle.minor_arc.specs.declared.Mode.TheVariants.{Plain}
use Rattle.minor_arc.specs.Arcs.{location_of, meeting_of, meeting_in, nearer}
use Rattle.ring_edges.specs.Edges.{edge_at}
use Rattle.ring_edges.proofs.Examples.{a, b, square, normals}
use Rattle.ring_shape.specs.Shapes.{side_at, any_side, convex, no_circle, any_without_circle, edges_meet, end_of, meets_later, any_meets_later, simple}

abbrev hourglass : List Float
hourglass = F.zero ∷ neg a ∷ b ∷ F.zero ∷ a ∷ b ∷ neg a ∷ F.zero ∷ b ∷ a ∷ F.zero ∷ b ∷ []

shapes : (convex square 4 ≡ true) × (simple Plain square (normals square) 4 ≡ true) × (convex hourglass 4 ≡ false) × (simple Plain hourglass (normals hourglass) 4 ≡ false)
unfolding normals convex any_side side_at simple any_without_circle no_circle any_meets_later meets_later edges_meet end_of
    any_of edge_at meeting_of meeting_in nearer location_of side_of sign_of retest_of orthogonal_to unit_vec axis_for abs root_of add sub mul div neg lt le eq of_bits
shapes = (refl, refl, refl, refl)
