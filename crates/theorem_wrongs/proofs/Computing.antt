-- What the wrong programs of rings above three are computed with, beside theorem_settled/proofs/Computing and theorem_modes/proofs/Computing. Assumes nothing.
use Prim.Native.Nat.{ℕ}
use Rattle.vec3.specs.Points.{triangle_mean}
use Rattle.ring_insides.specs.Insides.{with_means}
use Rattle.ring_place.specs.Places.{met_at, crossed_evenly, from, inside_by}
use Rattle.theorem_settled.proofs.Computing as Computing
use Rattle.theorem_modes.proofs.Computing.{of_arcs}

-- a place in a ring above three: its insides, and the crossings
unfoldable pub of_places : ℕ
unfolding of_arcs Computing.of_asking Computing.of_cutting triangle_mean with_means from met_at crossed_evenly inside_by
of_places = 0
