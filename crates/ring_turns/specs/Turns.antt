-- The edges of the n positions of an opened list, and their turns. Definitions only.
use Rattle.std.specs.Prelude.{ℕ, ◌+◌, ◌%◌, List, Float}
use Rattle.laws.specs.Loop.{iterate, flat}
use Rattle.vec3.specs.declared.Vec3.{Vec3}
use Rattle.vec3.specs.Vec.{orthogonal_to, pos_at, coords}
use Rattle.angle.specs.declared.Angle.{Angle}
use Rattle.angle.specs.Angles.{none, plus}
use Rattle.base.specs.Turns.{turning_angle}

-- the normal of the edge from position i to the next, counted round
unfoldable pub edge_normal : List Float → ℕ → ℕ → Vec3
edge_normal l n i = orthogonal_to (pos_at l i) (pos_at l ((i + 1) % n))

abbrev pub edge_normals : List Float → ℕ → List Float
edge_normals l n = flat (λ i. coords (edge_normal l n i)) n 0

-- SCOPE 6: the turn from edge i to the next edge, and the sum of all, the first edge's turn first
unfoldable pub turn_at : List Float → ℕ → ℕ → Angle
turn_at l n i = turning_angle (edge_normal l n i) (edge_normal l n ((i + 1) % n)) (pos_at l ((i + 1) % n))

abbrev pub plus_turn : List Float → ℕ → ℕ → Angle → Angle
plus_turn l n i a = plus a (turn_at l n i)

unfoldable pub turn_sum : List Float → ℕ → Angle
turn_sum l n = iterate (plus_turn l n) n 0 none
