-- The definitions computed: a square round the pole, walked clockwise. Assumes nothing.
use Prim.Native.Nat.{◌+◌, ◌%◌}
use mathlib.Core.Path.{◌≡◌, refl}
use mathlib.Core.Bool.{true, false}
use mathlib.Core.List.{List, [], ◌∷◌}
use lib.Ieee.{Float, binary64, of_bits, add, sub, mul, div, neg, lt, le, eq}
use Rattle.numbers.specs.F64 as F
use Rattle.numbers.specs.Near.{abs}
use Rattle.root.specs.Root.{root_of}
use Rattle.laws.specs.Loop.{any_of, flat}
use Rattle.vec3.specs.declared.Vec3.{Vec3}
use Rattle.vec3.specs.Vec.{unit_vec, axis_for, orthogonal_to, pos_at, coords}
use Rattle.base.specs.Sides.{side_of, sign_of, retest_of}
use Rattle.minor_arc.specs.Arcs.{location_of, on_arc}
use Rattle.ring_edges.specs.Edges.{edge_at, on_edge, has_vertex}

-- 0.6, 0.8, 0.28 and 0.96
abbrev pub a : Float
a = of_bits binary64 0x3fe3_3333_3333_3333

abbrev pub b : Float
b = of_bits binary64 0x3fe9_9999_9999_999a

abbrev pub square : List Float
square = F.zero ∷ neg a ∷ b ∷ neg a ∷ F.zero ∷ b ∷ F.zero ∷ a ∷ b ∷ a ∷ F.zero ∷ b ∷ []

unfoldable pub normals : List Float → List Float
unfolding flat
normals l = flat (λ i. coords (orthogonal_to (pos_at l i) (pos_at l ((i + 1) % 4)))) 4 0

-- (0.28, 0, 0.96), and the corner (0.6, 0, 0.8)
abbrev pub near_pole : Vec3
near_pole = record { x = of_bits binary64 0x3fd1_eb85_1eb8_51ec; y = F.zero; z = of_bits binary64 0x3fee_b851_eb85_1eb8 }

abbrev corner : Vec3
corner = record { x = a; y = F.zero; z = b }

on_edges : (on_edge square (normals square) 4 corner ≡ true) × (on_edge square (normals square) 4 near_pole ≡ false) × (has_vertex square 4 corner ≡ true)
unfolding normals on_edge has_vertex any_of edge_at on_arc location_of side_of sign_of retest_of orthogonal_to unit_vec axis_for abs root_of add sub mul div neg lt le eq of_bits
on_edges = (refl, refl, refl)
