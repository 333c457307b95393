-- SCOPE 37: the loop of four corners, all convex, is cut into (3,0,1), (1,2,3), while (0,1,2), (0,2,3) is accepted too and (0,1,3), (1,2,3) is not.
-- By computation. Assumes nothing.
use Prim.Native.Nat.{ℕ}
use mathlib.Core.Path.{◌≡◌, refl}
use mathlib.Core.Bool.{true, false}
use mathlib.Core.List.{List, [], ◌∷◌}
use lib.Ieee.{Float, binary64, of_bits, add, sub, mul, div, neg, lt, le, eq}
use Rattle.laws.specs.Loop.{first_at, any_of, flat}
use Rattle.root.specs.Root.{root_of}
use Rattle.numbers.specs.Near.{abs}
use Rattle.vec3.specs.Vec.{unit_vec, axis_for, orthogonal_to}
use Rattle.base.specs.Sides.{sign_of, retest_of, side_of}
use Rattle.ring_triangle.specs.Inside.{fits, edge_side, fits_edges, is_corner, inside_or_edge}
use Rattle.ring_ears.specs.Ears.{blocks, ear, reclassify, reclassify_both, cut_at}
use Rattle.ring_cut.specs.Cut.{cutting, cutting_of}
use Rattle.ring_check.specs.Accepted.{fits_at, same_numbers, accepts, accepted}

abbrev pub none : Float
none = of_bits binary64 0

abbrev pub six_tenths : Float
six_tenths = of_bits binary64 0x3fe3333333333333

abbrev pub minus_six_tenths : Float
minus_six_tenths = of_bits binary64 0xbfe3333333333333

abbrev pub eight_tenths : Float
eight_tenths = of_bits binary64 0x3fe999999999999a

abbrev pub four : List Float
four = none ∷ minus_six_tenths ∷ eight_tenths ∷ minus_six_tenths ∷ none ∷ eight_tenths ∷ none ∷ six_tenths ∷ eight_tenths ∷ six_tenths ∷ none ∷ eight_tenths ∷ []

abbrev pub convex : List ℕ
convex = 0 ∷ 0 ∷ 0 ∷ 0 ∷ []

pub cut_four : cutting_of four convex ≡ record { triangles = 3 ∷ 0 ∷ 1 ∷ 1 ∷ 2 ∷ 3 ∷ []; stuck = false }
unfolding cutting first_at any_of flat blocks ear reclassify reclassify_both cut_at inside_or_edge
    is_corner fits_edges edge_side fits side_of sign_of retest_of orthogonal_to unit_vec axis_for abs root_of add sub mul div neg lt le eq of_bits
cut_four = refl

pub also_accepted : (accepted four convex (3 ∷ 0 ∷ 1 ∷ 1 ∷ 2 ∷ 3 ∷ []) ≡ true) × (accepted four convex (0 ∷ 1 ∷ 2 ∷ 0 ∷ 2 ∷ 3 ∷ []) ≡ true)
unfolding accepted accepts fits_at same_numbers first_at any_of flat blocks ear reclassify reclassify_both cut_at inside_or_edge
    is_corner fits_edges edge_side fits side_of sign_of retest_of orthogonal_to unit_vec axis_for abs root_of add sub mul div neg lt le eq of_bits
also_accepted = (refl, refl)

-- (3,0,1) rotated either way, the last triple rotated, a triple too few, and a number outside the ring
pub rejected : (accepted four convex (0 ∷ 1 ∷ 3 ∷ 1 ∷ 2 ∷ 3 ∷ []) ≡ false) × (accepted four convex (1 ∷ 3 ∷ 0 ∷ 1 ∷ 2 ∷ 3 ∷ []) ≡ false)
    × (accepted four convex (3 ∷ 0 ∷ 1 ∷ 2 ∷ 3 ∷ 1 ∷ []) ≡ false) × (accepted four convex (0 ∷ 1 ∷ 2 ∷ []) ≡ false) × (accepted four convex (0 ∷ 1 ∷ 9 ∷ 1 ∷ 2 ∷ 3 ∷ []) ≡ false)
unfolding accepted accepts fits_at same_numbers first_at any_of flat blocks ear reclassify reclassify_both cut_at inside_or_edge
    is_corner fits_edges edge_side fits side_of sign_of retest_of orthogonal_to unit_vec axis_for abs root_of add sub mul div neg lt le eq of_bits
rejected = (refl, refl, refl, refl, refl)
