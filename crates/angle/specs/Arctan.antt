-- SCOPE 6: the arctangent of two arguments, our own, over the float operations. How near it is to the exact angle is SCOPE 43 (`exact_angles`). Definitions only.
-- For 0 ≤ t ≤ 1 it is Euler's series: atan t = t / (1 + t²) * Σ cₖ yᵏ with y = t² / (1 + t²), cₖ = 2/3 * 4/5 * .. * 2k/(2k+1), summed to k = 48.
use Rattle.std.specs.Prelude.{Bool, cond, ◌||◌, List, [], ◌∷◌, Float}
use Rattle.std.specs.Float.{binary64}
use Rattle.std.specs.Float.Ieee.{of_bits, neg, lt, eq}
use Rattle.numbers.specs.F64.{◌⊕◌, ◌⊖◌, ◌⊗◌, ◌⊘◌, zero, one}

-- π/4, π/2, π, each the nearest
abbrev pub FRAC_PI_4 : Float
FRAC_PI_4 = of_bits binary64 0x3fe921fb54442d18

abbrev pub FRAC_PI_2 : Float
FRAC_PI_2 = of_bits binary64 0x3ff921fb54442d18

abbrev pub PI : Float
PI = of_bits binary64 0x400921fb54442d18

-- whether the sign is minus, of a zero too
abbrev pub minus : Float → Bool
minus x = lt x zero || lt (one ⊘ x) zero

unfoldable pub size : Float → Float
size x = cond (minus x) (neg x) x

-- c₀, c₁, .. c₄₈, each the nearest
abbrev pub coefs : List Float
coefs =
    of_bits binary64 0x3ff0000000000000 ∷
    of_bits binary64 0x3fe5555555555555 ∷
    of_bits binary64 0x3fe1111111111111 ∷
    of_bits binary64 0x3fdd41d41d41d41d ∷
    of_bits binary64 0x3fda01a01a01a01a ∷
    of_bits binary64 0x3fd7a463005e918c ∷
    of_bits binary64 0x3fd5d2d18a2fe8d0 ∷
    of_bits binary64 0x3fd45e5d2ba42ea0 ∷
    of_bits binary64 0x3fd32ba2fbe5d188 ∷
    of_bits binary64 0x3fd2295709965ab6 ∷
    of_bits binary64 0x3fd14bf15e76d04c ∷
    of_bits binary64 0x3fd08b6c709e2b6a ∷
    of_bits binary64 0x3fcfc403679615eb ∷
    of_bits binary64 0x3fce96d3df024dfe ∷
    of_bits binary64 0x3fcd88cc90b2c6e4 ∷
    of_bits binary64 0x3fcc94e6ffa4c079 ∷
    of_bits binary64 0x3fcbb72d930c5d8d ∷
    of_bits binary64 0x3fcaec756a4686c4 ∷
    of_bits binary64 0x3fca322d0d750d80 ∷
    of_bits binary64 0x3fc98639068c4ecb ∷
    of_bits binary64 0x3fc8e6d9f9e68b50 ∷
    of_bits binary64 0x3fc852995f407042 ∷
    of_bits binary64 0x3fc7c83af10bce7a ∷
    of_bits binary64 0x3fc746b1846d990f ∷
    of_bits binary64 0x3fc6cd166260e987 ∷
    of_bits binary64 0x3fc65aa27e913543 ∷
    of_bits binary64 0x3fc5eea916bec52a ∷
    of_bits binary64 0x3fc5889365757bc3 ∷
    of_bits binary64 0x3fc527dd294b0054 ∷
    of_bits binary64 0x3fc4cc11d1d03d11 ∷
    of_bits binary64 0x3fc474ca2ee60150 ∷
    of_bits binary64 0x3fc421aa878d055b ∷
    of_bits binary64 0x3fc3d261037f0936 ∷
    of_bits binary64 0x3fc386a45780f5f8 ∷
    of_bits binary64 0x3fc33e32a7dbd86f ∷
    of_bits binary64 0x3fc2f8d09712706d ∷
    of_bits binary64 0x3fc2b64878f29ffb ∷
    of_bits binary64 0x3fc27669a3b55cff ∷
    of_bits binary64 0x3fc23907da1a12a5 ∷
    of_bits binary64 0x3fc1fdfaca6108b0 ∷
    of_bits binary64 0x3fc1c51d9ecb4af3 ∷
    of_bits binary64 0x3fc18e4e9ce184a6 ∷
    of_bits binary64 0x3fc1596ed13f3dd2 ∷
    of_bits binary64 0x3fc12661c603a9fb ∷
    of_bits binary64 0x3fc0f50d4259ea3b ∷
    of_bits binary64 0x3fc0c55911cc447e ∷
    of_bits binary64 0x3fc0972ed24b728d ∷
    of_bits binary64 0x3fc06a79c7ff335d ∷
    of_bits binary64 0x3fc03f26b61999c3 ∷ []

-- (c₀ + y c₁) + w ((c₂ + y c₃) + w ..), for w = y²
abbrev pub pairs : Float → Float → List Float → Float
pairs y w [] = zero
pairs y w (c ∷ []) = c
pairs y w (c ∷ d ∷ cs) = (c ⊕ y ⊗ d) ⊕ w ⊗ pairs y w cs

unfoldable pub sum_of : Float → Float
sum_of y = pairs y (y ⊗ y) coefs

unfoldable pub acute : Float → Float
acute t = (t ⊘ (one ⊕ t ⊗ t)) ⊗ sum_of ((t ⊗ t) ⊘ (one ⊕ t ⊗ t))

-- the angle of (b, a) in the first quadrant; a NaN stays, but for a b beside an a of 0
unfoldable pub quadrant : Float → Float → Float
quadrant a b =
    cond (lt a b) (acute (a ⊘ b))
    (cond (lt b a) (FRAC_PI_2 ⊖ acute (b ⊘ a))
    (cond (eq a zero) zero
    (cond (eq a b) FRAC_PI_4 (a ⊕ b))))

abbrev pub turned : Bool → Float → Float
turned back r = cond back (PI ⊖ r) r

abbrev pub signed : Bool → Float → Float
signed down r = cond down (neg r) r

unfoldable pub atan2 : Float → Float → Float
atan2 y x = signed (minus y) (turned (minus x) (quadrant (size y) (size x)))
