-- The arctangent (SCOPE 6) in three goes, for many at once. Definitions only; that together they are `between` is proofs/Between.
use Rattle.std.specs.Prelude.{ℕ, cond, List, [], ◌∷◌, get_or, Float}
use Rattle.std.specs.Float.{nan}
use Rattle.std.specs.Float.Ieee.{lt, eq}
use Rattle.numbers.specs.F64.{◌⊕◌, ◌⊖◌, ◌⊘◌, zero}
use Rattle.angle.specs.declared.Angle.{Angle}
use Rattle.angle.specs.Arctan.{FRAC_PI_2, FRAC_PI_4, minus, size, acute, turned, signed}
use Rattle.laws.specs.Loop.{flat}

-- the arctangent in three goes, as `quadrant` and `atan2` have it: the t from 0 to 1 that the series takes, the series of many at once, and the angle out of its value u
unfoldable pub proportion : Float → Float → Float
proportion y x =
    let a = size y in
    let b = size x in
    cond (lt a b) a b ⊘ cond (lt a b) b a

abbrev pub acutes : List Float → ℕ → List Float
acutes l k = flat (λ j. acute (get_or l j nan) ∷ []) k 0

unfoldable pub quadrant_by : Float → Float → Float → Float
quadrant_by a b u =
    cond (lt a b) u
    (cond (lt b a) (FRAC_PI_2 ⊖ u)
    (cond (eq a zero) zero
    (cond (eq a b) FRAC_PI_4 (a ⊕ b))))

abbrev pub angle_by : Float → Float → Float → Angle
angle_by y x u = record { 0 = signed (minus y) (turned (minus x) (quadrant_by (size y) (size x) u)) }
