-- SCOPE 51: the arcsine, and the radians of a squared chord. Definitions only.
use Rattle.std.specs.Prelude.{Float, if◌then◌else◌}
use Rattle.std.specs.Float.Ieee.{lt}
use Rattle.numbers.specs.F64.{◌⊕◌, ◌⊖◌, ◌⊗◌, zero, half, one, two, minus_one}
use Rattle.root.specs.Root.{root_of}
use Rattle.angle.specs.Arctan.{atan2}

-- the angle whose sine is u: its cosine is the root of (1 - u)(1 + u)
unfoldable pub arcsine : Float → Float
arcsine u = atan2 u (root_of ((one ⊖ u) ⊗ (one ⊕ u)))

-- half a chord is the sine of half its angle
unfoldable pub radians : Float → Float
radians c = if lt c zero then minus_one else two ⊗ arcsine (root_of c ⊗ half)
