-- The mirror law of the side test (SCOPE 5): the opposite of a vector is on the mirrored side, unless a NaN decides. Proved in proofs/Mirror.antt. Definitions only.
use Rattle.std.specs.Prelude.{◌≡◌, Bool, true, false, Float, if◌then◌else◌}
use Rattle.std.specs.Float.{nan, inf, fin}
use Rattle.std.specs.Float.Ieee.{le}
use Rattle.numbers.specs.F64.{ten_epsilon}
use Rattle.numbers.specs.Near.{abs}
use Rattle.vec3.specs.declared.Vec3.{Vec3}
use Rattle.vec3.specs.Vec.{dot, cross, opposite, orthogonal_to}
use Rattle.base.specs.declared.Side.{Side}
use Rattle.base.specs.declared.Side.TheVariants.{Left, Right, Collinear}
use Rattle.base.specs.Sides.{side_of}
use Rattle.signs.specs.Signs.{UnsignedVec}

-- left and right exchanged
abbrev pub mirror : Side → Side
mirror Left = Right
mirror Right = Left
mirror Collinear = Collinear

-- not NaN
abbrev pub is_number : Float → Bool
is_number nan = false
is_number (inf s) = true
is_number (fin s m e) = true

-- a vector as it is stored: SCOPE 3 makes each component free of -0.0
abbrev pub Stored : Vec3 → Type 0
Stored v = UnsignedVec v

-- SCOPE 5: the product that decides v0's side, the first or, where that is small, the second
unfoldable pub deciding : Vec3 → Vec3 → Vec3 → Float
deciding v0 v1 v2 =
    let t = dot v0 (cross v1 v2) in
    if le (abs t) ten_epsilon then dot v0 (orthogonal_to v1 v2) else t

-- of a vector as it is stored and its opposite, whatever the floats
pub record Mirrored (v u w : Vec3) : Type 0 where
  pub by_number : is_number (deciding v u w) ≡ true → side_of (opposite v) u w ≡ mirror (side_of v u w)
  pub by_nan : is_number (deciding v u w) ≡ false → (side_of v u w ≡ Right) × (side_of (opposite v) u w ≡ Right)
  -- NaN decides for right, so what is not right needs no condition
  pub left : side_of v u w ≡ Left → side_of (opposite v) u w ≡ Right
  pub collinear : side_of v u w ≡ Collinear → side_of (opposite v) u w ≡ Collinear

abbrev pub MirrorLaw : Type 0
MirrorLaw = (v u w : Vec3) → Stored v → Mirrored v u w
