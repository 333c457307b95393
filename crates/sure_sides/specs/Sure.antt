-- Tests ahead of any root, by which a position's foot on the great circle of an arc is surely off the arc. Definitions only.
use Rattle.std.specs.Prelude.{◌≡◌, Bool, false, ◌&&◌, ◌||◌, Float}
use Rattle.std.specs.Float.{binary64}
use Rattle.std.specs.Float.Ieee.{of_bits, neg, lt, le}
use Rattle.numbers.specs.F64.{half, two}
use Rattle.numbers.specs.Near.{abs}
use Rattle.vec3.specs.declared.Vec3.{Vec3}
use Rattle.vec3.specs.Vec.{origin, same, dot, stable_cross, stable_unit, orthogonal_to}
use Rattle.minor_arc.specs.declared.MinorArc.{MinorArc}
use Rattle.minor_arc.specs.declared.Location.TheVariants.{Exterior}
use Rattle.minor_arc.specs.Arcs.{location_of}

-- 2^-35: a product beyond it settles its side after the root too
abbrev pub limit : Float
limit = of_bits binary64 0x3dc0_0000_0000_0000

-- 2^-30: an end beyond it is off the great circle through the position and the pole
abbrev pub margin : Float
margin = of_bits binary64 0x3e10_0000_0000_0000

-- 2^-36: how far a normal may be from across an end
abbrev pub slack : Float
slack = of_bits binary64 0x3db0_0000_0000_0000

-- 2^-23: a product beyond it before the root is beyond `margin` after it
abbrev pub wide : Float
wide = of_bits binary64 0x3e80_0000_0000_0000

-- no component is above 2 in size
abbrev pub tame : Vec3 → Bool
tame v = le (abs v.x) two && le (abs v.y) two && le (abs v.z) two

-- the normal is across both ends, up to 2^-36, and not too short
abbrev pub upright : MinorArc → Bool
upright a = lt half (dot a.normal a.normal) && (le (abs (dot a.normal a.start)) slack && le (abs (dot a.normal a.end)) slack)

-- p is before the start or after the end, by the product of p and the normal as it comes
unfoldable pub beyond : MinorArc → Vec3 → Bool
beyond a p =
    let r = stable_cross p a.normal in
    lt (dot r a.start) (neg wide) || lt wide (dot r a.end)

-- all of it
abbrev pub surely : MinorArc → Vec3 → Bool
surely a p = tame a.normal && upright a && beyond a p

-- what that says: p is no pole of the arc, and its foot on the great circle is off the arc
pub record Off (a : MinorArc) (p : Vec3) : Type 0 where
  pub whole : same (stable_unit p a.normal) origin ≡ false
  pub off : location_of a (orthogonal_to a.normal (stable_unit p a.normal)) ≡ Exterior
