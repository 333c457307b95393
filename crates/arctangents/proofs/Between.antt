-- The arctangent in three goes is the arctangent. Assumes nothing.
use mathlib.Core.Path.{◌≡◌, refl, ap}
use mathlib.Core.Bool.{Bool, true, false, cond}
use lib.Ieee.{Float, lt}
use Rattle.numbers.specs.F64.{◌⊖◌, ◌⊘◌}
use Rattle.angle.specs.Arctan as Arctan
use Rattle.angle.specs.Arctan.{FRAC_PI_2, minus, acute, quadrant, turned, signed, atan2}
use Rattle.angle.specs.declared.Angle.{Angle}
use Rattle.angle.specs.Angles.{between}
use Rattle.arctangents.specs.Arctangents.{proportion, quadrant_by, angle_by}

chosen : (p q : Bool) (a b z : Float) → cond p (acute (cond p a b ⊘ cond p b a)) (cond q (FRAC_PI_2 ⊖ acute (cond p a b ⊘ cond p b a)) z) ≡ cond p (acute (a ⊘ b)) (cond q (FRAC_PI_2 ⊖ acute (b ⊘ a)) z)
chosen true q a b z = refl
chosen false q a b z = refl

abbrev turned_of : Float → Float → Float → Angle
turned_of y x r = record { 0 = signed (minus y) (turned (minus x) r) }

pub between_by : (y x : Float) → angle_by y x (acute (proportion y x)) ≡ between y x
unfolding proportion quadrant_by atan2 quadrant
between_by y x = ap (λ (r : Float). turned_of y x r) (chosen (lt (Arctan.size y) (Arctan.size x)) (lt (Arctan.size x) (Arctan.size y)) (Arctan.size y) (Arctan.size x) _)
