-- SCOPE 3: points that may be absent. Definitions only.
use Rattle.std.specs.Prelude.{◌||◌, Option, None, Some, if◌then◌else◌}
use Rattle.numbers.specs.F64.{◌⊕◌}
use Rattle.vec3.specs.declared.Vec3.{Vec3}
use Rattle.vec3.specs.Vec.{same, origin, antipodes, mean3, unit_vec}

-- the mean of a triangle's corners: none where two are antipodes
unfoldable pub triangle_mean : Vec3 → Vec3 → Vec3 → Option Vec3
triangle_mean a b c = if (antipodes a b || antipodes a c) || antipodes b c then None else Some (mean3 a b c)

-- the unit vector of start plus end
abbrev pub sum_unit : Vec3 → Vec3 → Vec3
sum_unit a b = unit_vec (a.x ⊕ b.x) (a.y ⊕ b.y) (a.z ⊕ b.z)

-- SCOPE 3: no midpoint where the ends are antipodes, or where the unit vector of their sum is zero
unfoldable pub midpoint : Vec3 → Vec3 → Option Vec3
midpoint a b = if antipodes a b || same (sum_unit a b) origin then None else Some (sum_unit a b)
