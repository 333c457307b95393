-- SCOPE 25: refusals 3 and 4, as numbers, 0 for none: a component that is NaN or infinite, a squared norm outside 1 - 2^-40 to 1 + 2^-40 (SCOPE 10).
-- SCOPE 26: positions go one by one, 3 before 4 for each. Definitions only.
use Rattle.std.specs.Prelude.{ℕ, Bool, ◌&&◌, cond, List, ltb, Float, if◌then◌else◌}
use Rattle.std.specs.Float.{binary64}
use Rattle.std.specs.Float.Ieee.{of_bits, le}
use Rattle.numbers.specs.Finite.{finite}
use Rattle.vec3.specs.declared.Vec3.{Vec3}
use Rattle.vec3.specs.Vec.{dot, pos_at}
use Rattle.laws.specs.Loop.{first_of, first_at}

abbrev pub finite_vec : Vec3 → Bool
finite_vec v = (finite v.x && finite v.y) && finite v.z

-- the ends of the range of a squared norm: 1 - 2^-40 and 1 + 2^-40
abbrev pub least : Float
least = of_bits binary64 0x3fef_ffff_ffff_e000

abbrev pub greatest : Float
greatest = of_bits binary64 0x3ff0_0000_0000_1000

-- the squared norm as the rounded float sum, both ends included
abbrev pub in_range : Float → Bool
in_range d = le least d && le d greatest

abbrev pub within_range : Vec3 → Bool
within_range p = in_range (dot p p)

-- what a vector gives that is finite, else 3
unfoldable pub vector_fault : Vec3 → ℕ → ℕ
vector_fault v k = if finite_vec v then k else 3

unfoldable pub fault_of : Vec3 → ℕ
fault_of p = vector_fault p (if within_range p then 0 else 4)

-- the first of n positions, or of n normals, that has one
abbrev pub position_fault : List Float → ℕ → ℕ
position_fault l i = fault_of (pos_at l i)

abbrev pub normal_fault : List Float → ℕ → ℕ
normal_fault l i = vector_fault (pos_at l i) 0

-- SCOPE 46: the index of the first of n positions that is refused, counted from 0; n where none is
abbrev pub is_refused : List Float → ℕ → Bool
is_refused l i = ltb 0 (position_fault l i)

unfoldable pub first_refused : List Float → ℕ → ℕ
first_refused l n = first_at (is_refused l) n 0

-- what the position at an index below n is refused for, 0 where there is none: `positions_fault` is that of the first that is refused (specs/Why: follows)
abbrev pub fault_below : List Float → ℕ → ℕ → ℕ
fault_below l n i = cond (ltb i n) (position_fault l i) 0

abbrev pub positions_fault : List Float → ℕ → ℕ
positions_fault l n = first_of (position_fault l) n 0

abbrev pub vectors_fault : List Float → ℕ → ℕ
vectors_fault l n = first_of (normal_fault l) n 0
