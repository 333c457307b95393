-- A block of edges, whose candidates are worked out ahead of the tests: what the work arrays hold. Definitions only.
use Rattle.std.specs.Prelude.{ℕ, ◌+◌, List, Float}
use Rattle.laws.specs.Loop.{flat}
use Rattle.vec3.specs.declared.Vec3.{Vec3}
use Rattle.vec3.specs.Vec.{unit_vec, stable_cross, stable_unit, pos_at, raw_at, coords}

-- the product of a normal with that of edge i, and its unit vector: the candidate that `meeting_of` takes
unfoldable pub product_at : Vec3 → List Float → ℕ → Vec3
product_at u ns i = stable_cross u (pos_at ns i)

unfoldable pub candidate_at : Vec3 → List Float → ℕ → Vec3
candidate_at u ns i = stable_unit u (pos_at ns i)

-- those of k edges from `from` on
abbrev pub products : Vec3 → List Float → ℕ → ℕ → List Float
products u ns from k = flat (λ j. coords (product_at u ns (from + j))) k 0

abbrev pub candidates : Vec3 → List Float → ℕ → ℕ → List Float
candidates u ns from k = flat (λ j. coords (candidate_at u ns (from + j))) k 0

-- the unit vector of the vector numbered j, and of k of them
unfoldable pub unit_at : List Float → ℕ → Vec3
unit_at l j = unit_vec (raw_at l j).x (raw_at l j).y (raw_at l j).z

abbrev pub units : List Float → ℕ → List Float
units l k = flat (λ j. coords (unit_at l j)) k 0
