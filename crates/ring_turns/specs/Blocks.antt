-- The turn sum block by block, and the edges' normals in two goes: what the work arrays hold. Definitions only.
use Rattle.std.specs.Prelude.{ℕ, ◌+◌, ◌%◌, List, [], ◌∷◌, Float, if◌then◌else◌}
use Rattle.laws.specs.Loop.{flat}
use Rattle.vec3.specs.declared.Vec3.{Vec3}
use Rattle.vec3.specs.Vec.{dot, same, origin, unit_vec, stable_cross, orthogonal, pos_at, coords}
use Rattle.base.specs.Turns.{sine_of}
use Rattle.angle.specs.Arctan.{acute}
use Rattle.arctangents.specs.Arctangents.{proportion}
use Rattle.ring_turns.specs.Turns.{edge_normal}

-- the product of which the normal of edge i is the unit vector, and those of all edges
unfoldable pub product_at : List Float → ℕ → ℕ → Vec3
product_at l n i = stable_cross (pos_at l i) (pos_at l ((i + 1) % n))

abbrev pub products : List Float → ℕ → List Float
products l n = flat (λ i. coords (product_at l n i)) n 0

-- the normal out of the product p of an edge from u: as `orthogonal_to` has it
unfoldable pub normal_of : Vec3 → Vec3 → Vec3
normal_of u p =
    let r = unit_vec p.x p.y p.z in
    if same r origin then orthogonal u else r

-- the sine of the turn from edge i to the next, which `turn_at` takes, and those of k edges from `from` on
unfoldable pub sine_at : List Float → ℕ → ℕ → Float
sine_at l n i = sine_of (edge_normal l n i) (edge_normal l n ((i + 1) % n)) (pos_at l ((i + 1) % n))

abbrev pub row : (ℕ → Float) → ℕ → ℕ → List Float
row f from k = flat (λ j. f (from + j) ∷ []) k 0

abbrev pub sines : List Float → ℕ → ℕ → ℕ → List Float
sines l n from k = row (sine_at l n) from k

-- its cosine
unfoldable pub cosine_at : List Float → ℕ → ℕ → Float
cosine_at l n i = dot (edge_normal l n i) (edge_normal l n ((i + 1) % n))

-- the proportion of edge i, and its arctangent
unfoldable pub proportion_at : List Float → ℕ → ℕ → Float
proportion_at l n i = proportion (sine_at l n i) (cosine_at l n i)

unfoldable pub acute_at : List Float → ℕ → ℕ → Float
acute_at l n i = acute (proportion_at l n i)
