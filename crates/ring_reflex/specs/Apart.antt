-- The corners left that are not convex, by ring number: no other can block an ear. A triangle's edge from its last corner to its first, which most corners
-- are beyond. The faster forms of `Ears` are stated by these. Definitions only.
use Rattle.std.specs.Prelude.{ℕ, ◌+◌, Bool, true, false, List, [], ◌∷◌, length, get_or, eqb, Float}
use Rattle.laws.specs.Loop.{any_of}
use Rattle.vec3.specs.declared.Vec3.{Vec3}
use Rattle.vec3.specs.Vec.{cross}
use Rattle.ring_triangle.specs.Inside.{is_right, inside_or_edge}
use Rattle.ring_ears.specs.declared.Triangle.{Triangle}
use Rattle.ring_ears.specs.Ears.{corner, turn_of}

abbrev pub keep_if : Bool → ℕ → List ℕ → List ℕ
keep_if true k l = l
keep_if false k l = k ∷ l

-- so many with it
abbrev pub past_if : Bool → ℕ → ℕ
past_if true k = k
past_if false k = k + 1

-- the numbers of those that are not convex, in order
unfoldable pub apart_of : List ℕ → List ℕ → List ℕ
apart_of [] classes = []
apart_of (k ∷ ids) classes = keep_if (eqb (get_or classes k 0) 0) k (apart_of ids classes)

-- the corner at index j of a list of numbers is inside the triangle or on an edge of it
unfoldable pub holds : List Float → List ℕ → Triangle → ℕ → Bool
holds ps ids t j = inside_or_edge (corner ps ids j) t.previous t.this t.next

abbrev pub held : List Float → List ℕ → Triangle → Bool
held ps ids t = any_of (holds ps ids t) (length ids) 0

-- the normal of the edge from u to v, whose ends are exchanged where the triangle is clockwise
abbrev pub normal_if : Bool → Vec3 → Vec3 → Vec3
normal_if true u v = cross v u
normal_if false u v = cross u v

unfoldable pub far_normal : Triangle → Vec3
far_normal t = normal_if (is_right (turn_of t)) t.next t.previous
