-- SCOPE 16, 17, 41: ears of what is left of a ring, and one cut. An eligible ear is convex, and no corner of another class is inside its triangle or on an edge of
-- it. After a cut the two neighbours alone are classed afresh, by the side test (SCOPE 5), and only if more than three are left.
-- `ids` are the ring numbers left, in order; `classes` are by ring number: 0 convex, 1 reflex, 2 both. Definitions only.
use Rattle.std.specs.Prelude.{ℕ, ◌-◌, ◌+◌, ◌*◌, ◌%◌, ◌≤◌, ◌<◌, ◌≡◌, Bool, true, false, not, ◌&&◌, cond, List, ◌++◌, length, get_or, set, drop, eqb, ltb, Float}
use Rattle.laws.specs.Loop.{any_of}
use Rattle.ring_theory.specs.Ring.{Below, prev, next, without}
use Rattle.vec3.specs.declared.Vec3.{Vec3}
use Rattle.vec3.specs.Vec.{pos_at}
use Rattle.base.specs.declared.Side.{Side}
use Rattle.base.specs.declared.Side.TheVariants.{Left, Right, Collinear}
use Rattle.base.specs.Sides.{side_of}
use Rattle.ring_ears.specs.declared.Triangle.{Triangle}
use Rattle.ring_triangle.specs.Inside.{inside_or_edge}

-- what the inner functions are lent: positions and classes of one ring, at most 512, and ring numbers of it
pub record Lent (ps : List Float) (ids classes : List ℕ) : Type 0 where
  pub below : Below (length classes) ids
  pub whole : length ps ≡ 3 * length classes
  pub most : length classes ≤ 512
  pub few : length ids ≤ 512

-- each number has its position
abbrev pub Indexed : List Float → List ℕ → Type 0
Indexed ps ids = (j : ℕ) → j < length ids → 3 * get_or ids j 0 + 2 < length ps

-- the corner at index i, and whether it is convex
abbrev pub corner : List Float → List ℕ → ℕ → Vec3
corner ps ids i = pos_at ps (get_or ids i 0)

abbrev pub convex : List ℕ → List ℕ → ℕ → Bool
convex ids classes i = eqb (get_or classes (get_or ids i 0) 0) 0

-- the triangle at index i: previous, this, next
abbrev pub triangle_at : List Float → List ℕ → ℕ → Triangle
triangle_at ps ids i = record { previous = corner ps ids (prev ids i); this = corner ps ids i; next = corner ps ids (next ids i) }

-- a corner that is convex is passed over
abbrev pub blocks_if : Bool → Vec3 → Triangle → Bool
blocks_if true p t = false
blocks_if false p t = inside_or_edge p t.previous t.this t.next

-- the corner at index j is of another class, and inside or on an edge of the triangle
unfoldable pub blocks : List Float → List ℕ → List ℕ → Triangle → ℕ → Bool
blocks ps ids classes t j = blocks_if (convex ids classes j) (corner ps ids j) t

-- one corner of the ring left is
abbrev pub blocked : List Float → List ℕ → List ℕ → Triangle → Bool
blocked ps ids classes t = any_of (blocks ps ids classes t) (length ids) 0

-- index i is an eligible ear
unfoldable pub ear : List Float → List ℕ → List ℕ → ℕ → Bool
ear ps ids classes i = convex ids classes i && not (blocked ps ids classes (triangle_at ps ids i))

-- the class of a corner, by the side of the previous one against the edge from it to the next
abbrev pub class_of : Side → ℕ
class_of Left = 1
class_of Right = 0
class_of Collinear = 2

abbrev pub turn_of : Triangle → Side
turn_of t = side_of t.previous t.this t.next

-- the classes with that of index i found afresh
unfoldable pub reclassify : List Float → List ℕ → ℕ → List ℕ → List ℕ
reclassify ps ids i classes = set classes (get_or ids i 0) (class_of (turn_of (triangle_at ps ids i)))

-- SCOPE 41: the two neighbours of a cut at index i, which leaves m corners. i runs from 0 to m: a cut at the last index leaves i = m, which is index 0.
-- at the cut: the index where the corner stood that was cut off, counted round the ring
abbrev pub at_cut : ℕ → ℕ → ℕ
at_cut m i = i % m

-- before the cut: the index before that one, counted round the ring
abbrev pub before_cut : ℕ → ℕ → ℕ
before_cut m i = (i + m - 1) % m

-- the classes after a cut at index i that left `ids`: the corner at the cut and then the one before it afresh, if more than three are left
unfoldable pub reclassify_both : List Float → List ℕ → ℕ → List ℕ → List ℕ
reclassify_both ps ids i classes = cond (ltb 3 (length ids)) (reclassify ps ids (before_cut (length ids) i) (reclassify ps ids (at_cut (length ids) i) classes)) classes

-- what is left of a ring
pub record Remaining : Type 0 where
  pub ids : List ℕ
  pub classes : List ℕ

-- after a cut at index i
unfoldable pub cut_at : List Float → Remaining → ℕ → Remaining
cut_at ps s i = record { ids = without i s.ids; classes = reclassify_both ps (without i s.ids) i s.classes }

-- in a lent list, whose last index keeps its number
abbrev pub cut_in : List Float → Remaining → ℕ → Remaining
cut_in ps s i = record { ids = without i s.ids ++ drop (length s.ids - 1) s.ids; classes = reclassify_both ps (without i s.ids) i s.classes }
