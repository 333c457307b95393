-- SCOPE 16: whether a position is inside a triangle or on an edge of it: no for a corner, and where two of its sides are collinear. Definitions only.
use Rattle.std.specs.Prelude.{ℕ, ◌+◌, Bool, true, false, not, ◌&&◌, ◌||◌, ltb}
use Rattle.vec3.specs.declared.Vec3.{Vec3}
use Rattle.vec3.specs.Vec.{same}
use Rattle.base.specs.declared.Side.{Side}
use Rattle.base.specs.declared.Side.TheVariants.{Left, Right, Collinear}
use Rattle.base.specs.Sides.{side_of}

abbrev pub is_right : Side → Bool
is_right Left = false
is_right Right = true
is_right Collinear = false

-- 1 for collinear, else 0
abbrev pub collinears : Side → ℕ
collinears Left = 0
collinears Right = 0
collinears Collinear = 1

-- none of the three is right, and at most one is collinear
unfoldable pub fits : Side → Side → Side → Bool
fits r s t = not ((is_right r || is_right s) || is_right t) && ltb (collinears r + collinears s + collinears t) 2

-- the side of p against the edge from u to v, whose ends are exchanged where the triangle is clockwise
unfoldable pub edge_side : Bool → Vec3 → Vec3 → Vec3 → Side
edge_side true p u v = side_of p v u
edge_side false p u v = side_of p u v

-- against the three edges
unfoldable pub fits_edges : Bool → Vec3 → Vec3 → Vec3 → Vec3 → Bool
fits_edges clockwise p a b c = fits (edge_side clockwise p a b) (edge_side clockwise p b c) (edge_side clockwise p c a)

unfoldable pub is_corner : Vec3 → Vec3 → Vec3 → Vec3 → Bool
is_corner p a b c = (same p a || same p b) || same p c

unfoldable pub inside_or_edge : Vec3 → Vec3 → Vec3 → Vec3 → Bool
inside_or_edge p a b c = not (is_corner p a b c) && fits_edges (is_right (side_of a b c)) p a b c
