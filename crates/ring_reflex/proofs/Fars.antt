-- A position that is right of a triangle's far edge is not in the triangle. Assumes nothing.
use mathlib.Core.Path.{◌≡◌, refl}
use mathlib.Core.Bool.{Bool, true, false, not, ◌&&◌}
use Rattle.vec3.specs.declared.Vec3.{Vec3}
use Rattle.base.specs.declared.Side.{Side}
use Rattle.base.specs.declared.Side.TheVariants.{Left, Right, Collinear}
use Rattle.base.specs.Sides.{surely_right}
use Rattle.base.proofs.Surely.{surely_right_lem}
use Rattle.ring_ears.specs.declared.Triangle.{Triangle}
use Rattle.ring_triangle.specs.Inside.{is_right, fits, edge_side, fits_edges, is_corner, inside_or_edge}
use Rattle.ring_ears.specs.Ears.{turn_of}
use Rattle.ring_reflex.specs.Apart.{normal_if, far_normal}

third : (a b : Side) → fits a b Right ≡ false
unfolding fits
third Left Left = refl
third Left Right = refl
third Left Collinear = refl
third Right b = refl
third Collinear Left = refl
third Collinear Right = refl
third Collinear Collinear = refl

right_of : (clockwise : Bool) (p u v : Vec3) → surely_right p (normal_if clockwise u v) ≡ true → edge_side clockwise p u v ≡ Right
unfolding edge_side
right_of true p u v h = surely_right_lem p v u h
right_of false p u v h = surely_right_lem p u v h

and_none : (a : Bool) → a && false ≡ false
and_none true = refl
and_none false = refl

pub beyond : (t : Triangle) (p : Vec3) → surely_right p (far_normal t) ≡ true → inside_or_edge p t.previous t.this t.next ≡ false
unfolding inside_or_edge fits_edges far_normal
beyond t p h =
    let e = right_of (is_right (turn_of t)) p t.next t.previous h in
    rw (e, third (edge_side (is_right (turn_of t)) p t.previous t.this) (edge_side (is_right (turn_of t)) p t.this t.next)) (and_none (not (is_corner p t.previous t.this t.next)))
