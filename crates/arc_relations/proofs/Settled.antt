-- Arcs between the axes, computed by antt: they touch in a shared end, and an arc overlaps itself, where `intersection` says none. Assumes nothing.
use mathlib.Core.Path.{◌≡◌, refl}
use lib.Ieee.{add, sub, mul, div, neg, lt, le, eq, of_bits}
use Rattle.std.specs.Prelude.{None}
use Rattle.root.specs.Root.{root_of}
use Rattle.numbers.specs.Near.{abs}
use Rattle.vec3.specs.Vec.{axis_x, axis_y, axis_z, unit_vec, axis_for, orthogonal_to}
use Rattle.base.specs.Sides.{sign_of, retest_of, side_of}
use Rattle.minor_arc.specs.declared.Mode.TheVariants.{Plain}
use Rattle.minor_arc.specs.Arcs.{arc_of, meeting_of, meeting_in, meeting_point, nearer, location_of}
use Rattle.arc_relations.specs.Relations.{relation_of, collinear_of, considered, pushed, span_of}
use Rattle.arc_relations.specs.declared.MinorArcRelation.TheVariants.{Touching, Overlapping}

pub shared_end : relation_of Plain (arc_of axis_y axis_x) (arc_of axis_y axis_z) ≡ Touching axis_y
unfolding relation_of meeting_of meeting_in collinear_of considered pushed span_of nearer location_of side_of sign_of retest_of orthogonal_to unit_vec axis_for abs root_of add sub mul div neg lt le eq of_bits
shared_end = refl

pub with_itself : relation_of Plain (arc_of axis_x axis_y) (arc_of axis_x axis_y) ≡ Overlapping (arc_of axis_x axis_y)
unfolding relation_of meeting_of meeting_in collinear_of considered pushed span_of nearer location_of side_of sign_of retest_of orthogonal_to unit_vec axis_for abs root_of add sub mul div neg lt le eq of_bits
with_itself = refl

pub none_with_itself : meeting_point (meeting_of Plain (arc_of axis_x axis_y) (arc_of axis_x axis_y)) ≡ None
unfolding meeting_of meeting_in nearer location_of side_of sign_of retest_of orthogonal_to unit_vec axis_for abs root_of add sub mul div neg lt le eq of_bits
none_with_itself = refl
