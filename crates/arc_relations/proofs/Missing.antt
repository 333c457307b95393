-- Where each point that the mode tries misses an arc, and the arc and another are not collinear, they are disjoint. Assumes nothing.
use mathlib.Core.Path.{◌≡◌}
use mathlib.Core.Bool.{true, false}
use Rattle.vec3.specs.declared.Vec3.{Vec3}
use Rattle.vec3.specs.Vec.{origin, same, stable_unit}
use Rattle.minor_arc.specs.declared.MinorArc.{MinorArc}
use Rattle.minor_arc.specs.declared.Mode.{Mode}
use Rattle.minor_arc.specs.Arcs.{missed, meeting_of}
use Rattle.minor_arc.proofs.Missing.{missed_apart}
use Rattle.arc_relations.specs.declared.MinorArcRelation.TheVariants.{Disjoint}
use Rattle.arc_relations.specs.Relations.{relation_of}

module _ (mode : Mode) (a b : MinorArc) {i : Vec3} (e : i ≡ stable_unit a.normal b.normal) where
  pub missed_disjoint : missed mode a i ≡ true → same i origin ≡ false → Disjoint ≡ relation_of mode a b
  unfolding meeting_of relation_of
  missed_disjoint h o = rw (← e, o, missed_apart mode a b e h)
