-- What arcs have in a point and in its opposite, the two that long mode tries (SCOPE 54). Proved in proofs/Opposites.antt. Definitions only.
use Rattle.std.specs.Prelude.{◌≡◌}
use Rattle.vec3.specs.declared.Vec3.{Vec3}
use Rattle.vec3.specs.Vec.{opposite}
use Rattle.signs.specs.Mirrors.{Stored}
use Rattle.minor_arc.specs.declared.MinorArc.{MinorArc}
use Rattle.minor_arc.specs.declared.Location.TheVariants.{Endpoint, Interior, Exterior}
use Rattle.minor_arc.specs.declared.Meeting.TheVariants as M
use Rattle.minor_arc.specs.declared.Mode.TheVariants.{Plain, Long}
use Rattle.minor_arc.specs.Arcs.{location_of, meeting_in, meeting_of}

-- p is interior to one of two arcs: if they meet there they cross, or touch with an end of the other
pub data InteriorToOne (a b : MinorArc) (p : Vec3) : Type 0 where
  to_first : location_of a p ≡ Interior → InteriorToOne a b p
  to_second : location_of b p ≡ Interior → InteriorToOne a b p

-- two arcs touch in p, which is at an end of both
pub record EndsTouch (a b : MinorArc) (p : Vec3) : Type 0 where
  pub first_end : location_of a p ≡ Endpoint
  pub second_end : location_of b p ≡ Endpoint
  pub touching : meeting_in a b p ≡ M.Touching p

pub record Opposites (a b : MinorArc) (p : Vec3) : Type 0 where
  -- what is interior to an arc has its opposite exterior to it
  pub exterior : location_of a p ≡ Interior → location_of a (opposite p) ≡ Exterior
  pub exterior_back : location_of a (opposite p) ≡ Interior → location_of a p ≡ Exterior
  -- an interior meeting in one of the two points rules out any in the other: a crossing, and a touch in the interior of one arc
  pub crossing : (q : Vec3) → meeting_in a b p ≡ M.Crossing q → meeting_in a b (opposite p) ≡ M.Apart
  pub crossing_back : (q : Vec3) → meeting_in a b (opposite p) ≡ M.Crossing q → meeting_in a b p ≡ M.Apart
  pub interior : InteriorToOne a b p → meeting_in a b (opposite p) ≡ M.Apart
  pub interior_back : InteriorToOne a b (opposite p) → meeting_in a b p ≡ M.Apart
  -- so only touches in ends of both arcs can both be met
  pub both : (meeting_in a b p ≡ M.Apart → ⊥) → (meeting_in a b (opposite p) ≡ M.Apart → ⊥) → EndsTouch a b p × EndsTouch a b (opposite p)

pub record OppositeLaws : Type 0 where
  -- of every point as it is stored, whatever the floats
  pub opposites : (a b : MinorArc) (p : Vec3) → Stored p → Opposites a b p
  -- so a meeting of plain mode is long mode's too, with the same point: long mode only adds meetings
  pub kept : (a b : MinorArc) → (meeting_of Plain a b ≡ M.Apart → ⊥) → meeting_of Long a b ≡ meeting_of Plain a b
