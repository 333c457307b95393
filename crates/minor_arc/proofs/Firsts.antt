-- What is interior to the first arc decides in both modes: its opposite is exterior to it, so the arcs do not meet there. Assumes nothing.
use mathlib.Core.Path.{◌≡◌, refl}
use Rattle.vec3.specs.declared.Vec3.{Vec3}
use Rattle.signs.specs.Mirrors.{Stored}
use Rattle.minor_arc.specs.declared.MinorArc.{MinorArc}
use Rattle.minor_arc.specs.declared.Location.TheVariants.{Interior}
use Rattle.minor_arc.specs.declared.Meeting.{Meeting}
use Rattle.minor_arc.specs.declared.Meeting.TheVariants as M
use Rattle.minor_arc.specs.declared.Mode.{Mode}
use Rattle.minor_arc.specs.declared.Mode.TheVariants.{Plain, Long}
use Rattle.minor_arc.specs.Arcs.{location_of, meeting_in, better, tried}
use Rattle.minor_arc.specs.Opposites.{to_first}
use Rattle.minor_arc.proofs.Opposites.{opposite_laws}

-- nothing outranks nothing
better_apart : (m : Meeting) → better m M.Apart ≡ m
unfolding better
better_apart M.Apart = refl
better_apart M.Collinear = refl
better_apart (M.Touching p) = refl
better_apart (M.Crossing p) = refl

pub first_alone : (mode : Mode) (a b : MinorArc) (p : Vec3) → Stored p → location_of a p ≡ Interior → tried mode a b p ≡ meeting_in a b p
first_alone Plain a b p s h = refl
first_alone Long a b p s h = rw ((opposite_laws.opposites a b p s).interior (to_first h)) (better_apart (meeting_in a b p))
