-- Where each point that the mode tries is beyond an end of one of two arcs for sure, the arcs do not meet there. Assumes nothing.
use mathlib.Core.Path.{◌≡◌, refl, sym, ap₂, ◌∙◌}
use mathlib.Core.Bool.{Bool, true, false, ◌&&◌, ◌||◌, false≢true}
use lib.Ieee.{neg, lt}
use Rattle.std.specs.Prelude.{None, if◌then◌else◌}
use Rattle.numbers.specs.F64.{zero}
use Rattle.vec3.specs.declared.Vec3.{Vec3}
use Rattle.vec3.specs.Vec.{origin, same, opposite, dot, cross, stable_unit}
use Rattle.base.specs.declared.Side.{Side}
use Rattle.base.specs.declared.Side.TheVariants.{Left, Right, Collinear}
use Rattle.base.specs.Sides.{side_of, settles_right, settles_left}
use Rattle.base.proofs.Settling.{settled_right, settled_left}
use Rattle.signs.specs.Mirrors.{Stored}
use Rattle.signs.proofs.Tests.{settles_right_level, settles_left_level}
use Rattle.signs.proofs.Stores.{stable_stored, opposite_stored}
use Rattle.signs.proofs.Mirror.{dot_opposite}
use Rattle.minor_arc.specs.declared.MinorArc.{MinorArc}
use Rattle.minor_arc.specs.declared.Location.{Location}
use Rattle.minor_arc.specs.declared.Location.TheVariants.{Endpoint, Interior, Exterior}
use Rattle.minor_arc.specs.declared.Meeting.{Meeting}
use Rattle.minor_arc.specs.declared.Meeting.TheVariants as M
use Rattle.minor_arc.specs.declared.Mode.{Mode}
use Rattle.minor_arc.specs.declared.Mode.TheVariants.{Plain, Long}
use Rattle.minor_arc.specs.Arcs.{located, location_of, nearer, beyond, beyond_at, missed, missed_other, meet_at, meeting_in, better, tried, meeting_of, meeting_point}

past_end_lem : (s : Side) → located s Left ≡ Exterior
past_end_lem Right = refl
past_end_lem Left = refl
past_end_lem Collinear = refl

-- right of the start, or left of the end
past_either_lem : (s e : Side) (right left : Bool) → right || left ≡ true → (right ≡ true → s ≡ Right) → (left ≡ true → e ≡ Left) → located s e ≡ Exterior
past_either_lem s e true left h f g = rw (f refl)
past_either_lem s e false true h f g = rw (g refl) (past_end_lem s)
past_either_lem s e false false h f g = absurd (false≢true h)

both : (b c : Bool) → b && c ≡ true → (b ≡ true) × (c ≡ true)
both true true h = (refl, refl)
both true false h = absurd (false≢true h)
both false c h = absurd (false≢true h)

pub nearer_stored : (s i : Vec3) → Stored i → Stored (nearer s i)
unfolding nearer
nearer_stored s i h = stored_if (lt zero (dot s i))
  where
    stored_if : (b : Bool) → Stored (if b then i else opposite i)
    stored_if true = h
    stored_if false = opposite_stored i h

-- ---- one arc
-- each point that the mode tries is exterior to it
abbrev Exteriors : Mode → MinorArc → Vec3 → Type 0
Exteriors Plain a p = location_of a p ≡ Exterior
Exteriors Long a p = (location_of a p ≡ Exterior) × (location_of a (opposite p) ≡ Exterior)

module _ (a : MinorArc) where
  outside : (p : Vec3) → beyond_at Plain a p ≡ true → location_of a p ≡ Exterior
  unfolding location_of
  outside p h =
      past_either_lem (side_of p a.normal a.start) (side_of p a.normal a.end)
      (settles_right (dot p (cross a.normal a.start))) (settles_left (dot p (cross a.normal a.end))) h
      (settled_right p a.normal a.start) (settled_left p a.normal a.end)

  -- the products of the opposite point are the negated ones, but for a zero's sign
  opposite_beyond : (p : Vec3) → Stored p → beyond_at Plain a (opposite p) ≡ beyond (neg (dot p (cross a.normal a.start))) (neg (dot p (cross a.normal a.end)))
  opposite_beyond p s =
      let start = cross a.normal a.start in
      let end = cross a.normal a.end in
      ap₂ ◌||◌ (settles_right_level (dot (opposite p) start) (neg (dot p start)) (dot_opposite p start s))
      (settles_left_level (dot (opposite p) end) (neg (dot p end)) (dot_opposite p end s))

  exteriors : (mode : Mode) (p : Vec3) → Stored p → beyond_at mode a p ≡ true → Exteriors mode a p
  exteriors Plain p s h = outside p h
  exteriors Long p s h =
      let negated = beyond (neg (dot p (cross a.normal a.start))) (neg (dot p (cross a.normal a.end))) in
      let each = both (beyond_at Plain a p) negated h in
      (outside p each.0, outside (opposite p) (opposite_beyond p s ∙ each.1))

-- ---- two arcs
meet_none : (p : Vec3) (l : Location) → meet_at p l Exterior ≡ M.Apart
meet_none p Exterior = refl
meet_none p Endpoint = refl
meet_none p Interior = refl

module _ (a b : MinorArc) where
  by_first : (p : Vec3) → location_of a p ≡ Exterior → meeting_in a b p ≡ M.Apart
  unfolding meeting_in
  by_first p h = rw h

  by_second : (p : Vec3) → location_of b p ≡ Exterior → meeting_in a b p ≡ M.Apart
  unfolding meeting_in
  by_second p h = rw h (meet_none p (location_of a p))

  first_apart : (mode : Mode) (p : Vec3) → Exteriors mode a p → tried mode a b p ≡ M.Apart
  unfolding better
  first_apart Plain p h = by_first p h
  first_apart Long p h = rw (by_first p h.0, by_first (opposite p) h.1)

  second_apart : (mode : Mode) (p : Vec3) → Exteriors mode b p → tried mode a b p ≡ M.Apart
  unfolding better
  second_apart Plain p h = by_second p h
  second_apart Long p h = rw (by_second p h.0, by_second (opposite p) h.1)

either_way : (b : Bool) (m : Meeting) → m ≡ M.Apart → meeting_point (if b then M.Collinear else m) ≡ None
either_way true m e = refl
either_way false m e = rw e

pub candidate_stored : (a b : MinorArc) {i : Vec3} → i ≡ stable_unit a.normal b.normal → Stored i
candidate_stored a b e = rw e (stable_stored a.normal b.normal)

-- the vector at hand, and of it and its opposite the one tried, is as a point is stored
pub nearer_candidate_stored : (a b : MinorArc) (i : Vec3) → i ≡ stable_unit a.normal b.normal → Stored (nearer a.start i)
nearer_candidate_stored a b i e = nearer_stored a.start i (candidate_stored a b e)

-- with the unit vector of the normals' product at hand
module _ (mode : Mode) (a b : MinorArc) {i : Vec3} (e : i ≡ stable_unit a.normal b.normal) where
  stored : Stored (nearer a.start i)
  stored = nearer_candidate_stored a b i e

  pub missed_apart : missed mode a i ≡ true → tried mode a b (nearer a.start i) ≡ M.Apart
  unfolding missed
  missed_apart h = first_apart a b mode (nearer a.start i) (exteriors a mode (nearer a.start i) stored h)

  other_apart : missed_other mode a b i ≡ true → tried mode a b (nearer a.start i) ≡ M.Apart
  unfolding missed_other
  other_apart h = second_apart a b mode (nearer a.start i) (exteriors b mode (nearer a.start i) stored h)

  none : tried mode a b (nearer a.start i) ≡ M.Apart → None ≡ meeting_point (meeting_of mode a b)
  unfolding meeting_of
  none h = rw (← e) (sym (either_way (same i origin) (tried mode a b (nearer a.start i)) h))

  pub missed_none : missed mode a i ≡ true → None ≡ meeting_point (meeting_of mode a b)
  missed_none h = none (missed_apart h)

  pub missed_other_none : missed_other mode a b i ≡ true → None ≡ meeting_point (meeting_of mode a b)
  missed_other_none h = none (other_apart h)
