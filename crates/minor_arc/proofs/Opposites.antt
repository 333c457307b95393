-- What arcs have in a point rules out what they have in its opposite, but for touches in ends of both; so long mode keeps each meeting of plain mode. Assumes nothing.
use mathlib.Core.Path.{◌≡◌, refl, sym, ap, ◌∙◌, subst}
use mathlib.Core.Bool.{Bool, true, false, false≢true}
use Rattle.std.specs.Prelude.{if◌then◌else◌}
use Rattle.vec3.specs.declared.Vec3.{Vec3}
use Rattle.vec3.specs.Vec.{origin, same, opposite, stable_unit}
use Rattle.base.specs.declared.Side.{Side}
use Rattle.base.specs.declared.Side.TheVariants.{Left, Right, Collinear}
use Rattle.base.specs.Sides.{side_of}
use Rattle.signs.specs.Mirrors.{Stored}
use Rattle.signs.proofs.Stores.{stable_stored, opposite_stored, opposite_back}
use Rattle.signs.proofs.Mirror.{left_mirrored}
use Rattle.minor_arc.specs.declared.MinorArc.{MinorArc}
use Rattle.minor_arc.specs.declared.Location.{Location}
use Rattle.minor_arc.specs.declared.Location.TheVariants.{Endpoint, Interior, Exterior}
use Rattle.minor_arc.specs.declared.Meeting.{Meeting}
use Rattle.minor_arc.specs.declared.Meeting.TheVariants as M
use Rattle.minor_arc.specs.declared.Mode.TheVariants.{Plain, Long}
use Rattle.minor_arc.specs.Arcs.{located, location_of, nearer, meet_at, meeting_in, better, tried, meeting_of}
use Rattle.minor_arc.specs.Opposites.{InteriorToOne, to_first, to_second, EndsTouch, Opposites, OppositeLaws}
use Rattle.minor_arc.proofs.Missing.{nearer_stored}

-- ---- one arc
abbrev is_interior : Location → Bool
is_interior Endpoint = false
is_interior Interior = true
is_interior Exterior = false

-- what is interior is left of the start
interior_left : (s e : Side) → located s e ≡ Interior → s ≡ Left
interior_left Left e h = refl
interior_left Right e h = absurd (false≢true (ap is_interior h))
interior_left Collinear Left h = absurd (false≢true (ap is_interior h))
interior_left Collinear Right h = absurd (false≢true (ap is_interior h))
interior_left Collinear Collinear h = absurd (false≢true (ap is_interior h))

pub opposite_exterior : (a : MinorArc) (p : Vec3) → Stored p → location_of a p ≡ Interior → location_of a (opposite p) ≡ Exterior
unfolding location_of
opposite_exterior a p s h =
    let l = interior_left (side_of p a.normal a.start) (side_of p a.normal a.end) h in
    rw (left_mirrored p a.normal a.start s l) refl

-- ---- two arcs in one point
abbrev is_crossing : Meeting → Bool
is_crossing M.Apart = false
is_crossing M.Collinear = false
is_crossing (M.Crossing p) = true
is_crossing (M.Touching p) = false

crossing_interior : (p q : Vec3) (k l : Location) → meet_at p k l ≡ M.Crossing q → k ≡ Interior
crossing_interior p q Interior l h = refl
crossing_interior p q Exterior l h = absurd (false≢true (ap is_crossing h))
crossing_interior p q Endpoint Endpoint h = absurd (false≢true (ap is_crossing h))
crossing_interior p q Endpoint Interior h = absurd (false≢true (ap is_crossing h))
crossing_interior p q Endpoint Exterior h = absurd (false≢true (ap is_crossing h))

second_exterior : (p : Vec3) (k : Location) → meet_at p k Exterior ≡ M.Apart
second_exterior p Endpoint = refl
second_exterior p Interior = refl
second_exterior p Exterior = refl

apart_first : (a b : MinorArc) (p : Vec3) → location_of a p ≡ Exterior → meeting_in a b p ≡ M.Apart
unfolding meeting_in
apart_first a b p h = rw h refl

apart_second : (a b : MinorArc) (p : Vec3) → location_of b p ≡ Exterior → meeting_in a b p ≡ M.Apart
unfolding meeting_in
apart_second a b p h = rw h (second_exterior p (location_of a p))

crossing_first : (a b : MinorArc) (p q : Vec3) → meeting_in a b p ≡ M.Crossing q → location_of a p ≡ Interior
unfolding meeting_in
crossing_first a b p q h = crossing_interior p q (location_of a p) (location_of b p) h

ends_meet : (a b : MinorArc) (p : Vec3) → location_of a p ≡ Endpoint → location_of b p ≡ Endpoint → EndsTouch a b p
unfolding meeting_in
ends_meet a b p h k = record { first_end = h; second_end = k; touching = rw (h, k) refl }

-- neither interior nor exterior
only_end : (l : Location) → (l ≡ Interior → ⊥) → (l ≡ Exterior → ⊥) → l ≡ Endpoint
only_end Endpoint f g = refl
only_end Interior f g = absurd (f refl)
only_end Exterior f g = absurd (g refl)

-- ---- two arcs in a point and in its opposite
interior_apart : (a b : MinorArc) (p : Vec3) → Stored p → InteriorToOne a b p → meeting_in a b (opposite p) ≡ M.Apart
interior_apart a b p s (to_first h) = apart_first a b (opposite p) (opposite_exterior a p s h)
interior_apart a b p s (to_second h) = apart_second a b (opposite p) (opposite_exterior b p s h)

crossing_apart : (a b : MinorArc) (p : Vec3) → Stored p → (q : Vec3) → meeting_in a b p ≡ M.Crossing q → meeting_in a b (opposite p) ≡ M.Apart
crossing_apart a b p s q h = interior_apart a b p s (to_first (crossing_first a b p q h))

-- met in p, and met in its opposite
ends_touch : (a b : MinorArc) (p : Vec3) → Stored p → (meeting_in a b p ≡ M.Apart → ⊥) → (meeting_in a b (opposite p) ≡ M.Apart → ⊥) → EndsTouch a b p
ends_touch a b p s f g =
    ends_meet a b p
    (only_end (location_of a p) (λ h. g (interior_apart a b p s (to_first h))) (λ h. f (apart_first a b p h)))
    (only_end (location_of b p) (λ h. g (interior_apart a b p s (to_second h))) (λ h. f (apart_second a b p h)))

module _ (a b : MinorArc) (p : Vec3) (s : Stored p) where
  back : opposite (opposite p) ≡ p
  back = opposite_back p s

  there : Stored (opposite p)
  there = opposite_stored p s

  opposites_of : Opposites a b p
  opposites_of = record {
    exterior = opposite_exterior a p s;
    exterior_back = λ h. subst (λ (v : Vec3). location_of a v ≡ Exterior) back (opposite_exterior a (opposite p) there h);
    crossing = crossing_apart a b p s;
    crossing_back = λ q h. subst (λ (v : Vec3). meeting_in a b v ≡ M.Apart) back (crossing_apart a b (opposite p) there q h);
    interior = interior_apart a b p s;
    interior_back = λ h. subst (λ (v : Vec3). meeting_in a b v ≡ M.Apart) back (interior_apart a b (opposite p) there h);
    both = λ f g. (ends_touch a b p s f g, ends_touch a b (opposite p) there g (λ h. f (sym (ap (meeting_in a b) back) ∙ h)));
  }

-- ---- long mode keeps what plain mode has
crossing_kept : (p : Vec3) (n : Meeting) → better (M.Crossing p) n ≡ M.Crossing p
unfolding better
crossing_kept p M.Apart = refl
crossing_kept p M.Collinear = refl
crossing_kept p (M.Crossing q) = refl
crossing_kept p (M.Touching q) = refl

touching_kept : (p : Vec3) (n : Meeting) → ((q : Vec3) → n ≡ M.Crossing q → ⊥) → better (M.Touching p) n ≡ M.Touching p
unfolding better
touching_kept p M.Apart f = refl
touching_kept p M.Collinear f = refl
touching_kept p (M.Crossing q) f = absurd (f q refl)
touching_kept p (M.Touching q) f = refl

better_kept : (p : Vec3) (k l : Location) (n : Meeting) → (meet_at p k l ≡ M.Apart → ⊥) → ((q : Vec3) → n ≡ M.Crossing q → ⊥) → better (meet_at p k l) n ≡ meet_at p k l
better_kept p Exterior l n f g = absurd (f refl)
better_kept p Endpoint Exterior n f g = absurd (f refl)
better_kept p Endpoint Endpoint n f g = touching_kept p n g
better_kept p Endpoint Interior n f g = touching_kept p n g
better_kept p Interior Exterior n f g = absurd (f refl)
better_kept p Interior Endpoint n f g = touching_kept p n g
better_kept p Interior Interior n f g = crossing_kept p n

in_kept : (a b : MinorArc) (p : Vec3) (n : Meeting) → (meeting_in a b p ≡ M.Apart → ⊥) → ((q : Vec3) → n ≡ M.Crossing q → ⊥) → better (meeting_in a b p) n ≡ meeting_in a b p
unfolding meeting_in
in_kept a b p n f g = better_kept p (location_of a p) (location_of b p) n f g

tried_kept : (a b : MinorArc) (p : Vec3) → Stored p → (meeting_in a b p ≡ M.Apart → ⊥) → tried Long a b p ≡ meeting_in a b p
tried_kept a b p s f = in_kept a b p (meeting_in a b (opposite p)) f (λ q h. f ((opposites_of a b p s).crossing_back q h))

kept_if : (z : Bool) (m n : Meeting) → ((if z then M.Collinear else m) ≡ M.Apart → ⊥) → ((m ≡ M.Apart → ⊥) → n ≡ m) → (if z then M.Collinear else n) ≡ (if z then M.Collinear else m)
kept_if true m n f g = refl
kept_if false m n f g = g f

long_kept : (a b : MinorArc) → (meeting_of Plain a b ≡ M.Apart → ⊥) → meeting_of Long a b ≡ meeting_of Plain a b
unfolding meeting_of
long_kept a b f =
    let i = stable_unit a.normal b.normal in
    let p = nearer a.start i in
    kept_if (same i origin) (meeting_in a b p) (tried Long a b p) f (tried_kept a b p (nearer_stored a.start i (stable_stored a.normal b.normal)))

pub opposite_laws : OppositeLaws
opposite_laws = record { opposites = opposites_of; kept = long_kept }
