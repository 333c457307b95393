-- A position that is surely beyond an end of an arc is no pole of the arc, and its foot on the great circle is off the arc. Assumes nothing.
use mathlib.Core.Path.{◌≡◌, refl, sym, subst}
use mathlib.Core.Bool.{Bool, true, false, ◌&&◌, ◌||◌}
use lib.Dec.{T, lit≤}
use lib.Ieee.{of_bits, neg, lt, le}
use lib.Ieee.Fits.{and_l, and_r}
use Rattle.numbers.specs.F64 as F
use Rattle.numbers.specs.Near.{abs}
use Rattle.numbers.proofs.Rounds.{is_true}
use Rattle.vec3.specs.declared.Vec3.{Vec3}
use Rattle.vec3.specs.Vec.{origin, same, dot, cross, unit_vec, stable_cross, stable_unit, orthogonal_to}
use Rattle.base.specs.declared.Side.{Side}
use Rattle.base.specs.declared.Side.TheVariants.{Left, Right, Collinear}
use Rattle.base.specs.Sides.{side_of}
use Rattle.base.proofs.Settling as B
use Rattle.minor_arc.specs.declared.MinorArc.{MinorArc}
use Rattle.minor_arc.specs.declared.Location.TheVariants.{Exterior}
use Rattle.minor_arc.specs.Arcs.{located, location_of}
use Rattle.fractions.proofs.Sizes.{Fin}
use Rattle.sizes.proofs.Unit.{Sized, dot_size, unit_sized}
use Rattle.sizes.proofs.Vectors.{sized_grow}
use Rattle.sure_sides.specs.Sure.{limit, margin, slack, wide, tame, upright, beyond, surely, Off}
use Rattle.sure_sides.proofs.Lengths.{left_after, right_after, to_settled, to_margin}
use Rattle.sure_sides.proofs.Vectors.{stable_sized, cross_sized}
use Rattle.sure_sides.proofs.Backs.{back_left, back_right}
use Rattle.sure_sides.proofs.Settled.{settled_left, settled_right, whole_left, whole_right, tame_sized}

-- ---- the tests as facts
record Upright (a : MinorArc) : Type 0 where
  long : lt F.half (dot a.normal a.normal) ≡ true
  across_start : le (abs (dot a.normal a.start)) slack ≡ true
  across_end : le (abs (dot a.normal a.end)) slack ≡ true

upright_is : (a : MinorArc) → T (upright a) → Upright a
upright_is a t =
    let j = lt F.half (dot a.normal a.normal) in
    let k = le (abs (dot a.normal a.start)) slack in
    let l = le (abs (dot a.normal a.end)) slack in
    record { long = is_true j (and_l j (k && l) t); across_start = is_true k (and_l k l (and_r j (k && l) t)); across_end = is_true l (and_r k l (and_r j (k && l) t)) }

past_end_lem : (s : Side) → located s Left ≡ Exterior
past_end_lem Right = refl
past_end_lem Left = refl
past_end_lem Collinear = refl

-- ---- at unit length
abbrev unit_at : Vec3 → Vec3
unit_at r = unit_vec r.x r.y r.z

unit_is : (r : Vec3) → Sized r 32 → Sized (unit_at r) 2
unit_is r h = unit_sized r.x r.y r.z 32 (lit≤ tt) h.x_is h.y_is h.z_is

unit_finite : (r c : Vec3) → Sized r 32 → Sized c 8 → Fin (dot (unit_at r) c)
unit_finite r c h k = (dot_size (unit_at r) c 2 8 (lit≤ tt) (lit≤ tt) (unit_is r h) k).finite

-- ---- the foot, where the raw product is not nothing
foot_is : (u v : Vec3) → same (stable_unit u v) origin ≡ false → orthogonal_to u v ≡ stable_unit u v
unfolding orthogonal_to
foot_is u v e = rw e refl

module _ (a : MinorArc) (p : Vec3) (sN : Sized a.normal 2) (sA : Sized a.start 2) (sE : Sized a.end 2) (sp : Sized p 2) (u : Upright a) where
  abbrev N : Vec3
  N = a.normal

  abbrev r : Vec3
  r = stable_cross p N

  abbrev i : Vec3
  i = stable_unit p N

  abbrev k : Vec3
  k = stable_cross N i

  R : Sized r 32
  R = stable_sized p N sp sN

  I : Sized i 2
  I = unit_is r R

  K : Sized k 32
  K = stable_sized N i sN I

  start_off : lt (dot r a.start) (neg wide) ≡ true → Off a p
  unfolding of_bits location_of
  start_off h =
      let c = cross N a.start in
      let C = cross_sized N a.start sN sA in
      let A = sized_grow a.start 2 8 (lit≤ tt) sA in
      let m : lt (dot i a.start) (neg margin) ≡ true = right_after margin wide to_margin r a.start R A h in
      let b : lt (dot k c) (neg limit) ≡ true = back_right N i a.start sN I sA u.long u.across_start m in
      let s : lt (dot (unit_at k) c) (neg F.ten_epsilon) ≡ true = right_after F.ten_epsilon limit to_settled k c K C b in
      let f = foot_is N i (whole_right F.ten_epsilon tt (unit_at k) c C s) in
      record {
        whole = whole_right margin tt i a.start A m;
        off = rw f (rw (B.settled_right (unit_at k) N a.start (settled_right (dot (unit_at k) c) (unit_finite k c K C) s)) refl);
      }

  end_off : lt wide (dot r a.end) ≡ true → Off a p
  unfolding of_bits location_of
  end_off h =
      let c = cross N a.end in
      let C = cross_sized N a.end sN sE in
      let E = sized_grow a.end 2 8 (lit≤ tt) sE in
      let m : lt margin (dot i a.end) ≡ true = left_after margin wide to_margin r a.end R E h in
      let b : lt limit (dot k c) ≡ true = back_left N i a.end sN I sE u.long u.across_end m in
      let s : lt F.ten_epsilon (dot (unit_at k) c) ≡ true = left_after F.ten_epsilon limit to_settled k c K C b in
      let f = foot_is N i (whole_left F.ten_epsilon tt (unit_at k) c C s) in
      record {
        whole = whole_left margin tt i a.end E m;
        off = rw f (rw (B.settled_left (unit_at k) N a.end (settled_left (dot (unit_at k) c) (unit_finite k c K C) s)) (past_end_lem (side_of (unit_at k) N a.start)));
      }

  either_off : beyond a p ≡ true → Off a p
  unfolding beyond
  either_off h = go (lt (dot r a.start) (neg wide)) (lt wide (dot r a.end)) refl refl h
    where
      go : (x y : Bool) → lt (dot r a.start) (neg wide) ≡ x → lt wide (dot r a.end) ≡ y → x || y ≡ true → Off a p
      go true y e f h = start_off e
      go false true e f h = end_off f
      go false false e f h = absurd (subst T (sym h) tt)

-- ---- the law
pub surely_off : (a : MinorArc) (p : Vec3) → Sized a.start 2 → Sized a.end 2 → Sized p 2 → surely a p ≡ true → Off a p
surely_off a p sA sE sp h =
    let t : T (surely a p) = subst T (sym h) tt in
    let w = and_l (tame a.normal && upright a) (beyond a p) t in
    either_off a p (tame_sized a.normal (is_true (tame a.normal) (and_l (tame a.normal) (upright a) w))) sA sE sp (upright_is a (and_r (tame a.normal) (upright a) w))
    (is_true (beyond a p) (and_r (tame a.normal && upright a) (beyond a p) t))
