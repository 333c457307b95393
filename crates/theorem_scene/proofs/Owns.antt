-- A call's own refusal in a scene is 2, 3, 4 or 7: the lists have room and areas are loops as built in plain mode, so that there is no reason for another. 3 and 4 stand at the
-- index that they come with. Assumes nothing.
use Prim.Native.Nat.{ℕ, zero, suc, ◌+◌, ◌-◌, ◌*◌, ◌/◌, ◌≤◌, ◌<◌}
use mathlib.Core.Path.{◌≡◌, refl, sym, ap, subst, ◌∙◌}
use mathlib.Core.Bool.{Bool, true, false}
use mathlib.Core.List.{List, [], ◌∷◌}
use mathlib.Core.Logic.{◌⊎◌, inl, inr}
use native.Mathlib.Nat.{not-suc-le-zero}
use native.Mathlib.Omega.{arith}
use lib.ListN.{length, drop, length-drop}
use lib.Ieee.{Float}
use Rattle.vec3.specs.declared.Vec3.{Vec3}
use Rattle.vec3.specs.Vec.{cleared, pos_at}
use Rattle.bytes_arcs.proofs.Once.{position_clear}
use Rattle.judge.specs.Judge.{first_refused}
use Rattle.judge.specs.Why.{Then, stops, goes_on_lem, at, nowhere, PositionWhy, fine, not_finite, off_range, PositionsWhy, Stands}
use Rattle.judge.proofs.Exact as Judge
use Rattle.wire.specs.Wire.{vec_of}
use Rattle.ring_corners.proofs.Openings.{opened_le}
use Rattle.minor_arc.specs.declared.Mode.TheVariants.{Plain}
use Rattle.loop_header.specs.declared.Header.{Header}
use Rattle.loop_header.specs.Why.{LoopWhy}
use Rattle.loop_header.proofs.Exact as Loops
use Rattle.loop_build.specs.Build as B
use Rattle.loop_build.specs.Build.{opened_count, build_outcome}
use Rattle.loop_build.specs.Why.{ListWhy, not_threes, too_many, in_positions, RoomWhy, short_positions, short_normals, short_classes, fewer, all_fit, BuildWhy}
use Rattle.loop_build.proofs.Exact as Build
use Rattle.loop_ask.specs.Answers as Ask
use Rattle.loop_ask.proofs.Exact as Questions
use Rattle.scene_records.specs.declared.Read.{Read}
use Rattle.scene_records.specs.Records.{u16_of, floats_at, read_at}
use Rattle.scene_store.specs.Store.{corners, codes, built_at, place_in, pair_in}
use Rattle.scene_store.proofs.Counts.{floats_count}
use Rattle.scene_far.specs.Said.{Said}
use Rattle.scene_far.specs.Said as Said
use Rattle.scene_far.proofs.Refusals.{said_refused}
use Rattle.scene_notes.specs.Judged.{Judged, Fine, Bad}
use Rattle.scene_notes.specs.Noted.{Scene, index_of, judge_area, judge_named}
use Rattle.scene_notes.proofs.Tables.{allowed, all_met}
use Rattle.scene_steps.specs.Steps.{Step, ended, faulty, refused, refused_at, wrote, refusal, refused_index, passed_by, area_told, area_out, area_made, area_by, area_step, met}
use Rattle.scene_steps.specs.Steps.{place_told, said_of, place_met, place_by, place_step, pair_told, pair_met, pair_by, pair_step, step_by, step}
use Rattle.scene_run.proofs.Floats.{position_read}
use Rattle.theorem_built.specs.Built.{Loop, AsBuilt, Related, related, each_in_other, modes_differ}
use Rattle.theorem_built.proofs.Theorem as Built
use Rattle.theorem_scene.specs.Why.{IsArea, IsPlace, number_of}
use Rattle.theorem_scene.specs.Why as Why
use Rattle.theorem_scene.specs.Endings.{Indexed, PlaceStep, no_number, not_met, answered}
use Rattle.theorem_scene.specs.Endings as Endings
use Rattle.theorem_scene.proofs.Readings as R
use Rattle.theorem_scene.proofs.Judging as J
use Rattle.theorem_scene.proofs.Stores.{loop_in, Kept}

-- what a position is refused for is 3 or 4
position_number : (p : Vec3) (k : ℕ) → PositionWhy p k → 0 < k → (k ≡ 3) ⊎ (k ≡ 4)
position_number p _ (fine f r) h = absurd (not-suc-le-zero h)
position_number p _ (not_finite f) h = inl refl
position_number p _ (off_range f r) h = inr refl

positions_number : (l : List Float) (n k : ℕ) → PositionsWhy l n k → 0 < k → (k ≡ 3) ⊎ (k ≡ 4)
positions_number l n _ (at i h w b) g = position_number (pos_at l i) _ w g
positions_number l n _ (nowhere b) h = absurd (not-suc-le-zero h)

-- the first of n positions that is refused, from the number that is given
standing : (l : List Float) (n k : ℕ) → PositionsWhy l n k → 0 < k → Stands l n k (first_refused l n)
standing l n zero w h = absurd (not-suc-le-zero h)
standing l n (suc k) w h = (Judge.exact).index l n k (((Judge.exact).positions l n).why_given (suc k) w)

-- a relation of two loops as built in one mode is refused with 7 alone
seven : (h o : Header) (t : Ask.Told) → h.mode ≡ o.mode → Related h o t → (k : ℕ) → t ≡ Ask.refused k → k ≡ 7
seven h o t m (related n a) k e = absurd (let z : Ask.answer a.number ≡ Ask.refused k = sym a.is ∙ e in let y : ◌≡◌ {A = ℕ} 0 1 = cc in omega arith)
seven h o _ m (each_in_other n p q) k e = let z : 7 ≡ k = cc in sym z
seven h o _ m (modes_differ d) k e = absurd (d m)

module _ (s : List ℕ) (w : Scene) where
  -- ---- what a step says of a call's own refusal
  abbrev pub OwnWhy : Step → Type 0
  OwnWhy ended = Unit {0}
  OwnWhy (faulty f field) = Unit {0}
  OwnWhy (refused k) = (k ≡ 2) ⊎ (k ≡ 7)
  OwnWhy (refused_at k index) = ((k ≡ 3) ⊎ (k ≡ 4)) × Indexed s w.at k index
  OwnWhy (wrote line next) = Unit {0}

  two_own : (index : ℕ) → OwnWhy (refusal 2 index)
  unfolding refusal
  two_own index = inl refl

  three_own : (index : ℕ) → Indexed s w.at 3 index → OwnWhy (refusal 3 index)
  unfolding refusal
  three_own index d = (inl refl, d)

  four_own : (index : ℕ) → Indexed s w.at 4 index → OwnWhy (refusal 4 index)
  unfolding refusal
  four_own index d = (inr refl, d)

  indexed_own : (k index : ℕ) → (k ≡ 3) ⊎ (k ≡ 4) → Indexed s w.at k index → OwnWhy (refusal k index)
  indexed_own k index (inl e) d = subst (λ (n : ℕ). OwnWhy (refusal n index)) (sym e) (three_own index (subst (λ (n : ℕ). Indexed s w.at n index) e d))
  indexed_own k index (inr e) d = subst (λ (n : ℕ). OwnWhy (refusal n index)) (sym e) (four_own index (subst (λ (n : ℕ). Indexed s w.at n index) e d))

  module _ (kept : Kept s w) where
    -- ---- an area's list
    module _ (count : ℕ) (formed : IsArea s w.at count) (few : w.given + count ≤ 1024) where
      abbrev l : List Float
      l = floats_at s (w.at + 8) count

      size : length l ≡ 3 * count
      size = floats_count s (w.at + 8) count

      thirds : length l / 3 ≡ count
      thirds = omega (arith, size)

      abbrev ps : List Float
      ps = drop (3 * w.used) w.positions

      abbrev ns : List Float
      ns = drop (3 * w.used) w.normals

      abbrev cs : List ℕ
      cs = drop w.used w.classes

      listed_own : (k : ℕ) → PositionsWhy l count k → 0 < k → OwnWhy (refusal k (refused_index s w.at count))
      listed_own k y h = indexed_own k _ (positions_number l count k y h) (record { count = count; listed = Endings.area count formed; stands = standing l count k y h })

      list_own : (k : ℕ) → ListWhy l k → 0 < k → OwnWhy (refusal k (refused_index s w.at count))
      list_own _ (not_threes t) h = absurd (t (omega (arith, size)))
      list_own _ (too_many t m) h = two_own _
      list_own _ (in_positions {k} t m y) h = listed_own k (subst (λ (n : ℕ). PositionsWhy l n k) thirds y) h

      opened : opened_count l ≤ count
      opened = omega (arith, opened_le l (length l / 3), thirds)

      room_own : (k : ℕ) → RoomWhy (opened_count l) (length ps) (length ns) (length cs) k → 0 < k → ⊥
      room_own k y h =
          let used = kept.good.used_given in
          go k y h (rw length-drop (omega (arith, opened, used, kept.stored.positions_size))) (rw length-drop (omega (arith, opened, used, kept.stored.normals_size)))
          (rw length-drop (omega (arith, opened, used, kept.stored.classes_size)))
        where
          go : (k : ℕ) → RoomWhy (opened_count l) (length ps) (length ns) (length cs) k → 0 < k → 3 * opened_count l ≤ length ps → 3 * opened_count l ≤ length ns → opened_count l ≤ length cs → ⊥
          go _ (short_positions a b) h p q c = omega arith
          go _ (short_normals a b) h p q c = omega arith
          go _ (short_classes a b) h p q c = omega arith
          go _ (fewer a) h p q c = not-suc-le-zero h
          go _ (all_fit a b d) h p q c = not-suc-le-zero h

      build_own : (k : ℕ) → BuildWhy l ps ns cs k → 0 < k → OwnWhy (refusal k (refused_index s w.at count))
      build_own _ (stops y) h = list_own _ y h
      build_own k (goes_on_lem y z) h = absurd (room_own k z h)

      answer_is : (area_out s w count).answer ≡ (build_outcome Plain l ps ns cs).answer
      unfolding built_at
      answer_is = refl

      area_told_lem : (number : ℕ) (t : B.Told) → t ≡ (area_out s w count).answer → OwnWhy (area_told s w number count (area_out s w count) t)
      area_told_lem number (B.refused k) e =
          let y = ((Build.exact l ps ns cs).building Plain).given_why k (sym (e ∙ answer_is)) in
          build_own k y.1 y.0
      area_told_lem number (B.loop h) e = tt

    -- ---- an area that was met, in its part of the store
    met_built : (number : ℕ) → index_of w.areas number < length w.areas → AsBuilt (loop_in (met w number) w.positions w.normals w.classes)
    met_built number h = kept.stored.built (index_of w.areas number) h

    met_plain : (number : ℕ) → index_of w.areas number < length w.areas → (met w number).header.mode ≡ Plain
    met_plain number h = kept.stored.plain (index_of w.areas number) h

    -- ---- a place or a far, which is a list of one
    abbrev p : Vec3
    p = vec_of s (w.at + 8)

    one : pos_at (floats_at s (w.at + 8) 1) 0 ≡ cleared p
    one =
        let o : w.at + 8 + 24 * 0 ≡ w.at + 8 = omega arith in
        position_read s (w.at + 8) 1 0 (omega arith) ∙ ap (vec_of s) o ∙ sym (position_clear s (w.at + 8))

    alone : (k : ℕ) → PositionWhy (cleared p) k → 0 < k → PositionsWhy (floats_at s (w.at + 8) 1) 1 k
    alone zero y h = absurd (not-suc-le-zero h)
    alone (suc k) y h = at 0 (omega arith) (subst (λ (v : Vec3). PositionWhy v (suc k)) (sym one) y) (λ j g. absurd (not-suc-le-zero g))

    -- 3 or 4, of the one position
    abbrev OfOne : ℕ → Type 0
    OfOne k = ((k ≡ 3) ⊎ (k ≡ 4)) × Stands (floats_at s (w.at + 8) 1) 1 k (refused_index s w.at 1)

    place_why : (a : Loop) → AsBuilt a → (k : ℕ) → Then (LoopWhy a.header a.positions a.normals a.classes) (PositionWhy (cleared p)) k → 0 < k → OfOne k
    place_why a b _ (stops {k} y) h =
        let z : suc k ≡ 0 = sym (((Loops.exact a.header a.positions a.classes).whole_loop a.normals).why_given (suc k) y) ∙ (Built.built).loop_fault_lem a b in
        absurd (omega arith)
    place_why a b k (goes_on_lem y z) h = (position_number (cleared p) k z h, standing _ 1 k (alone k z h) h)

    place_own : (number : ℕ) → index_of w.areas number < length w.areas → (k : ℕ) → place_in (met w number) w.positions w.normals w.classes p ≡ Ask.refused k → OfOne k
    unfolding place_in
    place_own number m k e =
        let a = met w number in
        let y = ((Questions.exact a.header (corners a w.positions) (corners a w.normals) (codes a w.classes)).place p).given_why k e in
        place_why (loop_in a w.positions w.normals w.classes) (met_built number m) k y.1 y.0

    -- a far is refused as a place is
    said_own : (far : Bool) (number : ℕ) → index_of w.areas number < length w.areas → (k : ℕ) → Said.Refused k ≡ said_of far s w number → OfOne k
    said_own far number m k e = place_own number m k (said_refused far number (met w number) w.positions w.normals w.classes p k (sym e))

    place_told_lem : IsPlace s w.at → (far : Bool) (number : ℕ) → index_of w.areas number < length w.areas → (t : Said) → t ≡ said_of far s w number → OwnWhy (place_told s w t)
    place_told_lem f far number m (Said.Refused k) e =
        let y = said_own far number m k e in
        indexed_own k _ y.0 (record { count = 1; listed = Endings.place f; stands = y.1 })
    place_told_lem f far number m (Said.Line line) e = tt

    -- so it comes to no refusal but these two, and its index is 0
    at_zero : (k index : ℕ) → (k ≡ 3) ⊎ (k ≡ 4) → index < 1 → PlaceStep (refusal k index)
    unfolding refusal
    at_zero k index (inl e) h = let z : index ≡ 0 = omega arith in rw (e, z) Endings.not_finite
    at_zero k index (inr e) h = let z : index ≡ 0 = omega arith in rw (e, z) Endings.off_range

    place_stepped : (far : Bool) (number : ℕ) → index_of w.areas number < length w.areas → (t : Said) → t ≡ said_of far s w number → PlaceStep (place_told s w t)
    place_stepped far number m (Said.Refused k) e =
        let y = said_own far number m k e in
        at_zero k _ y.0 y.1.below
    place_stepped far number m (Said.Line line) e = answered line (passed_by 32 w)

    place_judged : (far : Bool) (number : ℕ) (j : Judged) → j ≡ judge_named w.areas w.at (number ∷ []) → J.NumbersWhy w.areas w.at (number ∷ []) j → PlaceStep (place_by j far s w number)
    unfolding place_met
    place_judged far number _ e (J.a_zero i h q n) = no_number _
    place_judged far number _ e (J.not_met n i h u m) = not_met _
    place_judged far number _ e J.all_met = place_stepped far number (all_met w.areas w.at (number ∷ []) e 0 (omega arith)) _ refl

    pub place_step_lem : IsPlace s w.at → PlaceStep (step s w)
    unfolding step place_step
    place_step_lem (Why.place f) = rw (R.place_read s w.at f) (place_judged false (number_of s w.at) _ refl (J.numbers_why w.areas w.at (number_of s w.at ∷ [])))
    place_step_lem (Why.far f) = rw (R.far_read s w.at f) (place_judged true (number_of s w.at) _ refl (J.numbers_why w.areas w.at (number_of s w.at ∷ [])))

    -- ---- a pair
    pair_told_lem : (number other : ℕ) → index_of w.areas number < length w.areas → index_of w.areas other < length w.areas
        → (t : Ask.Told) → t ≡ pair_in (met w number) (met w other) w.positions w.normals w.classes → OwnWhy (pair_told w number other t)
    unfolding pair_in
    pair_told_lem number other m n (Ask.refused k) e =
        let r = (Built.built).relate (loop_in (met w number) w.positions w.normals w.classes) (loop_in (met w other) w.positions w.normals w.classes)
        (met_built number m) (met_built other n) in
        inr (seven _ _ _ (met_plain number m ∙ sym (met_plain other n)) r k (sym e))
    pair_told_lem number other m n (Ask.answer k) e = tt

    -- ---- by what was judged, and by what was read
    area_by_lem : (count : ℕ) → IsArea s w.at count → (number : ℕ) (j : Judged) → j ≡ judge_area w.areas w.given w.at number count → OwnWhy (area_by j s w number count)
    unfolding area_made
    area_by_lem count f number (Bad fault field) e = tt
    area_by_lem count f number Fine e = area_told_lem count f (allowed w.areas w.given w.at number count e).few number (area_out s w count).answer refl

    place_by_lem : IsPlace s w.at → (far : Bool) (number : ℕ) (j : Judged) → j ≡ judge_named w.areas w.at (number ∷ []) → OwnWhy (place_by j far s w number)
    unfolding place_met
    place_by_lem f far number (Bad fault field) e = tt
    place_by_lem f far number Fine e = place_told_lem f far number (all_met w.areas w.at (number ∷ []) e 0 (omega arith)) _ refl

    pair_by_lem : (number other : ℕ) (j : Judged) → j ≡ judge_named w.areas w.at (number ∷ other ∷ []) → OwnWhy (pair_by j w number other)
    unfolding pair_met
    pair_by_lem number other (Bad fault field) e = tt
    pair_by_lem number other Fine e =
        let numbers = number ∷ other ∷ [] in
        pair_told_lem number other (all_met w.areas w.at numbers e 0 (omega arith)) (all_met w.areas w.at numbers e 1 (omega arith)) _ refl

    by_read : (r : Read) → R.ReadWhy s w.at r → OwnWhy (step_by r s w)
    unfolding area_step place_step pair_step
    by_read _ (R.ended h) = tt
    by_read _ (R.short h) = tt
    by_read _ (R.unknown h k) = tt
    by_read _ (R.wrong h k f) = tt
    by_read _ (R.an_area count f) = area_by_lem count f (number_of s w.at) (judge_area w.areas w.given w.at (number_of s w.at) count) refl
    by_read _ (R.a_place f) = place_by_lem (Why.place f) false (number_of s w.at) (judge_named w.areas w.at (number_of s w.at ∷ [])) refl
    by_read _ (R.a_pair f) =
        let numbers = number_of s w.at ∷ u16_of s (w.at + 8) ∷ [] in
        pair_by_lem (number_of s w.at) (u16_of s (w.at + 8)) (judge_named w.areas w.at numbers) refl
    by_read _ (R.a_far f) = place_by_lem (Why.far f) true (number_of s w.at) (judge_named w.areas w.at (number_of s w.at ∷ [])) refl

    pub own : OwnWhy (step s w)
    unfolding step
    own = by_read (read_at s w.at) (R.read_why s w.at)
