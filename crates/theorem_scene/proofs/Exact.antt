-- Each of the refusals 20 to 28 is given exactly when the words of specs/Why say, at that field: both ways. Assumes nothing.
use Prim.Native.Nat.{ℕ, zero, suc, ◌+◌, ◌<◌}
use mathlib.Core.Path.{◌≡◌, refl, sym, ap, subst, ◌∙◌}
use mathlib.Core.Bool.{Bool, true, false, cond}
use mathlib.Core.List.{List, [], ◌∷◌}
use native.Mathlib.Nat.{not-suc-le-zero}
use native.Mathlib.Omega.{arith}
use lib.ListN.{length, get_or}
use lib.Dec.{ltb, eqb}
use borrow.Author.Tests.{lt-ltb, ltb-true}
use Rattle.loop_build.specs.Build as B
use Rattle.loop_ask.specs.Answers as Ask
use Rattle.scene_store.specs.Store.{pair_in}
use Rattle.scene_far.specs.Said.{Said}
use Rattle.scene_far.specs.Said as Said
use Rattle.scene_records.specs.declared.Fault.{Fault}
use Rattle.scene_records.specs.declared.Fault.TheVariants.{CutShort, UnknownKind, WrongLength, NoNumber, Repeated, NotMet, ManyAreas, ManyPositions}
use Rattle.scene_records.specs.declared.Read.{Read}
use Rattle.scene_records.specs.Records.{u16_of, body_field, number_field, read_at, fault_number}
use Rattle.scene_notes.specs.Judged.{Judged}
use Rattle.scene_notes.specs.Judged.{Bad}
use Rattle.scene_notes.specs.Noted.{Scene, judge_area, judge_named}
use Rattle.scene_steps.specs.Steps.{Step, ended, faulty, refused, refused_at, wrote, of_positions, refusal, area_told, area_out, area_made, area_by, area_step, met}
use Rattle.scene_steps.specs.Steps.{place_told, said_of, place_met, place_by, place_step, pair_told, pair_met, pair_by, pair_step, step_by, step}
use Rattle.scene_run.specs.Run.{too_long, Told, ends, told_by, told_from, told_of, blank_floats, blank_codes, scene_told}
use Rattle.theorem_scene.specs.Why.{IsArea, number_of, Asks, Numbers, own, named, GivenWhen, TooLong, Exact}
use Rattle.theorem_scene.specs.Why.{Why20, Why21, Why22, Why23, Why24, Why25, Why26, Why27}
use Rattle.theorem_scene.specs.Why as Why
use Rattle.theorem_scene.proofs.Readings as R
use Rattle.theorem_scene.proofs.Judging as J

-- an area's number is the first of its record
first_field : (at : ℕ) → number_field at 0 ≡ body_field at
first_field at = omega arith

module _ (s : List ℕ) (w : Scene) where
  -- ---- what a record comes to has its reason
  abbrev FaultWhy : Fault → ℕ → Type 0
  FaultWhy CutShort field = Why20 s w field
  FaultWhy UnknownKind field = Why21 s w field
  FaultWhy WrongLength field = Why22 s w field
  FaultWhy NoNumber field = Why23 s w field
  FaultWhy Repeated field = Why24 s w field
  FaultWhy NotMet field = Why25 s w field
  FaultWhy ManyAreas field = Why26 s w field
  FaultWhy ManyPositions field = Why27 s w field

  abbrev StepWhy : Step → Type 0
  StepWhy ended = Unit {0}
  StepWhy (faulty f field) = FaultWhy f field
  StepWhy (refused k) = Unit {0}
  StepWhy (refused_at k index) = Unit {0}
  StepWhy (wrote line next) = Unit {0}

  -- a call's own refusal is no fault
  refusal_by : (b : Bool) (k index : ℕ) → StepWhy (cond b (refused_at k index) (refused k))
  refusal_by true k index = tt
  refusal_by false k index = tt

  no_fault : (k index : ℕ) → StepWhy (refusal k index)
  unfolding refusal
  no_fault k index = refusal_by (of_positions k) k index

  area_told_lem : (number count : ℕ) (o : B.Outcome) (t : B.Told) → StepWhy (area_told s w number count o t)
  area_told_lem number count o (B.refused k) = no_fault k _
  area_told_lem number count o (B.loop h) = tt

  place_told_lem : (t : Said) → StepWhy (place_told s w t)
  place_told_lem (Said.Refused k) = no_fault k _
  place_told_lem (Said.Line line) = tt

  pair_told_lem : (number other : ℕ) (t : Ask.Told) → StepWhy (pair_told w number other t)
  pair_told_lem number other (Ask.refused k) = tt
  pair_told_lem number other (Ask.answer n) = tt

  area_judged : (count : ℕ) → IsArea s w.at count → (j : Judged) → J.AreaWhy w.areas w.given w.at (number_of s w.at) count j → StepWhy (area_by j s w (number_of s w.at) count)
  unfolding area_made
  area_judged count f _ (J.zeroed e) =
      subst (Why23 s w) (first_field w.at) (Why.why (number_of s w.at ∷ []) (own count f) 0 (omega arith) e (λ j h. absurd (not-suc-le-zero h)))
  area_judged count f _ (J.repeated n m) = Why.why count f n m
  area_judged count f _ (J.many_areas n u h) = Why.why count (record { formed = f; numbered = n; unmet = u }) h
  area_judged count f _ (J.many_positions n u h g) = Why.why count (record { formed = f; numbered = n; unmet = u }) h g
  area_judged count f _ J.fine = area_told_lem (number_of s w.at) count (area_out s w count) (area_out s w count).answer

  place_judged : (far : Bool) (number : ℕ) → Asks s w.at (number ∷ []) → (j : Judged) → J.NumbersWhy w.areas w.at (number ∷ []) j → StepWhy (place_by j far s w number)
  unfolding place_met
  place_judged far number a _ (J.a_zero i h e n) = Why.why (number ∷ []) (named a) i h e n
  place_judged far number a _ (J.not_met n i h u m) = Why.why (number ∷ []) a n i h u m
  place_judged far number a _ J.all_met = place_told_lem (said_of far s w number)

  pair_judged : (number other : ℕ) → Asks s w.at (number ∷ other ∷ []) → (j : Judged) → J.NumbersWhy w.areas w.at (number ∷ other ∷ []) j → StepWhy (pair_by j w number other)
  unfolding pair_met
  pair_judged number other a _ (J.a_zero i h e n) = Why.why (number ∷ other ∷ []) (named a) i h e n
  pair_judged number other a _ (J.not_met n i h u m) = Why.why (number ∷ other ∷ []) a n i h u m
  pair_judged number other a _ J.all_met = pair_told_lem number other (pair_in (met w number) (met w other) w.positions w.normals w.classes)

  by_read : (r : Read) → R.ReadWhy s w.at r → StepWhy (step_by r s w)
  unfolding area_step place_step pair_step
  by_read _ (R.ended h) = tt
  by_read _ (R.short h) = Why.why h
  by_read _ (R.unknown h k) = Why.why h k
  by_read _ (R.wrong h k f) = Why.why h k f
  by_read _ (R.an_area count f) = area_judged count f (judge_area w.areas w.given w.at (number_of s w.at) count) (J.area_why w.areas w.given w.at (number_of s w.at) count)
  by_read _ (R.a_place f) =
      place_judged false (number_of s w.at) (Why.place (Why.place f)) (judge_named w.areas w.at (number_of s w.at ∷ [])) (J.numbers_why w.areas w.at (number_of s w.at ∷ []))
  by_read _ (R.a_pair f) =
      let numbers = number_of s w.at ∷ u16_of s (w.at + 8) ∷ [] in
      pair_judged (number_of s w.at) (u16_of s (w.at + 8)) (Why.pair f) (judge_named w.areas w.at numbers) (J.numbers_why w.areas w.at numbers)
  by_read _ (R.a_far f) =
      place_judged true (number_of s w.at) (Why.place (Why.far f)) (judge_named w.areas w.at (number_of s w.at ∷ [])) (J.numbers_why w.areas w.at (number_of s w.at ∷ []))

  step_why : StepWhy (step s w)
  unfolding step
  step_why = by_read (read_at s w.at) (R.read_why s w.at)

  -- ---- and each reason its fault
  read_step : {r : Read} → read_at s w.at ≡ r → step s w ≡ step_by r s w
  unfolding step
  read_step e = rw e

  area_faulty : (count : ℕ) → IsArea s w.at count → {f : Fault} {field : ℕ} → judge_area w.areas w.given w.at (number_of s w.at) count ≡ Bad f field → step s w ≡ faulty f field
  unfolding area_step
  area_faulty count h e = read_step (R.area_read s w.at count h) ∙ rw e

  asks_faulty : (numbers : List ℕ) → Asks s w.at numbers → {f : Fault} {field : ℕ} → judge_named w.areas w.at numbers ≡ Bad f field → step s w ≡ faulty f field
  unfolding place_step pair_step
  asks_faulty _ (Why.place (Why.place h)) e = read_step (R.place_read s w.at h) ∙ rw e
  asks_faulty _ (Why.place (Why.far h)) e = read_step (R.far_read s w.at h) ∙ rw e
  asks_faulty _ (Why.pair h) e = read_step (R.pair_read s w.at h) ∙ rw e

  of_own : (count : ℕ) → IsArea s w.at count → (i : ℕ) → i < 1 → get_or (number_of s w.at ∷ []) i 0 ≡ 0 → step s w ≡ faulty NoNumber (number_field w.at i)
  of_own count h zero l e = area_faulty count h (J.zero_judged w.areas w.given w.at (number_of s w.at) count e) ∙ ap (faulty NoNumber) (sym (first_field w.at))
  of_own count h (suc i) l e = absurd (omega arith)

  zero_faulty : (numbers : List ℕ) → Numbers s w.at numbers → (i : ℕ) → i < length numbers → get_or numbers i 0 ≡ 0 → ((j : ℕ) → j < i → get_or numbers j 0 ≡ 0 → ⊥)
      → step s w ≡ faulty NoNumber (number_field w.at i)
  zero_faulty _ (own count h) i l e n = of_own count h i l e
  zero_faulty numbers (named a) i l e n = asks_faulty numbers a (J.zero_named w.areas w.at numbers i l e n)

  why_step : (f : Fault) (field : ℕ) → FaultWhy f field → step s w ≡ faulty f field
  why_step CutShort _ (Why.why h) = read_step (R.short_read s w.at h)
  why_step UnknownKind _ (Why.why h k) = read_step (R.unknown_read s w.at h k)
  why_step WrongLength _ (Why.why h k f) = read_step (R.wrong_read s w.at h f k)
  why_step NoNumber _ (Why.why numbers a i h e n) = zero_faulty numbers a i h e n
  why_step Repeated _ (Why.why count h n m) = area_faulty count h (J.met_judged w.areas w.given w.at (number_of s w.at) count n m)
  why_step NotMet _ (Why.why numbers a n i h u m) = asks_faulty numbers a (J.unmet_named w.areas w.at numbers n i h u m)
  why_step ManyAreas _ (Why.why count a h) =
      area_faulty count a.formed (J.areas_judged w.areas w.given w.at (number_of s w.at) count a.numbered a.unmet h)
  why_step ManyPositions _ (Why.why count a h g) =
      area_faulty count a.formed (J.positions_judged w.areas w.given w.at (number_of s w.at) count a.numbered a.unmet h g)

  -- ---- by its number: no two faults have one
  fault_of : ℕ → Fault
  fault_of k =
      cond (eqb k 20) CutShort (cond (eqb k 21) UnknownKind (cond (eqb k 22) WrongLength
      (cond (eqb k 23) NoNumber (cond (eqb k 24) Repeated (cond (eqb k 25) NotMet (cond (eqb k 26) ManyAreas ManyPositions))))))

  read_back : (f : Fault) → fault_of (fault_number f) ≡ f
  unfolding fault_of
  read_back CutShort = refl
  read_back UnknownKind = refl
  read_back WrongLength = refl
  read_back NoNumber = refl
  read_back Repeated = refl
  read_back NotMet = refl
  read_back ManyAreas = refl
  read_back ManyPositions = refl

  same_fault : (f g : Fault) → fault_number f ≡ fault_number g → f ≡ g
  same_fault f g e = sym (read_back f) ∙ ap fault_of e ∙ read_back g

  given_when : (f : Fault) → GivenWhen s w (fault_number f) (FaultWhy f)
  given_when f = record {
    given_why = λ field g. subst (λ (x : Fault). FaultWhy x field) (same_fault g.fault f g.numbered) (subst StepWhy g.is step_why);
    why_given = λ field y. record { fault = f; numbered = refl; is = why_step f field y };
  }

-- ---- a scene that is too long
module _ (s : List ℕ) where
  -- no record's ending is that
  by_step : (x : Step) (w : Scene) (rest : Scene → Told) → ((v : Scene) → (rest v).ending ≡ too_long → ⊥) → (told_by x w rest).ending ≡ too_long → ⊥
  by_step ended w rest h e = let z : ◌≡◌ {A = ℕ} 0 1 = cc in omega arith
  by_step (faulty f field) w rest h e = let z : ◌≡◌ {A = ℕ} 0 1 = cc in omega arith
  by_step (refused k) w rest h e = let z : ◌≡◌ {A = ℕ} 0 1 = cc in omega arith
  by_step (refused_at k index) w rest h e = let z : ◌≡◌ {A = ℕ} 0 1 = cc in omega arith
  by_step (wrote line next) w rest h e = h next e

  from : (k : ℕ) (w : Scene) → (told_from s k w).ending ≡ too_long → ⊥
  unfolding told_from
  from zero w e = let z : ◌≡◌ {A = ℕ} 0 1 = cc in omega arith
  from (suc k) w e = by_step (step s w) w (told_from s k) (λ v. from k v) e

  long_by : (b : Bool) → ltb 65536 (length s) ≡ b → (cond b (ends too_long) (told_of s blank_floats blank_floats blank_codes)).ending ≡ too_long → 65536 < length s
  long_by true t e = ltb-true _ _ t
  long_by false t e = absurd (from (length s + 1) _ e)

  too_long_lem : TooLong s
  unfolding scene_told
  too_long_lem = record {
    given_why = λ e. long_by (ltb 65536 (length s)) refl e;
    why_given = λ h. rw (lt-ltb _ _ h) refl;
    first = λ h. rw (lt-ltb _ _ h) refl;
  }

pub exact : (s : List ℕ) (w : Scene) → Exact s w
exact s w = record {
  of_20 = given_when s w CutShort;
  of_21 = given_when s w UnknownKind;
  of_22 = given_when s w WrongLength;
  of_23 = given_when s w NoNumber;
  of_24 = given_when s w Repeated;
  of_25 = given_when s w NotMet;
  of_26 = given_when s w ManyAreas;
  of_27 = given_when s w ManyPositions;
  of_28 = too_long_lem s;
}
