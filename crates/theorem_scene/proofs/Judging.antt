-- What a record's area and its numbers are judged for, in the words of specs/Why: both ways. Assumes nothing.
use Prim.Native.Nat.{ℕ, ◌+◌, ◌≤◌, ◌<◌}
use mathlib.Core.Path.{◌≡◌, refl, sym, ◌∙◌}
use mathlib.Core.Bool.{Bool, true, false, cond, true≢false}
use mathlib.Core.List.{List}
use native.Mathlib.Omega.{arith}
use lib.ListN.{length, get_or}
use lib.Dec.{eqb, ltb, leb}
use borrow.Author.Tests.{eqb-true, eqb-false, eq-eqb, ne_eqb, leb-true, leb-false, le-leb, lt-leb, ltb-true, ltb-false, lt-ltb, le-ltb}
use Rattle.laws.specs.Loop.{first_at}
use Rattle.laws.proofs.Indexes.{first_has, none_before, is_first}
use Rattle.scene_store.specs.declared.Area.{Area}
use Rattle.scene_store.specs.Store.{nobody}
use Rattle.scene_records.specs.declared.Fault.TheVariants.{NoNumber, Repeated, NotMet, ManyAreas, ManyPositions}
use Rattle.scene_records.specs.Records.{length_field, body_field, number_field}
use Rattle.scene_notes.specs.Judged.{Judged, Fine, Bad}
use Rattle.scene_notes.specs.Noted.{index_of, judge_area, is_zero, first_zero, is_unmet, judge_numbers, judge_named}
use Rattle.theorem_scene.specs.Why.{Met, Unmet, NonZero}

-- ---- a number among the areas met
module _ (areas : List Area) (number : ℕ) where
  abbrev has : ℕ → Bool
  has i = eqb (get_or areas i nobody).number number

  pub below_met : index_of areas number < length areas → Met areas number
  unfolding index_of
  below_met h = record { index = first_at has (length areas) 0; within = h; same = eqb-true _ _ (first_has has (length areas) 0 (omega (arith, h))) }

  pub past_unmet : length areas ≤ index_of areas number → Unmet areas number
  unfolding index_of
  past_unmet h i l e = true≢false (sym (eq-eqb _ _ e) ∙ none_before has (length areas) 0 i (omega arith) (omega (arith, h)))

  pub met_below : Met areas number → index_of areas number < length areas
  met_below m = go (ltb (index_of areas number) (length areas)) refl
    where
      go : (b : Bool) → ltb (index_of areas number) (length areas) ≡ b → index_of areas number < length areas
      go true t = ltb-true _ _ t
      go false t = absurd (past_unmet (ltb-false _ _ t) m.index m.within m.same)

  pub unmet_past : Unmet areas number → length areas ≤ index_of areas number
  unmet_past u = go (ltb (index_of areas number) (length areas)) refl
    where
      go : (b : Bool) → ltb (index_of areas number) (length areas) ≡ b → length areas ≤ index_of areas number
      go true t = let m = below_met (ltb-true _ _ t) in absurd (u m.index m.within m.same)
      go false t = ltb-false _ _ t

-- ---- an area
module _ (areas : List Area) (given at number count : ℕ) where
  pub data AreaWhy : Judged → Type 0 where
    zeroed : number ≡ 0 → AreaWhy (Bad NoNumber (body_field at))
    repeated : (number ≡ 0 → ⊥) → Met areas number → AreaWhy (Bad Repeated (body_field at))
    many_areas : (number ≡ 0 → ⊥) → Unmet areas number → 16 ≤ length areas → AreaWhy (Bad ManyAreas (body_field at))
    many_positions : (number ≡ 0 → ⊥) → Unmet areas number → length areas < 16 → 1024 < given + count → AreaWhy (Bad ManyPositions (length_field at))
    fine : AreaWhy Fine

  area_by_lem : (a b c d : Bool) → eqb number 0 ≡ a → ltb (index_of areas number) (length areas) ≡ b → leb 16 (length areas) ≡ c → ltb 1024 (given + count) ≡ d
      → AreaWhy (cond a (Bad NoNumber (body_field at)) (cond b (Bad Repeated (body_field at)) (cond c (Bad ManyAreas (body_field at)) (cond d (Bad ManyPositions (length_field at)) Fine))))
  area_by_lem true b c d p q r t = zeroed (eqb-true _ _ p)
  area_by_lem false true c d p q r t = repeated (eqb-false _ _ p) (below_met areas number (ltb-true _ _ q))
  area_by_lem false false true d p q r t = many_areas (eqb-false _ _ p) (past_unmet areas number (ltb-false _ _ q)) (leb-true _ _ r)
  area_by_lem false false false true p q r t = many_positions (eqb-false _ _ p) (past_unmet areas number (ltb-false _ _ q)) (leb-false _ _ r) (ltb-true _ _ t)
  area_by_lem false false false false p q r t = fine

  pub area_why : AreaWhy (judge_area areas given at number count)
  unfolding judge_area
  area_why = area_by_lem (eqb number 0) (ltb (index_of areas number) (length areas)) (leb 16 (length areas)) (ltb 1024 (given + count)) refl refl refl refl

  pub zero_judged : number ≡ 0 → judge_area areas given at number count ≡ Bad NoNumber (body_field at)
  unfolding judge_area
  zero_judged e = rw (eq-eqb number 0 e)

  module _ (n : number ≡ 0 → ⊥) where
    pub met_judged : Met areas number → judge_area areas given at number count ≡ Bad Repeated (body_field at)
    unfolding judge_area
    met_judged m = rw (ne_eqb number 0 n, lt-ltb _ _ (met_below areas number m))

    module _ (u : Unmet areas number) where
      pub areas_judged : 16 ≤ length areas → judge_area areas given at number count ≡ Bad ManyAreas (body_field at)
      unfolding judge_area
      areas_judged h = rw (ne_eqb number 0 n, le-ltb _ _ (unmet_past areas number u), le-leb _ _ h)

      pub positions_judged : length areas < 16 → 1024 < given + count → judge_area areas given at number count ≡ Bad ManyPositions (length_field at)
      unfolding judge_area
      positions_judged h g = rw (ne_eqb number 0 n, le-ltb _ _ (unmet_past areas number u), lt-leb _ _ h, lt-ltb _ _ g)

-- ---- the numbers that a record names
module _ (areas : List Area) (at : ℕ) (numbers : List ℕ) where
  pub data NumbersWhy : Judged → Type 0 where
    a_zero : (i : ℕ) → i < length numbers → get_or numbers i 0 ≡ 0 → ((j : ℕ) → j < i → get_or numbers j 0 ≡ 0 → ⊥) → NumbersWhy (Bad NoNumber (number_field at i))
    not_met : NonZero numbers → (i : ℕ) → i < length numbers → Unmet areas (get_or numbers i 0) → ((j : ℕ) → j < i → Met areas (get_or numbers j 0))
        → NumbersWhy (Bad NotMet (number_field at i))
    all_met : NumbersWhy Fine

  abbrev zeros : ℕ
  zeros = first_at (is_zero numbers) (length numbers) 0

  abbrev unmets : ℕ
  unmets = first_at (is_unmet areas numbers) (length numbers) 0

  none_zero : (i j : ℕ) → i ≤ zeros → j < i → get_or numbers j 0 ≡ 0 → ⊥
  none_zero i j l h e = true≢false (sym (eq-eqb _ _ e) ∙ none_before (is_zero numbers) (length numbers) 0 j (omega arith) (omega arith))

  all_before : (j : ℕ) → j < unmets → Met areas (get_or numbers j 0)
  all_before j h = below_met areas (get_or numbers j 0) (leb-false _ _ (none_before (is_unmet areas numbers) (length numbers) 0 j (omega arith) h))

  numbers_by : (a b : Bool) → ltb zeros (length numbers) ≡ a → ltb unmets (length numbers) ≡ b
      → NumbersWhy (cond a (Bad NoNumber (number_field at zeros)) (cond b (Bad NotMet (number_field at unmets)) Fine))
  numbers_by true b p q =
      let h : zeros < length numbers = ltb-true _ _ p in
      a_zero zeros h (eqb-true _ _ (first_has (is_zero numbers) (length numbers) 0 (omega (arith, h)))) (λ j l. none_zero zeros j (omega arith) l)
  numbers_by false true p q =
      let g : length numbers ≤ zeros = ltb-false _ _ p in
      let h : unmets < length numbers = ltb-true _ _ q in
      not_met (λ j l. none_zero (length numbers) j g l) unmets h (past_unmet areas _ (leb-true _ _ (first_has (is_unmet areas numbers) (length numbers) 0 (omega (arith, h))))) all_before
  numbers_by false false p q = all_met

  pub numbers_why : NumbersWhy (judge_named areas at numbers)
  unfolding judge_numbers first_zero
  numbers_why = numbers_by (ltb zeros (length numbers)) (ltb unmets (length numbers)) refl refl

  pub zero_named : (i : ℕ) → i < length numbers → get_or numbers i 0 ≡ 0 → ((j : ℕ) → j < i → get_or numbers j 0 ≡ 0 → ⊥) → judge_named areas at numbers ≡ Bad NoNumber (number_field at i)
  unfolding judge_numbers first_zero
  zero_named i h e n =
      let first : zeros ≡ i = is_first (is_zero numbers) (length numbers) 0 i (omega arith) (omega arith) (eq-eqb _ _ e) (λ j a l. ne_eqb _ _ (n j l)) in
      rw (first, lt-ltb _ _ h)

  pub unmet_named : NonZero numbers → (i : ℕ) → i < length numbers → Unmet areas (get_or numbers i 0) → ((j : ℕ) → j < i → Met areas (get_or numbers j 0))
      → judge_named areas at numbers ≡ Bad NotMet (number_field at i)
  unfolding judge_numbers first_zero
  unmet_named n i h u m =
      let first : unmets ≡ i = is_first (is_unmet areas numbers) (length numbers) 0 i (omega arith) (omega arith) (le-leb _ _ (unmet_past areas _ u))
      (λ j a l. lt-leb _ _ (met_below areas _ (m j l))) in
      rw (le-ltb zeros (length numbers) no_zero, first, lt-ltb _ _ h)
    where
      no_zero : length numbers ≤ zeros
      no_zero = go (ltb zeros (length numbers)) refl
        where
          go : (b : Bool) → ltb zeros (length numbers) ≡ b → length numbers ≤ zeros
          go true t =
              let l : zeros < length numbers = ltb-true _ _ t in
              absurd (n zeros l (eqb-true _ _ (first_has (is_zero numbers) (length numbers) 0 (omega (arith, l)))))
          go false t = ltb-false _ _ t
