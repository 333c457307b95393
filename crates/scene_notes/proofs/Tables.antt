-- The table of the areas met. Assumes nothing.
use Prim.Native.Nat.{ℕ, zero, suc, ◌+◌, ◌*◌, ◌≤◌, ◌<◌}
use mathlib.Core.Path.{◌≡◌, refl, sym, ap, ◌∙◌}
use mathlib.Core.Bool.{Bool, true, false, cond}
use mathlib.Core.List.{List, [], ◌∷◌}
use native.Mathlib.Nat.{not-suc-le-zero, le_of_suc-le-suc}
use native.Mathlib.Omega.{arith}
use lib.ListN.{length, take, get_or, length-set}
use lib.Seq.{get_or-take, length-take-le}
use lib.Dec.{ltb, leb, eqb}
use borrow.Author.Tests.{lt-ltb, le-ltb, ltb-false, leb-false}
use Rattle.laws.specs.Loop.{first_at}
use Rattle.laws.proofs.Loops.{Look, look}
use Rattle.laws.proofs.Indexes.{none_before}
use Rattle.scene_store.specs.declared.Area.{Area}
use Rattle.scene_store.specs.Store.{nobody}
use Rattle.scene_records.specs.declared.Fault.{Fault}
use Rattle.scene_records.specs.declared.Fault.TheVariants.{NoNumber, Repeated, NotMet, ManyAreas, ManyPositions}
use Rattle.scene_notes.specs.declared.Notes.{Notes}
use Rattle.scene_notes.specs.Judged.{Judged, Fine, Bad}
use Rattle.scene_notes.specs.Noted.{index_of, Kept, areas_of, no_areas, fresh_notes, passed_notes, Addable, added_notes, judge_area, first_zero, is_unmet, is_past, judge_numbers, judge_named}

-- within a list it is all one what stands past its end
any_default : {A : Type 0} (l : List A) (i : ℕ) (d d' : A) → i < length l → get_or l i d ≡ get_or l i d'
any_default [] i d d' h = absurd (not-suc-le-zero h)
any_default (x ∷ l) zero d d' h = refl
any_default (x ∷ l) (suc i) d d' h = any_default l i d d' (le_of_suc-le-suc h)

-- an entry of the first m
pub entry : {A : Type 0} (l : List A) (m i : ℕ) (d d' : A) → i < m → m ≤ length l → get_or l i d ≡ get_or (take m l) i d'
entry l m i d d' h g = any_default l i d d' (omega arith) ∙ sym (rw get_or-take refl)

abbrev pub has : List Area → ℕ → ℕ → ℕ → Bool
has areas met number i = eqb (get_or (take met areas) i nobody).number number

-- the test of an entry
pub has_is : (areas : List Area) (met number i : ℕ) (d : Area) → i < met → met ≤ length areas → eqb (get_or areas i d).number number ≡ has areas met number i
has_is areas met number i d h g = ap (λ (a : Area). eqb a.number number) (entry areas met i d nobody h g)

pub looks : (areas : List Area) (met number : ℕ) → met ≤ length areas → Look (has areas met number) met 0 (index_of (take met areas) number)
unfolding index_of
looks areas met number h = rw (length-take-le met areas h) look

pub met_count : (c : Notes) → Kept c → length (areas_of c) ≡ c.met
met_count c k = length-take-le c.met c.areas (omega (arith, k.few, k.size))

-- the table before the first record
pub kept_fresh : Kept fresh_notes
unfolding no_areas
kept_fresh = record { few = omega arith; size = refl }

-- the table after a record
pub kept_passed : {c n : Notes} (size : ℕ) → Kept c → n ≡ passed_notes c size → Kept n
kept_passed size k e = record { few = rw e k.few; size = rw e k.size }

pub kept_added : {c : Notes} {a : Area} {count : ℕ} → Kept c → Addable c a count → Kept (added_notes c a count)
kept_added k x = record { few = omega (arith, x.room); size = simp length-set k.size }

-- ---- a record that is fine, an area that may come in
fine_by : (b : Bool) (f : Fault) (field : ℕ) {x : Judged} → Fine ≡ cond b (Bad f field) x → (b ≡ false) × (Fine ≡ x)
fine_by true f field e = (cc, cc)
fine_by false f field e = (refl, e)

pub record Allowed (met given count : ℕ) : Type 0 where
  pub room : met < 16
  pub few : given + count ≤ 1024

pub allowed : (areas : List Area) (given at number count : ℕ) → Fine ≡ judge_area areas given at number count → Allowed (length areas) given count
unfolding judge_area
allowed areas given at number count e =
    let numbered = (fine_by (eqb number 0) NoNumber _ e).1 in
    let new = (fine_by (ltb (index_of areas number) (length areas)) Repeated _ numbered).1 in
    let room = fine_by (leb 16 (length areas)) ManyAreas _ new in
    let few = fine_by (ltb 1024 (given + count)) ManyPositions _ room.1 in
    record { room = leb-false _ _ room.0; few = ltb-false _ _ few.0 }

-- ---- numbers that were met: each of them that a record names
pub all_met : (areas : List Area) (at : ℕ) (numbers : List ℕ) → Fine ≡ judge_named areas at numbers → (i : ℕ) → i < length numbers
    → index_of areas (get_or numbers i 0) < length areas
unfolding judge_numbers
all_met areas at numbers e i h =
    let none_zero = (fine_by (ltb (first_zero numbers) (length numbers)) NoNumber _ e).1 in
    let none-unmet = (fine_by (ltb (first_at (is_unmet areas numbers) (length numbers) 0) (length numbers)) NotMet _ none_zero).0 in
    let past : length numbers ≤ first_at (is_unmet areas numbers) (length numbers) 0 = ltb-false _ _ none-unmet in
    leb-false _ _ (none_before (is_unmet areas numbers) (length numbers) 0 i (omega arith) (omega (arith, past)))

-- what the two searches find, as a function answers
module _ (unmet : ℕ → Bool) (at : ℕ) (numbers : List ℕ) {z : ℕ} (e : z ≡ first_zero numbers) where
  pub zero_judged : z < length numbers → Bad NoNumber (at + 6 + 2 * z) ≡ judge_numbers unmet at numbers
  unfolding judge_numbers
  zero_judged h = rw (← e, lt-ltb _ _ h)

  module _ (h : length numbers ≤ z) {u : ℕ} (f : u ≡ first_at unmet (length numbers) 0) where
    pub unmet_judged : u < length numbers → Bad NotMet (at + 6 + 2 * u) ≡ judge_numbers unmet at numbers
    unfolding judge_numbers
    unmet_judged g = rw (← e, le-ltb _ _ h, ← f, lt-ltb _ _ g)

    pub fine_judged : length numbers ≤ u → Fine ≡ judge_numbers unmet at numbers
    unfolding judge_numbers
    fine_judged g = rw (← e, le-ltb _ _ h, ← f, le-ltb _ _ g)

-- one number, and two, judged by their indexes
pub one_judged : (areas : List Area) (at number : ℕ) {met i : ℕ} → length areas ≡ met → i ≡ index_of areas number → judge_numbers (is_past met (i ∷ [])) at (number ∷ []) ≡ judge_named areas at (number ∷ [])
unfolding judge_numbers first_at
one_judged areas at number e f = rw (← e, f)

pub two_judged : (areas : List Area) (at number other : ℕ) {met i j : ℕ} → length areas ≡ met → i ≡ index_of areas number → j ≡ index_of areas other
    → judge_numbers (is_past met (i ∷ j ∷ [])) at (number ∷ other ∷ []) ≡ judge_named areas at (number ∷ other ∷ [])
unfolding judge_numbers first_at
two_judged areas at number other e f g = rw (← e, f, g)
