-- Demand 3, of the two public functions: what the checker's yes says, and what cutting leaves. Assumes nothing.
use Prim.Native.Nat.{ℕ, zero, suc, ◌-◌, ◌*◌, ◌%◌, ◌≤◌}
use mathlib.Core.Path.{◌≡◌, refl, sym, ap, ◌∙◌}
use mathlib.Core.Bool.{Bool, true, false, false≢true}
use mathlib.Core.List.{List, ◌++◌}
use native.Mathlib.Omega.{arith}
use lib.ListN.{length, drop}
use lib.Ieee.{Float}
use borrow.Author.Tests.{le-ltb}
use Rattle.laws.proofs.Firsts.{first_zero_lem}
use Rattle.ring_theory.specs.Demand3.{Demand3}
use Rattle.ring_cut.specs.Cut as C
use Rattle.ring_cut.specs.Accepted.{CutBy, Eligible, Lowest}
use Rattle.ring_check.specs.Accepted.{accepted}
use Rattle.ring_check.specs.Demand.{MeetsNoEar}
use Rattle.ring_check.proofs.Theorems.{demand}
use Rattle.loop_header.specs.declared.Header.{Header}
use Rattle.loop_header.specs.declared.State.TheVariants.{Ring}
use Rattle.loop_header.specs.Loops.{shape_fault, ring_fault, cut_fault, check_fault}
use Rattle.loop_ask.specs.Answers.{refused, answer, bool_told, judged}
use Rattle.loop_triangles.specs.Triangles.{Outcome, outcome, laid, ring_outcome, triangulate_outcome, accepts_answer}
use Rattle.loop_triangles.specs.Demand.{Cuttable, OwnList, Cutting, stuck, through, Ears, Demand}
use Rattle.loop_triangles.proofs.Outs.{check_ring, cut_ring}

-- ---- the checker
yes_judged : (k : ℕ) (b : Bool) → judged k (bool_told b) ≡ answer 1 → (k ≡ 0) × (b ≡ true)
yes_judged zero true e = (refl, refl)
yes_judged zero false e = let z : ◌≡◌ {A = ℕ} 0 1 = cc in absurd (omega arith)
yes_judged (suc k) b e = let z : ◌≡◌ {A = ℕ} 0 1 = cc in absurd (omega arith)

module _ (h : Header) (ps : List Float) (cs tris : List ℕ) where
  -- a yes is given exactly if nothing is refused and the list is accepted
  pub yes_accepted : accepts_answer h ps cs tris ≡ answer 1 → (check_fault h ps cs (length tris) ≡ 0) × (accepted ps cs tris ≡ true)
  unfolding accepts_answer
  yes_accepted e = yes_judged _ _ e

  pub accepted_yes : check_fault h ps cs (length tris) ≡ 0 → accepted ps cs tris ≡ true → accepts_answer h ps cs tris ≡ answer 1
  unfolding accepts_answer
  accepted_yes f a = rw (f, a)

  -- so each triple but the last is an eligible ear of the ring then left, the last that ring's three, in n - 2 triples whose sides pair up and do not cross
  pub yes_ears : accepts_answer h ps cs tris ≡ answer 1 → CutBy ps (Eligible ps) (C.whole_ring cs) tris
  yes_ears e =
      let p = yes_accepted e in
      (demand ps cs (check_ring h ps cs (length tris) (sym p.0)).least).only_ears tris p.1

  pub yes_sides : accepts_answer h ps cs tris ≡ answer 1 → Demand3 (length cs) tris
  yes_sides e =
      let p = yes_accepted e in
      (demand ps cs (check_ring h ps cs (length tris) (sym p.0)).least).sides tris p.1

-- ---- our own cutting of a ring that is not refused, given room
module _ (h : Header) (ps : List Float) (cs tris : List ℕ) (f : cut_fault h ps cs ≡ 0) (r : h.state ≡ Ring) (room : 3 * (length cs - 2) ≤ length tris) where
  whole : C.Ring ps cs
  whole = cut_ring h ps cs (sym f) r

  pub cut_is : triangulate_outcome h ps cs tris ≡ laid (C.cut_ring_outcome ps cs tris) (length cs - 2)
  unfolding triangulate_outcome ring_outcome
  cut_is = rw (f, r, le-ltb _ _ room)

  stuck_out : (C.cutting_of ps cs).stuck ≡ true → C.cut_ring_outcome ps cs tris ≡ record { answer = false; out = tris }
  unfolding C.cut_ring_outcome
  stuck_out e = rw e

  cut_through : (C.cutting_of ps cs).stuck ≡ false → C.cut_ring_outcome ps cs tris ≡ record { answer = true; out = (C.cutting_of ps cs).triangles ++ drop (length (C.cutting_of ps cs).triangles) tris }
  unfolding C.cut_ring_outcome
  cut_through e = rw e

  -- it refuses exactly if a ring above three that it reaches has no eligible ear, and then changes nothing
  pub no_ear_refused : MeetsNoEar ps (C.whole_ring cs) → triangulate_outcome h ps cs tris ≡ outcome (refused 8) tris
  no_ear_refused m = cut_is ∙ ap (λ (o : C.Outcome). laid o (length cs - 2)) (stuck_out ((demand ps cs whole.least).meets_stuck m))

  stuck_or : (b : Bool) → (C.cutting_of ps cs).stuck ≡ b → (triangulate_outcome h ps cs tris).answer ≡ refused 8 → b ≡ true
  stuck_or true e q = refl
  stuck_or false e q =
      let a : answer (length cs - 2) ≡ refused 8 = sym (ap (λ (o : Outcome). o.answer) (cut_is ∙ ap (λ (o : C.Outcome). laid o (length cs - 2)) (cut_through e))) ∙ q in
      let z : ◌≡◌ {A = ℕ} 0 1 = cc in
      absurd (omega arith)

  pub refused_no_ear : (triangulate_outcome h ps cs tris).answer ≡ refused 8 → MeetsNoEar ps (C.whole_ring cs)
  refused_no_ear q = (demand ps cs whole.least).stuck_meets (stuck_or (C.cutting_of ps cs).stuck refl q)

  -- otherwise it answers n - 2, and what it leaves begins with a list that takes the lowest ear each time and that the checker accepts
  pub cut_lowest : (C.cutting_of ps cs).stuck ≡ false
      → (triangulate_outcome h ps cs tris ≡ outcome (answer (length cs - 2)) ((C.cutting_of ps cs).triangles ++ drop (length (C.cutting_of ps cs).triangles) tris))
      × CutBy ps (Lowest ps) (C.whole_ring cs) (C.cutting_of ps cs).triangles × (accepted ps cs (C.cutting_of ps cs).triangles ≡ true)
  cut_lowest e = (cut_is ∙ ap (λ (o : C.Outcome). laid o (length cs - 2)) (cut_through e), (demand ps cs whole.least).lowest e, (demand ps cs whole.least).own_list e)

-- ---- all of it, over both functions
module _ (h : Header) (ps : List Float) (cs tris : List ℕ) where
  ears_only : accepts_answer h ps cs tris ≡ answer 1 → Ears ps cs tris
  ears_only e = record { count = (yes_sides h ps cs tris e).count; ears = yes_ears h ps cs tris e }

  ears_all : check_fault h ps cs (length tris) ≡ 0 → Ears ps cs tris → accepts_answer h ps cs tris ≡ answer 1
  ears_all f e = accepted_yes h ps cs tris f ((demand ps cs (check_ring h ps cs (length tris) (sym f)).least).all_ears tris e.ears)

  no_or_yes : (b : Bool) → accepted ps cs tris ≡ b → check_fault h ps cs (length tris) ≡ 0 → (Ears ps cs tris → ⊥) → accepts_answer h ps cs tris ≡ answer 0
  unfolding accepts_answer
  no_or_yes true e f n = absurd (n (ears_only (accepted_yes h ps cs tris f e)))
  no_or_yes false e f n = rw (f, e)

  threes : (size m : ℕ) → size ≡ 3 * m → size % 3 ≡ 0
  threes size m e = omega arith

  -- a list of n - 2 triples for a ring that is not refused is not refused either
  checkable : cut_fault h ps cs ≡ 0 → h.state ≡ Ring → length tris ≡ 3 * (length cs - 2) → check_fault h ps cs (length tris) ≡ 0
  unfolding check_fault cut_fault
  checkable f r l =
      let fine = first_zero_lem (shape_fault h ps cs) (ring_fault h ps cs) f in
      simp (threes (length tris) (length cs - 2) l, fine.0, fine.1, r)

module _ (h : Header) (ps : List Float) (cs tris : List ℕ) (g : Cuttable h ps cs tris) where
  abbrev own : List ℕ
  own = (C.cutting_of ps cs).triangles

  not_met : (C.cutting_of ps cs).stuck ≡ false → MeetsNoEar ps (C.whole_ring cs) → ⊥
  not_met e m = false≢true (sym e ∙ (demand ps cs (cut_ring h ps cs (sym g.fine) g.ring).least).meets_stuck m)

  own_list : (C.cutting_of ps cs).stuck ≡ false → OwnList h ps cs tris
  own_list e =
      let c = cut_lowest h ps cs tris g.fine g.ring g.room e in
      let d = (demand ps cs (cut_ring h ps cs (sym g.fine) g.ring).least).sides own c.2 in
      record {
        list = own;
        answered = c.0;
        lowest = c.1;
        accepted = accepted_yes h ps cs own (checkable h ps cs own g.fine g.ring d.count) c.2;
        sides = d;
      }

  one_or_other : (b : Bool) → (C.cutting_of ps cs).stuck ≡ b → Cutting h ps cs tris
  one_or_other true e =
      let m = (demand ps cs (cut_ring h ps cs (sym g.fine) g.ring).least).stuck_meets e in
      stuck m (no_ear_refused h ps cs tris g.fine g.ring g.room m)
  one_or_other false e = through (not_met e) (own_list e)

pub demand_3 : Demand
demand_3 = record {
  yes_only = ears_only;
  yes_all = ears_all;
  else_no = λ h ps cs tris f n. no_or_yes h ps cs tris (accepted ps cs tris) refl f n;
  sides = yes_sides;
  cutting = λ h ps cs tris g. one_or_other h ps cs tris g (C.cutting_of ps cs).stuck refl;
}
