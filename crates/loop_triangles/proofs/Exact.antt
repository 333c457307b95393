-- Each refusal of cutting and the checker is given exactly when SCOPE 25 says, in the order of SCOPE 26: both directions. Assumes nothing.
use Prim.Native.Nat.{ℕ, zero, suc, ◌-◌, ◌*◌, ◌≤◌}
use mathlib.Core.Path.{◌≡◌, refl, sym, ◌∙◌}
use mathlib.Core.Bool.{Bool, true, false, cond, true≢false}
use mathlib.Core.List.{List}
use lib.ListN.{length}
use lib.Dec.{ltb}
use lib.Ieee.{Float}
use borrow.Author.Tests.{ltb-true, ltb-false, lt-ltb, le-ltb}
use Rattle.laws.specs.Loop.{first}
use Rattle.judge.specs.Why.{Exactly}
use Rattle.judge.proofs.Exactly.{exactly, then_exact}
use Rattle.ring_cut.specs.Cut as C
use Rattle.ring_check.specs.Accepted.{accepted}
use Rattle.ring_check.specs.Demand.{MeetsNoEar}
use Rattle.ring_check.proofs.Theorems.{demand}
use Rattle.loop_header.specs.declared.State.{State}
use Rattle.loop_header.specs.declared.State.TheVariants.{Empty, Full, Ring}
use Rattle.loop_header.specs.declared.Header.{Header}
use Rattle.loop_header.specs.Loops.{cut_fault}
use Rattle.loop_header.proofs.Sounds.{cuttable}
use Rattle.loop_header.proofs.Exact as Header
use Rattle.loop_ask.specs.Answers.{answer, judged}
use Rattle.loop_ask.proofs.Exact.{judged_exact, asked_exact}
use Rattle.loop_triangles.specs.Triangles.{Outcome, outcome, roomy, cut_told, full_outcome, ring_outcome, state_outcome, outcome_by, triangulate_outcome, accepts_answer}
use Rattle.loop_triangles.specs.Why.{TrianglesWhy, empty_fits, full_short, full_fits, ring_short, no_ear, ears, TriangulateWhy, Exact}
use Rattle.loop_triangles.proofs.Outs.{cut_ring}

-- ---- what is judged after the loop itself, as a number
module _ (ps : List Float) (cs : List ℕ) (room : ℕ) where
  abbrev ring_fault : ℕ
  ring_fault = first (cond (ltb room (3 * (length cs - 2))) 5 0) (cond (C.cutting_of ps cs).stuck 8 0)

  abbrev state_fault : State → ℕ
  state_fault Empty = 0
  state_fault Full = cond (ltb room 60) 5 0
  state_fault Ring = ring_fault

  full_why : (b : Bool) → ltb room 60 ≡ b → TrianglesWhy (length cs) room ps cs Full (cond b 5 0)
  full_why true e = full_short (ltb-true room 60 e)
  full_why false e = full_fits (ltb-false room 60 e)

  module _ (least : 3 ≤ length cs) where
    ring_why : (b c : Bool) → ltb room (3 * (length cs - 2)) ≡ b → (C.cutting_of ps cs).stuck ≡ c → TrianglesWhy (length cs) room ps cs Ring (first (cond b 5 0) (cond c 8 0))
    ring_why true c e f = ring_short (ltb-true room _ e)
    ring_why false true e f = no_ear (ltb-false room _ e) ((demand ps cs least).stuck_meets f)
    ring_why false false e f = ears (ltb-false room _ e) (λ m. true≢false (sym ((demand ps cs least).meets_stuck m) ∙ f))

    not_stuck : (b : Bool) → (C.cutting_of ps cs).stuck ≡ b → (MeetsNoEar ps (C.whole_ring cs) → ⊥) → (C.cutting_of ps cs).stuck ≡ false
    not_stuck true e f = absurd (f ((demand ps cs least).stuck_meets e))
    not_stuck false e f = e

    why_ring : (k : ℕ) → TrianglesWhy (length cs) room ps cs Ring k → ring_fault ≡ k
    why_ring _ (ring_short r) = rw (lt-ltb room (3 * (length cs - 2)) r)
    why_ring _ (no_ear r m) = rw (le-ltb room (3 * (length cs - 2)) r, (demand ps cs least).meets_stuck m)
    why_ring _ (ears r m) = rw (le-ltb room (3 * (length cs - 2)) r, not_stuck (C.cutting_of ps cs).stuck refl m)

  why_empty : (k : ℕ) → TrianglesWhy (length cs) room ps cs Empty k → 0 ≡ k
  why_empty _ empty_fits = refl

  why_full : (k : ℕ) → TrianglesWhy (length cs) room ps cs Full k → cond (ltb room 60) 5 0 ≡ k
  why_full _ (full_short r) = rw (lt-ltb room 60 r)
  why_full _ (full_fits r) = rw (le-ltb room 60 r)

  state_exact : (s : State) → (s ≡ Ring → 3 ≤ length cs) → Exactly (state_fault s) (TrianglesWhy (length cs) room ps cs s)
  state_exact Empty f = exactly (TrianglesWhy (length cs) room ps cs Empty) empty_fits why_empty
  state_exact Full f = exactly (TrianglesWhy (length cs) room ps cs Full) (full_why (ltb room 60) refl) why_full
  state_exact Ring f =
      exactly (TrianglesWhy (length cs) room ps cs Ring) (ring_why (f refl) (ltb room (3 * (length cs - 2))) (C.cutting_of ps cs).stuck refl refl) (why_ring (f refl))

-- ---- the answer is by that number
abbrev count : State → ℕ → ℕ
count Empty n = 0
count Full n = 20
count Ring n = n

roomy_told : (b : Bool) (tris : List ℕ) (o : Outcome) (k n : ℕ) → o.answer ≡ judged k (answer n) → (roomy b tris o).answer ≡ judged (first (cond b 5 0) k) (answer n)
roomy_told true tris o k n e = refl
roomy_told false tris o k n e = e

full_told : (b : Bool) (tris l : List ℕ) → (roomy b tris (outcome (answer 20) l)).answer ≡ judged (cond b 5 0) (answer 20)
full_told true tris l = refl
full_told false tris l = refl

stuck_told : (b : Bool) (t out : List ℕ) (n : ℕ) → cut_told (C.outcome_if b t out).answer n ≡ judged (cond b 8 0) (answer n)
stuck_told true t out n = refl
stuck_told false t out n = refl

ring_told : (ps : List Float) (cs tris : List ℕ) → (ring_outcome ps cs tris).answer ≡ judged (ring_fault ps cs (length tris)) (answer (length cs - 2))
unfolding ring_outcome C.cut_ring_outcome
ring_told ps cs tris = roomy_told (ltb (length tris) (3 * (length cs - 2))) tris _ _ (length cs - 2) (stuck_told (C.cutting_of ps cs).stuck _ tris (length cs - 2))

state_told : (s : State) (ps : List Float) (cs tris : List ℕ) → (state_outcome s ps cs tris).answer ≡ judged (state_fault ps cs (length tris) s) (answer (count s (length cs - 2)))
unfolding full_outcome
state_told Empty ps cs tris = refl
state_told Full ps cs tris = full_told (ltb (length tris) 60) tris _
state_told Ring ps cs tris = ring_told ps cs tris

by_told : (k m n : ℕ) (tris : List ℕ) (o : Outcome) → o.answer ≡ judged m (answer n) → (outcome_by k tris o).answer ≡ judged (first k m) (answer n)
by_told zero m n tris o e = e
by_told (suc k) m n tris o e = refl

module _ (h : Header) (ps : List Float) (cs tris : List ℕ) where
  later_exact : cut_fault h ps cs ≡ 0 → Exactly (state_fault ps cs (length tris) h.state) (TrianglesWhy h.count (length tris) ps cs h.state)
  later_exact z = rw (← (cuttable h ps cs z).shaped.classes) (state_exact ps cs (length tris) h.state (λ r. (cut_ring h ps cs (sym z) r).least))

  number_exact : Exactly (first (cut_fault h ps cs) (state_fault ps cs (length tris) h.state)) (TriangulateWhy h ps cs tris)
  number_exact = then_exact (Header.exact h ps cs).cutting later_exact

  triangulate_told : (triangulate_outcome h ps cs tris).answer ≡ judged (first (cut_fault h ps cs) (state_fault ps cs (length tris) h.state)) (answer (count h.state (length cs - 2)))
  unfolding triangulate_outcome
  triangulate_told = by_told (cut_fault h ps cs) _ _ tris _ (state_told h.state ps cs tris)

  pub exact : Exact h ps cs tris
  unfolding accepts_answer
  exact = record {
    triangulate = rw triangulate_told (judged_exact number_exact (count h.state (length cs - 2)));
    accepts = asked_exact ((Header.exact h ps cs).checking (length tris)) (accepted ps cs tris);
  }
