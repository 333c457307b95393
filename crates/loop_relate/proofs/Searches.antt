-- A pair is searched exactly where nothing before the points decides. Assumes nothing.
use Prim.Native.Nat.{ℕ}
use mathlib.Core.Path.{◌≡◌, refl, sym}
use mathlib.Core.Bool.{Bool, true, false, not, ◌&&◌, false≢true}
use mathlib.Core.List.{List}
use lib.Ieee.{Float}
use Rattle.minor_arc.specs.declared.Mode.{Mode}
use Rattle.minor_arc.specs.declared.Mode.TheVariants.{Plain}
use Rattle.loop_header.specs.declared.Header.{Header}
use Rattle.ring_pair.specs.Contacts.{is_crossed, is_touched, contact_of}
use Rattle.loop_ask.specs.Answers.{Told}
use Rattle.loop_ask.specs.Places.{cleared_cap}
use Rattle.loop_ask.specs.Questions.{full_state, equivalent_loops}
use Rattle.loop_relate.specs.Relations.{empty_state, lies_in, by_containment, edges_if, by_edges, equal_if, disjoint_if, caps_meet, by_caps, full_if, by_states, relate_fault, relate_answer, searched}
use Rattle.loop_relate.proofs.Modes.{asked_plain}
use Rattle.loop_relate.specs.Silence.{Decided, equal, full_contains, caps_apart, crossing}

-- the five tests in a row: full, both empty, caps, equivalent, crossed
abbrev tested : Bool → Bool → Bool → Bool → Bool → Bool
tested full empty caps same cross = not full && not empty && caps && not same && not cross

abbrev told : Bool → Bool → Bool → Bool → Bool → Bool → Told → Told
told full other empty caps same cross t = full_if full other (equal_if empty (disjoint_if (not caps) (equal_if same (edges_if cross t))))

passed : (full other empty caps same cross : Bool) (t : Told) → tested full empty caps same cross ≡ true → told full other empty caps same cross t ≡ t
passed true other empty caps same cross t e = absurd (false≢true e)
passed false other true caps same cross t e = absurd (false≢true e)
passed false other false false same cross t e = absurd (false≢true e)
passed false other false true true cross t e = absurd (false≢true e)
passed false other false true false true t e = absurd (false≢true e)
passed false other false true false false t e = refl

stopped : (mode : Mode) (full other empty caps same cross : Bool) (t : Told) → (caps ≡ false → mode ≡ Plain) → tested full empty caps same cross ≡ false
    → Decided mode (told full other empty caps same cross t)
stopped mode true true empty caps same cross t p e = equal
stopped mode true false empty caps same cross t p e = full_contains
stopped mode false other true caps same cross t p e = equal
stopped mode false other false false same cross t p e = caps_apart (p refl)
stopped mode false other false true true cross t p e = equal
stopped mode false other false true false true t p e = crossing
stopped mode false other false true false false t p e = absurd (false≢true (sym e))

module _ (h : Header) (ps ns : List Float) (cs : List ℕ) (o : Header) (qs ms : List Float) (ds : List ℕ) (f : relate_fault h ps ns cs o qs ms ds ≡ 0) where
  pub searched_says : searched h ps ns cs o qs ms ds ≡ true
      → relate_answer h ps ns cs o qs ms ds ≡ by_containment (is_touched (contact_of h.mode ps ns h.count qs ms o.count)) (lies_in h ps o qs ms) (lies_in o qs h ps ns)
  unfolding relate_answer by_states by_caps by_edges searched
  searched_says e =
      rw f (passed (full_state h.state) (full_state o.state) (empty_state h.state && empty_state o.state) (caps_meet h.mode (cleared_cap h.cap) (cleared_cap o.cap))
      (equivalent_loops h ps cs o qs ds) (is_crossed (contact_of h.mode ps ns h.count qs ms o.count)) _ e)

  pub unsearched_says : searched h ps ns cs o qs ms ds ≡ false → Decided h.mode (relate_answer h ps ns cs o qs ms ds)
  unfolding relate_answer by_states by_caps by_edges searched
  unsearched_says e =
      let meet = caps_meet h.mode (cleared_cap h.cap) (cleared_cap o.cap) in
      rw f (stopped h.mode (full_state h.state) (full_state o.state) (empty_state h.state && empty_state o.state) meet
      (equivalent_loops h ps cs o qs ds) (is_crossed (contact_of h.mode ps ns h.count qs ms o.count)) _ (asked_plain h.mode _ _) e)
