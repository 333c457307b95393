-- The ways in which `relate` comes to its answer, with what was met on each. Assumes nothing.
use Prim.Native.Nat.{ℕ, zero, suc, ◌+◌}
use mathlib.Core.Path.{◌≡◌, refl}
use mathlib.Core.Bool.{Bool, true, false, not, ◌&&◌}
use mathlib.Core.List.{List}
use lib.Ieee.{Float}
use Rattle.cap.specs.Caps.{intersects}
use Rattle.minor_arc.specs.declared.Mode.{Mode}
use Rattle.minor_arc.specs.declared.Mode.TheVariants.{Plain, Long}
use Rattle.loop_header.specs.declared.Header.{Header}
use Rattle.ring_pair.specs.Contacts.{is_crossed, is_touched, contact_of}
use Rattle.loop_ask.specs.Answers.{Told, refused, answer, judged}
use Rattle.loop_ask.specs.Places.{cleared_cap}
use Rattle.loop_ask.specs.Questions.{full_state, pair_fault, equivalent_loops}
use Rattle.loop_relate.specs.Relations.{empty_state, lies_in, by_containment, edges_if, by_edges, equal_if, disjoint_if, caps_meet, by_caps, full_if, by_states, relate_fault, relate_answer}
use Rattle.loop_relate.proofs.Modes.{unrefused}

-- a number for each answer, and above them for each refusal
abbrev pub code : Told → ℕ
code (refused k) = 10 + k
code (answer n) = n

module _ (h : Header) (ps ns : List Float) (cs : List ℕ) (o : Header) (qs ms : List Float) (ds : List ℕ) where
  pub data Way : Told → Type 0 where
    refusal : (k : ℕ) → relate_fault h ps ns cs o qs ms ds ≡ suc k → Way (refused (suc k))
    equal : Way (answer 5)
    full : pair_fault h ps ns cs o qs ms ds ≡ 0 → full_state h.state ≡ true → Way (answer 3)
    caps_apart : h.mode ≡ Plain → intersects (cleared_cap h.cap) (cleared_cap o.cap) ≡ false → Way (answer 0)
    crossing : Way (answer 2)
    points : (t a b : Bool) → is_crossed (contact_of h.mode ps ns h.count qs ms o.count) ≡ false → is_touched (contact_of h.mode ps ns h.count qs ms o.count) ≡ t
        → lies_in h ps o qs ms ≡ a → lies_in o qs h ps ns ≡ b → Way (by_containment t a b)

  pub way : Way (relate_answer h ps ns cs o qs ms ds)
  unfolding relate_answer by_states by_caps by_edges
  way = by_judge (relate_fault h ps ns cs o qs ms ds) refl
    where
      by_crossing : (b : Bool) → is_crossed (contact_of h.mode ps ns h.count qs ms o.count) ≡ b
          → Way (edges_if b (by_containment (is_touched (contact_of h.mode ps ns h.count qs ms o.count)) (lies_in h ps o qs ms) (lies_in o qs h ps ns)))
      by_crossing true e = crossing
      by_crossing false e = points _ _ _ e refl refl refl

      by_equal : (b : Bool) (t : Told) → Way t → Way (equal_if b t)
      by_equal true t w = equal
      by_equal false t w = w

      by_meeting : (b : Bool) (t : Told) → h.mode ≡ Plain → intersects (cleared_cap h.cap) (cleared_cap o.cap) ≡ b → Way t → Way (disjoint_if (not b) t)
      by_meeting true t m e w = w
      by_meeting false t m e w = caps_apart m e

      by_caps_lem : (m : Mode) (t : Told) → h.mode ≡ m → Way t → Way (disjoint_if (not (caps_meet m (cleared_cap h.cap) (cleared_cap o.cap))) t)
      by_caps_lem Plain t e w = by_meeting (intersects (cleared_cap h.cap) (cleared_cap o.cap)) t e refl w
      by_caps_lem Long t e w = w

      by_full : pair_fault h ps ns cs o qs ms ds ≡ 0 → (a b : Bool) (t : Told) → full_state h.state ≡ a → Way t → Way (full_if a b t)
      by_full f true true t e w = equal
      by_full f true false t e w = full f e
      by_full f false b t e w = w

      by_judge : (k : ℕ) → relate_fault h ps ns cs o qs ms ds ≡ k → Way (judged k (by_states h ps ns cs o qs ms ds))
      by_judge (suc k) e = refusal k e
      by_judge zero e =
          by_full (unrefused h ps ns cs o qs ms ds e).0 (full_state h.state) (full_state o.state) _ refl
          (by_equal (empty_state h.state && empty_state o.state) _
          (by_caps_lem h.mode _ refl
          (by_equal (equivalent_loops h ps cs o qs ds) _ (by_crossing (is_crossed (contact_of h.mode ps ns h.count qs ms o.count)) refl))))
