-- Every loop that `build` answers, a ring and steady, has its direction by the exact sum: from the answer back to the list, by cases. Assumes nothing.
use Prim.Native.Nat.{ℕ, zero, suc, ◌/◌, ◌≤◌}
use mathlib.Core.Path.{◌≡◌, refl, sym, ap, ◌∙◌, subst}
use mathlib.Core.Bool.{Bool, true, false, not}
use mathlib.Core.List.{List}
use native.Mathlib.Omega.{arith}
use lib.Dec.{T, ltb, lit≤}
use lib.ListN.{length}
use lib.Ieee.{Float}
use Rattle.laws.proofs.Firsts.{first_of_zero, first_of_fine}
use Rattle.angle.specs.Angles.{weak, clockwise}
use Rattle.minor_arc.specs.declared.Mode.{Mode}
use Rattle.minor_arc.specs.declared.Mode.TheVariants.{Plain}
use Rattle.judge.specs.Judge.{position_fault, positions_fault}
use Rattle.exact_angles.proofs.Sums.{not_both}
use Rattle.ring_turns.specs.Turns.{turn_sum}
use Rattle.ring_corners.specs.Corners.{reversal, classes_of, all_both}
use Rattle.ring_corners.proofs.Openings.{opened_le}
use Rattle.loop_header.specs.declared.Header.{Header}
use Rattle.loop_header.specs.declared.State.{State}
use Rattle.loop_header.specs.declared.State.TheVariants.{Empty, Full, Ring}
use Rattle.loop_header.specs.Loops.{empty_header}
use Rattle.loop_build.specs.Build.{Told, refused, loop, refusal, opened_count, build_outcome, outcome_by, outcome_if, made, made_if, ring_header}
use Rattle.loop_build.proofs.Rooms.{Listed, list_fine, fine}
use Rattle.theorem_steady.specs.Turns.{turn_pairs}
use Rattle.theorem_steady.specs.Directed.{Directed, SumBelow, SumAbove}
use Rattle.theorem_steady.proofs.Finite.{turns_aimed, steady_kept, steady_reversed}

-- ---- a list of which no position is refused has none among its first n
fewer_fine : (l : List Float) (m n : ℕ) → n ≤ m → positions_fault l m ≡ 0 → positions_fault l n ≡ 0
fewer_fine l m n b z = first_of_fine (position_fault l) n 0 (λ j h. first_of_zero (position_fault l) m 0 z j (omega arith))

-- ---- what an answer is, told apart
is_loop : Told → Bool
is_loop (refused k) = false
is_loop (loop h) = true

header_of_lem : Told → Header
header_of_lem (refused k) = empty_header Plain
header_of_lem (loop h) = h

is_ring : State → Bool
is_ring Empty = false
is_ring Full = false
is_ring Ring = true

not_ring : (h g : Header) → loop g ≡ loop h → h.state ≡ Ring → is_ring g.state ≡ false → ⊥
unfolding is_ring header_of_lem
not_ring h g q s f = subst T (sym (ap is_ring s) ∙ sym (ap (λ (x : Told). is_ring (header_of_lem x).state) q) ∙ f) tt

not_false : (b : Bool) → not b ≡ false → b ≡ true
not_false true e = refl
not_false false e = sym e

not_true : (b : Bool) → not b ≡ true → b ≡ false
not_true true e = sym e
not_true false e = refl

isnt_true : (b : Bool) → (b ≡ true → ⊥) → b ≡ false
isnt_true true h = absurd (h refl)
isnt_true false h = refl

isnt_false : (b : Bool) → (b ≡ false → ⊥) → b ≡ true
isnt_false true h = refl
isnt_false false h = absurd (h refl)

-- ---- a ring's header: its marks are those of the turn sum, and no sum is on both sides
module _ (l : List Float) (few : opened_count l ≤ 512) (all : positions_fault l (opened_count l) ≡ 0) where
  one_side : SumAbove l (opened_count l) → SumBelow l (opened_count l) → ⊥
  one_side a b = not_both (turn_pairs l (opened_count l)) (turns_aimed l (opened_count l) all) 48 (a 48 (lit≤ tt)) (b 48 (lit≤ tt))

  ring : (mode : Mode) (h : Header) → ring_header mode l (opened_count l) (reversal l (opened_count l)) ≡ h → h.weak ≡ false → Directed l h
  unfolding ring_header reversal
  ring mode h q w =
      let sum = turn_sum l (opened_count l) in
      let steady : weak sum ≡ false = ap (λ (x : Header). x.weak) q ∙ w in
      let mark : not (clockwise sum) ≡ h.reversed = ap (λ (x : Header). x.reversed) q in
      let kept : h.reversed ≡ false → SumBelow l (opened_count l) = λ k. steady_kept l (opened_count l) few all steady (not_false (clockwise sum) (mark ∙ k)) in
      let turned : h.reversed ≡ true → SumAbove l (opened_count l) = λ k. steady_reversed l (opened_count l) few all steady (not_true (clockwise sum) (mark ∙ k)) in
      record {
        kept = kept;
        turned = turned;
        below = λ b. isnt_true h.reversed (λ e. one_side (turned e) b);
        above = λ a. isnt_false h.reversed (λ e. one_side a (kept e));
      }

-- ---- by the refusal, the opened count and the classes
pub directed : (mode : Mode) (l ps ns : List Float) (cs : List ℕ) (h : Header) → (build_outcome mode l ps ns cs).answer ≡ loop h → h.state ≡ Ring → h.weak ≡ false → Directed l h
unfolding build_outcome
directed mode l ps ns cs h e s w = by_refusal (refusal l ps ns cs) refl e
  where
    n : ℕ
    n = opened_count l

    by_classes : Listed l → (both : Bool) → loop (made_if both mode l n (reversal l n) ps ns cs).header ≡ loop h → Directed l h
    by_classes r true q = absurd (not_ring h _ q s (unfold is_ring in refl))
    by_classes r false q =
        let all = fewer_fine l (length l / 3) n (opened_le l (length l / 3)) r.positions_fine in
        ring l r.small all mode h (unfold header_of_lem in ap header_of_lem q) w

    by_count : Listed l → (empty : Bool) → (outcome_if empty mode l n ps ns cs).answer ≡ loop h → Directed l h
    by_count r true q = absurd (not_ring h (empty_header mode) q s (unfold is_ring in refl))
    by_count r false q = unfold made in by_classes r (all_both (classes_of l n (reversal l n))) q

    by_refusal : (k : ℕ) → refusal l ps ns cs ≡ k → (outcome_by k mode l ps ns cs).answer ≡ loop h → Directed l h
    by_refusal zero p q = by_count (list_fine l (fine l ps ns cs p).0) (ltb n 3) q
    by_refusal (suc k) p q = unfold is_loop in absurd (subst T (sym (ap is_loop q)) tt)
