-- Wrong bounds, marks and sums of angles are refuted by computing both sides at one input. Assumes nothing.
use Prim.Native.Nat.{ℕ, ◌-◌, ◌≤◌}
use native.Mathlib.Nat.{le_of_eq}
use mathlib.Core.Path.{◌≡◌, refl, sym, ap, ◌∙◌, subst}
use mathlib.Core.Bool.{true, false}
use mathlib.Core.List.{List, []}
use lib.Dec.{T, leb, lit≤, lit<}
use borrow.Author.Tests.{le-leb}
use lib.Ieee.{Float, binary64, to_bits}
use Rattle.numbers.specs.F64 as F64
use Rattle.numbers.specs.F64.{two}
use Rattle.angle.specs.Arctan.{atan2}
use Rattle.minor_arc.specs.declared.Mode.TheVariants.{Plain}
use Rattle.exact_angles.specs.Exact.{coef, power, term, partial, slope, first, around, quarter, Within, AlwaysNear}
use Rattle.exact_angles.specs.Steady.{low_sum, high_sum, total, Decides}
use Rattle.exact_angles.proofs.Total.{placed}
use Rattle.ring_turns.specs.Turns.{turn_sum}
use Rattle.ring_turns.specs.Blocks.{sine_at, cosine_at}
use Rattle.loop_header.specs.declared.Header.{Header}
use Rattle.loop_header.specs.declared.State.TheVariants.{Ring}
use Rattle.loop_header.specs.Loops.{empty_header}
use Rattle.loop_build.specs.Build.{opened_count, Outcome, loop, build_outcome}
use Rattle.theorem_settled.specs.Settled.{area_1, blank, blank_classes}
use Rattle.theorem_settled.proofs.Computing.{of_turns, of_building}
use Rattle.theorem_steady.specs.Turns.{pairs_from, turn_pairs}
use Rattle.theorem_steady.specs.Directed.{SumBelow, Directed}
use Rattle.theorem_wrongs.proofs.Rings.{area_1_built}
use Rattle.theorem_wrongs.specs.Angles.{minus_ten, double_angle, wide_ends, turns_of, exchanged, OfAngles}

-- ---- the exact angles, computed
unfoldable pub of_exact : ℕ
unfolding of_turns coef power term partial slope first around low_sum high_sum
of_exact = 0

-- a comparison of two numbers that computes to no
not_at_most : (a b : ℕ) → leb a b ≡ false → a ≤ b → ⊥
not_at_most a b e h = subst T (sym (le-leb a b h) ∙ e) tt

bound_of_52 : AlwaysNear 52 → ⊥
unfolding of_exact
bound_of_52 h = not_at_most _ _ refl ((h two minus_ten (lit< tt)).below 60 (lit≤ tt))

two_zeros_at_a_quarter : Within 45 (atan2 F64.zero F64.zero) false quarter → ⊥
unfolding of_exact
two_zeros_at_a_quarter h = not_at_most _ _ refl (h.below 48 (lit≤ tt))

-- the float sum is 2 ^ -53, and the lower end of the exact one not above 0
mark_of_60 : Decides 60 48 → ⊥
unfolding of_exact
mark_of_60 h = not_at_most _ _ refl (h double_angle (lit≤ tt) (tt, (tt, (tt, tt))) (lit≤ tt) 48 (lit≤ tt))

from_the_first_ends : Decides 30 0 → ⊥
unfolding of_exact
from_the_first_ends h = not_at_most _ _ refl (h wide_ends (lit≤ tt) (tt, (tt, tt)) (lit≤ tt) 0 (lit≤ tt))

-- X, Y, Z: two of the three turns, and all of them; and the sum of the arctangents of cosine by sine
last_turn_left_out : ((l : List Float) (n : ℕ) → (turns_of (n - 1) l n).0 ≡ total F64.zero (turn_pairs l n)) → ⊥
unfolding of_turns pairs_from sine_at cosine_at to_bits
last_turn_left_out h =
    not_at_most (to_bits binary64 (total F64.zero (turn_pairs area_1 3))) (to_bits binary64 (turns_of 2 area_1 3).0) refl
    (le_of_eq (ap (to_bits binary64) (sym (h area_1 3))))

sine_for_cosine : ((l : List Float) (n : ℕ) → (turn_sum l n).0 ≡ total F64.zero (exchanged (turn_pairs l n))) → ⊥
unfolding of_turns pairs_from sine_at cosine_at to_bits
sine_for_cosine h =
    not_at_most (to_bits binary64 (turn_sum area_1 3).0) (to_bits binary64 (total F64.zero (exchanged (turn_pairs area_1 3)))) refl
    (le_of_eq (ap (to_bits binary64) (h area_1 3)))

reversed_for_kept : ((l ps ns : List Float) (cs : List ℕ) (h : Header) → (build_outcome Plain l ps ns cs).answer ≡ loop h → h.state ≡ Ring → h.weak ≡ false
    → h.reversed ≡ true → SumBelow l (opened_count l)) → ⊥
unfolding of_exact of_building pairs_from sine_at cosine_at
reversed_for_kept h = not_at_most _ _ refl (h area_1 (blank 3) (blank 3) (blank_classes 3) _ (ap (λ (o : Outcome). o.answer) area_1_built) refl refl refl 48 (lit≤ tt))

of_every_state : ((l ps ns : List Float) (cs : List ℕ) (h : Header) → (build_outcome Plain l ps ns cs).answer ≡ loop h → h.weak ≡ false → Directed l h) → ⊥
unfolding of_exact of_building pairs_from
of_every_state h = not_at_most _ _ refl ((h [] [] [] [] (empty_header Plain) refl refl).kept refl 48 (lit≤ tt))

pub of_angles : OfAngles
of_angles = record {
  bound_of_52 = bound_of_52;
  two_zeros_at_a_quarter = two_zeros_at_a_quarter;
  two_zeros = λ s t e d. (placed s t 0 0 e d).within;
  mark_of_60 = mark_of_60;
  from_the_first_ends = from_the_first_ends;
  last_turn_left_out = last_turn_left_out;
  of_all_turns = λ l n. unfold turn_sum in refl;
  sine_for_cosine = sine_for_cosine;
  reversed_for_kept = reversed_for_kept;
  of_every_state = of_every_state;
}
