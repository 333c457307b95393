-- Wrong programs of the two modes: what the definition says of each input is computed, and is not what they say. Assumes nothing.
use Prim.Native.Nat.{ℕ, ◌+◌}
use native.Mathlib.Omega.{arith}
use lib.IntN.{ℤ, pos, negsuc}
use mathlib.Core.Path.{◌≡◌, refl, sym, ap, ◌∙◌}
use mathlib.Core.Bool.{true, false}
use mathlib.Core.List.{List, [], ◌∷◌}
use lib.Ieee.{binary64, to_bits}
use Rattle.laws.specs.Loop.{flat}
use Rattle.wire.specs.Wire.{u64_of, floats_at, bytes8, floats_bytes}
use Rattle.vec3.specs.declared.Vec3.{Vec3}
use Rattle.vec3.specs.Vec.{axis_x, opposite}
use Rattle.minor_arc.specs.declared.Mode.TheVariants.{Plain, Long}
use Rattle.minor_arc.specs.Arcs.{mode_code}
use Rattle.arcs.specs.Answers as Arcs
use Rattle.ring_shape.specs.Shapes.{no_circle, any_without_circle, edges_meet, end_of, meets_later, any_meets_later, simple}
use Rattle.loop_build.specs.Build as Build
use Rattle.loop_ask.specs.Answers as Answers
use Rattle.loop_ask.specs.Questions.{simple_answer, equivalent_answer}
use Rattle.bytes_loop.specs.Layout.{state_of, insides_at, mark_if, header_bytes}
use Rattle.bytes_build.specs.Build.{made_of, corners, need_fault, built_outcome, build_outcome}
use Rattle.theorem_settled.proofs.Computing as Computing
use Rattle.theorem_modes.specs.Longs.{wide, down, with_wide, with_down, in_the_other, in_the_one, built_in, pair}
use Rattle.theorem_modes.proofs.Computing.{of_arcs, of_pairs}
use Rattle.theorem_modes.proofs.Rings.{ring, as_built, with_wide_built, with_down_built, in_the_other_built, in_the_one_built}
use Rattle.theorem_modes.proofs.Longs.{longs}
use Rattle.theorem_wrongs.proofs.Computing.{of_places}
use Rattle.theorem_wrongs.proofs.Apart.{told, answered, sure, of_ring, of_two}
use Rattle.theorem_wrongs.specs.Modes.{half_by_y, half_by_minus_z, twisted, behind, spread, outside_spread, long_four, placed, is_simple, is_equivalent, OfModes}

-- what tells two answers apart, beside proofs/Apart
abbrev number : ℤ → ℕ
number (pos n) = n
number (negsuc n) = 100 + n

abbrev arc_told_lem : Arcs.Told → ℕ
arc_told_lem (Arcs.refused k) = 100 + k
arc_told_lem (Arcs.answer n vs) = number n

abbrev first_x : List Vec3 → ℕ
first_x [] = 0
first_x (v ∷ vs) = to_bits binary64 v.x

abbrev point : Arcs.Told → ℕ
point (Arcs.refused k) = 0
point (Arcs.answer n vs) = first_x vs

abbrev header_mode : Build.Told → ℕ
header_mode (Build.refused k) = 9
header_mode (Build.loop h) = mode_code h.mode

-- ---- the rings, computed once
twisted_built : long_four twisted ≡ ring Long twisted 4 false (1 ∷ 0 ∷ 0 ∷ 1 ∷ [])
unfolding Computing.of_building
twisted_built = as_built Long twisted 4 false (1 ∷ 0 ∷ 0 ∷ 1 ∷ []) (record { fine = refl; counted = refl; more = refl; turned = refl; classed = refl; other = refl })

spread_built : long_four spread ≡ ring Long spread 4 true (0 ∷ 0 ∷ 1 ∷ 0 ∷ [])
unfolding Computing.of_building
spread_built = as_built Long spread 4 true (0 ∷ 0 ∷ 1 ∷ 0 ∷ []) (record { fine = refl; counted = refl; more = refl; turned = refl; classed = refl; other = refl })

behind_built : built_in Long behind ≡ ring Long behind 3 false (0 ∷ 0 ∷ 0 ∷ [])
unfolding Computing.of_building
behind_built = as_built Long behind 3 false (0 ∷ 0 ∷ 0 ∷ []) (record { fine = refl; counted = refl; more = refl; turned = refl; classed = refl; other = refl })

unfoldable of_shapes : ℕ
unfolding of_places no_circle any_without_circle edges_meet end_of meets_later any_meets_later simple simple_answer
of_shapes = 0

unfoldable of_bytes : ℕ
unfolding Computing.of_building flat u64_of floats_at bytes8 floats_bytes state_of insides_at mark_if header_bytes made_of corners need_fault built_outcome build_outcome to_bits
of_bytes = 0

unfoldable of_answers : ℕ
unfolding of_arcs Computing.of_judging Arcs.arc_fault Arcs.relate_told Arcs.intersection_told to_bits
of_answers = 0

-- ---- arcs
start_side_alone : Arcs.relate_answer Long wide down ≡ Arcs.relate_answer Plain wide down → ⊥
unfolding of_answers
start_side_alone e = let n : ◌≡◌ {A = ℕ} 1 0 = ap arc_told_lem e in omega (arith, n)

start_side_alone_met : Arcs.intersection_answer Long wide down ≡ Arcs.answer (pos 0) [] → ⊥
unfolding of_answers
start_side_alone_met e = let n : ◌≡◌ {A = ℕ} 1 0 = ap arc_told_lem e in omega (arith, n)

opposite_reported : Arcs.relate_answer Long half_by_y half_by_minus_z ≡ Arcs.answer (pos 2) (opposite axis_x ∷ []) → ⊥
unfolding of_answers
opposite_reported e = let n : ◌≡◌ {A = ℕ} 0x3ff0_0000_0000_0000 0xbff0_0000_0000_0000 = ap point e in omega (arith, n)

-- ---- one loop
place_by_the_plain_rule : placed (long_four spread) outside_spread ≡ Answers.answer 1 → ⊥
unfolding of_places
place_by_the_plain_rule e = let n : ◌≡◌ {A = ℕ} 0 1 = ap told (of_ring spread_built (λ o. placed o outside_spread ≡ Answers.answer 1) e) in omega (arith, n)

cap_kept_in_a_place : placed (long_four twisted) (opposite axis_x) ≡ Answers.answer 0 → ⊥
unfolding of_places
cap_kept_in_a_place e = let n : ◌≡◌ {A = ℕ} 1 0 = ap told (of_ring twisted_built (λ o. placed o (opposite axis_x) ≡ Answers.answer 0) e) in omega (arith, n)

simple_by_the_plain_rule : is_simple (long_four twisted) ≡ Answers.answer 1 → ⊥
unfolding of_shapes
simple_by_the_plain_rule e = let n : ◌≡◌ {A = ℕ} 0 1 = ap told (of_ring twisted_built (λ o. is_simple o ≡ Answers.answer 1) e) in omega (arith, n)

-- ---- two loops
caps_kept_in_a_pair : pair (long_four twisted) (built_in Long behind) ≡ Answers.answer 0 → ⊥
unfolding of_pairs of_places
caps_kept_in_a_pair e = let n : ◌≡◌ {A = ℕ} 3 0 = ap told (of_two twisted_built behind_built (Answers.answer 0) e) in omega (arith, n)

-- a plain loop and a long one: 11
wide_and_down : pair (built_in Plain with_wide) (built_in Long with_down) ≡ Answers.refused 11
unfolding of_pairs
wide_and_down = of_two (sym (with_wide_built Plain)) (sym (with_down_built Long)) (Answers.refused 11) refl

one_and_other : pair (built_in Plain in_the_other) (built_in Long in_the_one) ≡ Answers.refused 11
unfolding of_pairs
one_and_other = of_two (sym (in_the_other_built Plain)) (sym (in_the_one_built Long)) (Answers.refused 11) refl

eleven_by_equivalent : is_equivalent (built_in Plain with_wide) (built_in Long with_wide) ≡ Answers.refused 11 → ⊥
unfolding of_pairs equivalent_answer
eleven_by_equivalent e =
    let f = of_ring (with_wide_built Plain) (λ o. is_equivalent o (built_in Long with_wide) ≡ Answers.refused 11) e in
    let n : ◌≡◌ {A = ℕ} 1 111 = ap told (of_ring (with_wide_built Long) (λ o. is_equivalent (ring Plain with_wide 3 false (0 ∷ 0 ∷ 0 ∷ [])) o ≡ Answers.refused 11) f) in
    omega (arith, n)

pub of_modes : OfModes
unfolding Computing.of_relating of_bytes
of_modes = record {
  start_side_alone = start_side_alone;
  start_side_alone_met = start_side_alone_met;
  both_in_plain_mode = λ e. let n : ◌≡◌ {A = ℕ} 0 2 = ap told (sym longs.of_loops.plain ∙ e) in omega (arith, n);
  opposite_reported = opposite_reported;
  place_by_the_plain_rule = place_by_the_plain_rule;
  cap_kept_in_a_place = cap_kept_in_a_place;
  simple_by_the_plain_rule = simple_by_the_plain_rule;
  caps_kept_in_a_pair = caps_kept_in_a_pair;
  first_mode_for_both = λ e. let n : ◌≡◌ {A = ℕ} 111 0 = ap told (sym wide_and_down ∙ e ∙ longs.of_loops.plain) in omega (arith, n);
  second_mode_for_both = λ e. let n : ◌≡◌ {A = ℕ} 111 2 = ap told (sym wide_and_down ∙ e ∙ longs.of_loops.long) in omega (arith, n);
  eleven_before_four = λ e. let n : ◌≡◌ {A = ℕ} 104 111 = ap told e in omega (arith, n);
  eleven_before_three = λ e. let n : ◌≡◌ {A = ℕ} 103 111 = ap told e in omega (arith, n);
  seven_before_eleven = λ e. let n : ◌≡◌ {A = ℕ} 111 107 = ap told (sym one_and_other ∙ e) in omega (arith, n);
  full_without_eleven = λ k e. let n : ◌≡◌ {A = ℕ} 0 1 = ap answered e in omega (arith, n);
  empty_without_eleven = λ k e. let n : ◌≡◌ {A = ℕ} 0 1 = ap answered e in omega (arith, n);
  eleven_by_equivalent = eleven_by_equivalent;
  empty_without_mode = λ e. let n : ◌≡◌ {A = ℕ} 1 0 = ap header_mode e in omega (arith, n);
  full_without_mode = λ e. let n : ◌≡◌ {A = ℕ} 1 0 = ap header_mode e in omega (arith, n);
  mark_8_not_written = λ e. let n : ◌≡◌ {A = ℕ} 8 0 = e in omega (arith, n);
  mark_8_for_weak = λ e. let n : ◌≡◌ {A = ℕ} 0 1 = ap sure e in omega (arith, n);
  mark_8_passed_over = λ e. let n : ◌≡◌ {A = ℕ} 1 0 = ap mode_code e in omega (arith, n);
  weak_for_long = λ e. let n : ◌≡◌ {A = ℕ} 0 1 = ap mode_code e in omega (arith, n);
}
