-- Each named wrong program is refuted by computing the definition at its input. Assumes nothing.
use Prim.Native.Nat.{ℕ, ◌+◌, ◌-◌, ◌%◌}
use native.Mathlib.Omega.{arith}
use mathlib.Core.Path.{◌≡◌, refl, sym, ap, ◌∙◌}
use mathlib.Core.Bool.{true, false}
use mathlib.Core.List.{List, [], ◌∷◌}
use lib.ListN.{get_or, replicate}
use lib.Ieee.{Float, binary64, to_bits, nan}
use Rattle.std.specs.Prelude.{Ok}
use denote.MutBor.{MutBor}
use denote.Ref.{Bor}
use Rattle.std.specs.Prelude.{Option, None, Some}
use Rattle.outcomes.specs.Outcomes.{One}
use Rattle.numbers.specs.F64.{zero}
use Rattle.vec3.specs.declared.Vec3.{Vec3}
use Rattle.vec3.specs.Vec.{axis_x, axis_y, axis_z}
use Rattle.vec3.specs.Points.{midpoint}
use Rattle.base.specs.declared.Side.{Side}
use Rattle.base.specs.declared.Side.TheVariants.{Left, Right, Collinear}
use Rattle.minor_arc.specs.declared.Mode.TheVariants.{Plain}
use Rattle.judge.specs.Judge.{vector_fault, fault_of}
use Rattle.ring_turns.specs.Turns.{edge_normals}
use Rattle.ring_ears.specs.Ears.{at_cut, before_cut}
use Rattle.loop_header.specs.declared.Header.{Header}
use Rattle.loop_header.specs.Loops.{state_code, empty_header}
use Rattle.loop_build.specs.Build as Build
use Rattle.loop_ask.specs.Answers as Answers
use Rattle.loop_ask.specs.Questions.{place_answer}
use Rattle.loop_triangles.proofs.triangulate as Triangulate
use Rattle.loop_triangles.specs.Triangles.{Outcome, triangulate_outcome}
use Rattle.loop_relate.specs.Relations.{relate_answer}
use Rattle.theorem_settled.specs.Settled.{at, built, blank, blank_classes, area_1, four_corners, four_built, four_checked, full_one_lem, empty_one_lem, related}
use Rattle.theorem_settled.proofs.Computing as Computing
use Rattle.theorem_modes.proofs.Computing.{of_pairs}
use Rattle.theorem_modes.proofs.Rings.{ring}
use Rattle.theorem_modes.proofs.Longs.{longs}
use Rattle.theorem_wrongs.proofs.Computing.{of_places}
use Rattle.theorem_wrongs.proofs.Apart.{told, answered, sure, of_ring, of_two}
use Rattle.theorem_wrongs.proofs.Angles.{of_angles}
use Rattle.theorem_wrongs.proofs.Scenes.{of_scenes}
use Rattle.theorem_wrongs.proofs.Distances.{of_distances}
use Rattle.theorem_wrongs.proofs.Modes.{of_modes}
use Rattle.theorem_wrongs.proofs.Cutters.{by_the_rule}
use Rattle.theorem_wrongs.proofs.Rings.{area_1_built, area_2_built, across_built}
use Rattle.theorem_wrongs.proofs.Rings.{one_mean_built, round_z_built, repeated_built, four_corners_built, five_positions_built, to_and_fro_built, ear_at_first_built, ear_at_last_built}
use Rattle.theorem_wrongs.specs.Modes.{header, placed}
use Rattle.theorem_wrongs.specs.Wrongs.{in_area_1, to_and_fro, cut_from, cut_into, checked, to_full, classes_by_side, one_mean, round_z, muted, four_to, between, answer_alone}
use Rattle.theorem_wrongs.specs.Wrongs.{cutting_by, cut_by, every_afresh, neighbours, cut_outcome}
use Rattle.theorem_wrongs.specs.Wrongs.{OutsideAlways, DisjointAlways, BlankRing, Fan, EmptyPrograms, Traps, OfNumbers, OfBuilding, OfAsking, OfCutting, OfNeighbours, OfRelating, OfMute, OfContracts, Wrongs}

-- what tells two values apart, beside proofs/Apart
abbrev built_as : Build.Told → ℕ
built_as (Build.refused k) = 0
built_as (Build.loop h) = 1

abbrev side : Side → ℕ
side Left = 0
side Right = 1
side Collinear = 2

abbrev inner : Option (Vec3 × Vec3) → ℕ
inner None = 0
inner (Some (a, b)) = 1

abbrev there : Option Vec3 → ℕ
there None = 0
there (Some p) = 1

-- the bits of the float numbered i
abbrev bits : List Float → ℕ → ℕ
bits l i = to_bits binary64 (get_or l i zero)

below : (m n k : ℕ) → m + k + 1 ≡ n → m ≡ n → ⊥
below m n k d e = omega (arith, d, e)

above : (m n k : ℕ) → n + k + 1 ≡ m → m ≡ n → ⊥
above m n k d e = omega (arith, d, e)

outside_always : OutsideAlways
unfolding of_places
outside_always = record {
  in_a_triangle = λ e. above 1 0 0 refl (ap told (of_ring area_1_built (λ o. placed o in_area_1 ≡ Answers.answer 0) e));
  in_a_ring = λ e. above 1 0 0 refl (ap told (of_ring four_corners_built (λ o. placed o axis_z ≡ Answers.answer 0) e));
  in_the_full_loop = λ e. above 1 0 0 refl (ap told e);
  of_a_mute_loop = λ e. above 2 0 1 refl (ap told (of_ring one_mean_built (λ o. placed o axis_y ≡ Answers.answer 0) e));
}

-- area 1 to the full loop is Within, and the full loop to the empty one Containing
to_full_lem : told (to_full (built area_1 3)) ≡ 4
unfolding of_pairs
to_full_lem = of_ring (sym area_1_built) (λ o. told (to_full o) ≡ 4) refl

full_to_empty : related full_one_lem empty_one_lem ≡ Answers.answer 3
unfolding Computing.of_relating
full_to_empty = refl

disjoint_always : DisjointAlways
unfolding of_pairs
disjoint_always = record {
  touching = λ e. above 1 0 0 refl (ap told (of_two area_1_built area_2_built (Answers.answer 0) e));
  intersecting = λ e. above 2 0 1 refl (ap told (of_two area_1_built across_built (Answers.answer 0) e));
  containing = λ e. above 3 0 2 refl (ap told (sym full_to_empty ∙ e));
  within = λ e. above 4 0 3 refl (sym to_full_lem ∙ ap told e);
  equal = λ e. above 5 0 4 refl (ap told (of_two area_1_built area_1_built (Answers.answer 0) e));
}

-- area 1's first corner is Z, the normal of its first edge -X, its first class convex
blank_ring : BlankRing
unfolding Computing.of_building to_bits
blank_ring = record {
  positions = λ e. above 0x3ff0_0000_0000_0000 0 0x3fef_ffff_ffff_ffff refl (ap (λ l. bits l 2) (of_ring area_1_built (λ o. o.positions ≡ blank 3) e));
  normals = λ e. above 0xbff0_0000_0000_0000 0 0xbfef_ffff_ffff_ffff refl (ap (λ l. bits l 0) (of_ring area_1_built (λ o. o.normals ≡ blank 3) e));
  classes = λ e. below 0 2 1 refl (ap (λ l. get_or l 0 9) (of_ring area_1_built (λ o. o.classes ≡ blank_classes 3) e));
}

-- the second triple tells the lists apart: the cutter's begins with 2
second_cut : get_or (cut_into (built to_and_fro 5) (replicate 9 0)) 3 9 ≡ 2
unfolding Computing.of_cutting
second_cut = of_ring (sym to_and_fro_built) (λ o. get_or (cut_into o (replicate 9 0)) 3 9 ≡ 2) refl

fan : Fan
unfolding Computing.of_checking
fan = record {
  cut_from_first = λ e. above 2 0 1 refl (sym second_cut ∙ ap (λ l. get_or l 3 9) e);
  cut_at_first = λ e. below 2 4 1 refl (sym second_cut ∙ ap (λ l. get_or l 3 9) e);
  accepted_from_first = λ e. below 0 1 0 refl (ap told (of_ring to_and_fro_built (λ o. checked o (0 ∷ 1 ∷ 2 ∷ 0 ∷ 2 ∷ 3 ∷ 0 ∷ 3 ∷ 4 ∷ []) ≡ Answers.answer 1) e));
  accepted_at_first = λ e. below 0 1 0 refl (ap told (of_ring to_and_fro_built (λ o. checked o (0 ∷ 1 ∷ 2 ∷ 4 ∷ 0 ∷ 2 ∷ 2 ∷ 3 ∷ 4 ∷ []) ≡ Answers.answer 1) e));
}

-- four corners are cut into two triangles, of which the first is (3,0,1)
two_triangles : told (cut_from four_built (replicate 6 0)) ≡ 2
unfolding Computing.of_cutting
two_triangles = of_ring (sym four_corners_built) (λ o. told (cut_from o (replicate 6 0)) ≡ 2) refl

empty_programs : EmptyPrograms
empty_programs = record {
  refuses_each_list = λ k e. above 1 0 0 refl (ap built_as (of_ring area_1_built (λ o. o.answer ≡ Build.refused k) e));
  outside_always = outside_always;
  disjoint_always = disjoint_always;
  blank_ring = blank_ring;
  fan = fan;
  made_up_count = λ k other e. other (sym (ap told e) ∙ two_triangles);
}

traps : Traps
unfolding Computing.of_asking Computing.of_checking cutting_by
traps = record {
  every_vertex_afresh = λ e. below 3 108 104 refl (ap told (of_ring five_positions_built (λ o. cut_from o (replicate 9 0) ≡ (cut_by every_afresh o (replicate 9 0)).answer) e));
  first_by_side = λ e. above 1 0 0 refl (ap (λ l. get_or l 1 9) (of_ring repeated_built (λ o. o.classes ≡ classes_by_side o.positions 4) e));
  strict_side = λ e. above 2 0 1 refl (ap side e);
  corner_inside = λ e. below 0 1 0 refl (ap told (of_ring area_1_built (λ o. placed o axis_x ≡ Answers.answer 1) e));
  by_position = λ e. below 0 1 0 refl (ap told (of_ring repeated_built (λ o. checked o (3 ∷ 0 ∷ 2 ∷ 1 ∷ 2 ∷ 3 ∷ []) ≡ Answers.answer 1) e));
}

of_numbers : OfNumbers
unfolding Computing.of_sides Computing.of_turns fault_of vector_fault midpoint to_bits
of_numbers = record {
  side_turned = λ e. below 0 1 0 refl (ap side e);
  strict_equality = λ e. above 1 0 0 refl (ap sure e);
  root_cut_off = λ e. above 0x3ff6_a09e_667f_3bcd 0x3ff6_a09e_667f_3bcc 0 refl (ap (to_bits binary64) e);
  upper_end_left_out = λ e. below 0 4 3 refl e;
  last_component_passed_over = λ e. above 3 0 2 refl e;
  arctangent_exchanged = λ e. above 0x3ff9_21fb_5444_2d18 0 0x3ff9_21fb_5444_2d17 refl (ap (to_bits binary64) e);
  midpoint_of_antipodes = λ p e. below 0 1 0 refl (ap there e);
  midpoint_without_length = λ p e. below 0 1 0 refl (ap there e);
}

-- the normal of the edge from Y to Y is Z, and worked out again -Z
of_building : OfBuilding
unfolding Computing.of_building Computing.of_caps to_bits
of_building = record {
  room_for_two = λ e. above 1 0 0 refl (ap built_as e);
  room_by_the_list = λ e. above 1 0 0 refl (ap built_as e);
  two_closing_positions = λ e. above 4 3 0 refl e;
  flat_empty = λ e. above 1 0 0 refl (ap state_code e);
  ring_kept = λ e. above 1 0 0 refl (ap sure (of_ring four_corners_built (λ o. (header o).reversed ≡ false) e));
  normals_worked_out_again = λ e. below 0x3ff0_0000_0000_0000 0xbff0_0000_0000_0000 0x7fff_ffff_ffff_ffff refl (ap (λ l. bits l 5) (of_ring repeated_built (λ o. o.normals ≡ edge_normals o.positions 4) e));
  triangle_with_insides = λ a b e. below 0 1 0 refl (ap inner (of_ring area_1_built (λ o. (header o).insides ≡ Some (a, b)) e));
}

of_asking : OfAsking
unfolding Computing.of_asking
of_asking = record {
  query_before_loop = λ e. below 101 103 1 refl (ap told (of_ring four_corners_built (λ o. place_answer (header o) [] [] [] (at nan zero zero) ≡ Answers.refused 3) e));
}

-- what the checker says of a list for the four corners
four_no : (triples : List ℕ) → told (checked (ring Plain four_corners 4 true (0 ∷ 0 ∷ 0 ∷ 0 ∷ [])) triples) ≡ 0 → four_checked triples ≡ Answers.answer 1 → ⊥
four_no triples refuted e = below 0 1 0 refl (sym refuted ∙ ap told (of_ring four_corners_built (λ o. checked o triples ≡ Answers.answer 1) e))

of_cutting : OfCutting
unfolding Computing.of_checking
of_cutting = record {
  fan_of_all = λ e. above 3 0 2 refl (ap (λ l. get_or l 0 9) (of_ring four_corners_built (λ o. cut_into o (replicate 6 0) ≡ 0 ∷ 1 ∷ 2 ∷ 0 ∷ 2 ∷ 3 ∷ []) e));
  class_of_three = λ e. above 106 1 104 refl (ap told (of_ring area_1_built (λ o. (triangulate_outcome (header o) o.positions (3 ∷ 0 ∷ 0 ∷ []) (replicate 3 0)).answer ≡ Answers.answer 1) e));
  room_for_one_less = λ e. above 105 2 102 refl (ap told (of_ring four_corners_built (λ o. cut_from o (replicate 5 0) ≡ Answers.answer 2) e));
  rotated = four_no (0 ∷ 1 ∷ 3 ∷ 1 ∷ 2 ∷ 3 ∷ []) refl;
  one_neighbour = four_no (3 ∷ 0 ∷ 2 ∷ 1 ∷ 2 ∷ 3 ∷ []) refl;
  triple_too_many = four_no (3 ∷ 0 ∷ 1 ∷ 1 ∷ 2 ∷ 3 ∷ 1 ∷ 2 ∷ 3 ∷ []) refl;
  any_corner = λ e. below 0 1 0 refl (ap told (of_ring five_positions_built (λ o. checked o (0 ∷ 1 ∷ 2 ∷ 0 ∷ 2 ∷ 3 ∷ 0 ∷ 3 ∷ 4 ∷ []) ≡ Answers.answer 1) e));
}

-- what tells two outcomes of a cut apart: the answer, or the first number of the second triangle
abbrev cut_told_lem : Outcome → ℕ
cut_told_lem o = told o.answer

abbrev second : Outcome → ℕ
second o = get_or o.triangles 3 9

-- a wrong cutter's outcome and the right one, of the ring that was computed once
of_cutters : {o p : Build.Outcome} (at_cut_lem before_cut_lem : ℕ → ℕ → ℕ) → o ≡ p → cut_outcome o (replicate 9 0) ≡ cut_by (neighbours at_cut_lem before_cut_lem) o (replicate 9 0)
    → cut_outcome p (replicate 9 0) ≡ cut_by (neighbours at_cut_lem before_cut_lem) p (replicate 9 0)
of_cutters at_cut_lem before_cut_lem q e = of_ring q (λ o. cut_outcome o (replicate 9 0) ≡ cut_by (neighbours at_cut_lem before_cut_lem) o (replicate 9 0)) e

of_neighbours : OfNeighbours
unfolding Computing.of_cutting cutting_by
of_neighbours = record {
  by_the_rule = by_the_rule;
  after_the_cut = λ e. below 3 108 104 refl (ap cut_told_lem (of_cutters (λ m i. (i + 1) % m) before_cut five_positions_built e));
  two_before = λ e. below 2 4 1 refl (ap second (of_cutters at_cut (λ m i. (i + m - 2) % m) to_and_fro_built e));
  not_round_at_first = λ e. below 3 108 104 refl (ap cut_told_lem (of_cutters at_cut (λ m i. i - 1) ear_at_first_built e));
  not_round_at_last = λ e. above 3 2 0 refl (ap second (of_cutters (λ m i. i) before_cut ear_at_last_built e));
  where_three_are_left = λ e. below 0 1 0 refl (ap (λ l. get_or l 0 9) e);
}

-- a loop whose slices are gone, to area 1 with a class of 3
abbrev beside_area_1 : Build.Outcome → Answers.Told
beside_area_1 o = relate_answer (header o) [] [] [] (header (built area_1 3)) (built area_1 3).positions (built area_1 3).normals (3 ∷ 0 ∷ 0 ∷ [])

of_relating : OfRelating
unfolding of_pairs
of_relating = record {
  full_within_empty = λ e. below 3 4 0 refl (ap told (sym full_to_empty ∙ e));
  full_equals_empty = λ e. below 3 5 1 refl (ap told (sym full_to_empty ∙ e));
  empty_within = λ e. below 0 4 3 refl (ap told e);
  containing_for_within = λ e. above 4 3 0 refl (sym to_full_lem ∙ ap told e);
  no_seven = λ n e. below 0 1 0 refl (ap answered (sym longs.of_loops.seven ∙ e));
  second_loop_first = λ e. below 101 106 4 refl (ap told (of_ring four_corners_built (λ o. beside_area_1 o ≡ Answers.refused 6) e));
}

-- ---- of a mute loop
of_four : {o p x y : Build.Outcome} → o ≡ p → x ≡ y → (change : Header → Header) (t : Answers.Told) → between change o x ≡ t → between change p y ≡ t
of_four {o} {p} {x} {y} q r change t e = of_ring r (λ z. between change p z ≡ t) (of_ring q (λ z. between change z x ≡ t) e)

mute_to_full : told (to_full (built one_mean 4)) ≡ 4
unfolding of_pairs of_places
mute_to_full = of_ring (sym one_mean_built) (λ o. told (to_full o) ≡ 4) refl

round_z_in : four_to (λ h. h) (built round_z 3) ≡ Answers.answer 3
unfolding of_pairs of_places
round_z_in = of_four (sym four_corners_built) (sym round_z_built) (λ h. h) (Answers.answer 3) refl

round_z_untold : four_to muted (built round_z 3) ≡ Answers.answer 0
unfolding of_pairs of_places
round_z_untold = of_four (sym four_corners_built) (sym round_z_built) muted (Answers.answer 0) refl

of_mute : OfMute
of_mute = record {
  disjoint_for_within = λ e. above 4 0 3 refl (sym mute_to_full ∙ ap told e);
  with_insides = round_z_in;
  without_insides = round_z_untold;
  contained_by_a_mute_ring = λ e. below 0 3 2 refl (ap told (sym round_z_untold ∙ e));
}

-- ---- contracts: no triangle of the empty loop, and one number lent, at exit 0 or 1
abbrev lent : {A : Type 0} → List A → Bor (List A)
lent l = record { ref_ptr = (0, 0); now = l }

abbrev lent_out : {A : Type 0} → List A → MutBor (List A)
lent_out l = record { ref_ptr = (0, 0); ghost_name = 0; now = l }

of_contracts : OfContracts
unfolding Computing.of_cutting
of_contracts = record { buffer_left_open = left_open }
  where
    left_open : One Triangulate.Kinds.ps Triangulate.Kinds.r answer_alone → ⊥
    left_open one =
        let same = one ([], ([], ([], tt))) (empty_header Plain, (lent [], (lent [], (lent_out (0 ∷ []), tt)))) (Ok 0) (Ok 0) (tt, (tt, (tt, (0 ∷ [], tt)))) (tt, (tt, (tt, (1 ∷ [], tt)))) refl refl in
        below 0 1 0 refl (ap (λ t. get_or t.1.1.1.0 0 9) same.1)

pub wrongs : Wrongs
wrongs = record {
  empty_programs = empty_programs;
  traps = traps;
  of_numbers = of_numbers;
  of_angles = of_angles;
  of_building = of_building;
  of_asking = of_asking;
  of_cutting = of_cutting;
  of_neighbours = of_neighbours;
  of_relating = of_relating;
  of_mute = of_mute;
  of_contracts = of_contracts;
  of_scenes = of_scenes;
  of_distances = of_distances;
  of_modes = of_modes;
}
