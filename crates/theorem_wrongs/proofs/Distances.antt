-- Wrong programs of distances and of radians: what the definition says of each input is computed, and is not what they say. Assumes nothing.
use Prim.Native.Nat.{ℕ, ◌-◌}
use native.Mathlib.Omega.{arith}
use mathlib.Core.Path.{◌≡◌, refl, ap, subst}
use mathlib.Core.Bool.{true}
use mathlib.Core.List.{[], ◌∷◌}
use lib.Ieee.{binary64, to_bits}
use Rattle.numbers.specs.F64 as F64
use Rattle.arcsine.specs.Arcsine.{arcsine, radians}
use Rattle.vec3.specs.Vec.{axis_y, axis_z, opposite}
use Rattle.chord_length.specs.Chords.{squared, most, from_squared_length, later_max, least}
use Rattle.minor_arc.specs.declared.Mode.TheVariants.{Plain}
use Rattle.minor_arc.specs.Arcs.{location_of}
use Rattle.arcs.specs.Answers.{arc_fault}
use Rattle.ring_edges.specs.Edges.{edge_at}
use Rattle.loop_build.specs.Build as Build
use Rattle.loop_distances.specs.Distances.{nearer_end, past_end, by_foot, far_arc, far_ring, far, Told, refused, chord, arc_told, boundary_told}
use Rattle.theorem_settled.specs.Settled.{built, area_1}
use Rattle.theorem_settled.proofs.Computing as Computing
use Rattle.theorem_modes.proofs.Rings.{ring}
use Rattle.theorem_wrongs.proofs.Rings.{area_1_built}
use Rattle.theorem_wrongs.specs.Distances.{x_to_y, between_x_y, behind, long_arc, above_x, short_arc, leaning, inside_area_1, arc_by, ring_by, radians_by}
use Rattle.theorem_wrongs.specs.Distances.{to_start, strictly_past, past_bare, past_either, to_foot, ArcOtherwise, boundary_of, RingOtherwise, OfDistances}

-- what tells two answers apart: the number of a refusal, or the bits of a squared chord
abbrev told : Told → ℕ
told (refused k) = k
told (chord c) = to_bits binary64 c.0

-- ---- what a distance is computed with, from an arc and from a loop's border, and the radians
unfoldable of_arcs : ℕ
unfolding Computing.of_building Computing.of_sides location_of from_squared_length least by_foot far_arc arc_fault arc_told arc_by to_bits
of_arcs = 0

unfoldable of_loops : ℕ
unfolding of_arcs Computing.of_judging Computing.of_caps edge_at far_ring far boundary_told ring_by
of_loops = 0

unfoldable of_radians : ℕ
unfolding Computing.of_turns arcsine radians radians_by to_bits
of_radians = 0

-- ---- from an arc
ends_alone : ArcOtherwise nearer_end x_to_y between_x_y
unfolding of_arcs
ends_alone e = let n : ◌≡◌ {A = ℕ} 0 0x3fd9_9999_9999_9999 = ap told e in omega (arith, n)

strictly_past_lem : ArcOtherwise (arc_by strictly_past to_start by_foot) long_arc behind
unfolding of_arcs
strictly_past_lem e = let n : ◌≡◌ {A = ℕ} 0 0x3952_a400_0000_0000 = ap told e in omega (arith, n)

past_without_2_52 : ArcOtherwise (arc_by past_bare to_start by_foot) short_arc above_x
unfolding of_arcs
past_without_2_52 e = let n : ◌≡◌ {A = ℕ} 0x3955_1000_0000_0000 0 = ap told e in omega (arith, n)

past_either_end : ArcOtherwise (arc_by past_either to_start by_foot) long_arc between_x_y
unfolding of_arcs
past_either_end e = let n : ◌≡◌ {A = ℕ} 0x3959_0000_0000_0000 0 = ap told e in omega (arith, n)

nearer_end_at_a_pole : ArcOtherwise (arc_by past_end nearer_end by_foot) leaning axis_z
unfolding of_arcs
nearer_end_at_a_pole e = let n : ◌≡◌ {A = ℕ} 0x4000_0000_0000_0000 0x3fe9_9999_9999_999b = ap told e in omega (arith, n)

foot_unasked : ArcOtherwise (arc_by past_end to_start to_foot) x_to_y (opposite axis_y)
unfolding of_arcs
foot_unasked e = let n : ◌≡◌ {A = ℕ} 0x4000_0000_0000_0000 0 = ap told e in omega (arith, n)

-- ---- from area 1's border, of the ring that was computed once
of_area_1 : (B : Build.Outcome → Type 0) → B (built area_1 3) → B (ring Plain area_1 3 true (0 ∷ 0 ∷ 0 ∷ []))
of_area_1 B b = subst B area_1_built b

farthest_edge : RingOtherwise (λ ps ns n. ring_by later_max (squared F64.zero) n ps ns n) above_x
unfolding of_loops
farthest_edge e =
    let n : ◌≡◌ {A = ℕ} 0 0x3fe9_9999_9999_999b = ap told (of_area_1 (λ o. boundary_of o above_x ≡ chord (ring_by later_max (squared F64.zero) 3 o.positions o.normals 3 above_x)) e) in
    omega (arith, n)

last_edge_left_out : RingOtherwise (λ ps ns n. ring_by least most (n - 1) ps ns n) above_x
unfolding of_loops
last_edge_left_out e =
    let n : ◌≡◌ {A = ℕ} 0 0x3fd9_9999_9999_9999 = ap told (of_area_1 (λ o. boundary_of o above_x ≡ chord (ring_by least most 2 o.positions o.normals 3 above_x)) e) in
    omega (arith, n)

zero_inside : RingOtherwise (λ ps ns n p. squared F64.zero) inside_area_1
unfolding of_loops
zero_inside e =
    let n : ◌≡◌ {A = ℕ} 0x3fc1_2a09_b122_6a2d 0 = ap told (of_area_1 (λ o. boundary_of o inside_area_1 ≡ chord (squared F64.zero)) e) in
    omega (arith, n)

pub of_distances : OfDistances
unfolding of_loops of_radians
of_distances = record {
  arc_by_the_rules = λ a p. unfold arc_by far_arc in refl;
  ring_by_the_rules = λ ps ns n p. unfold ring_by far_ring in refl;
  radians_by_the_rules = λ c. unfold radians_by radians arcsine in refl;
  ends_alone = ends_alone;
  strictly_past_lem = strictly_past_lem;
  past_without_2_52 = past_without_2_52;
  past_either_end = past_either_end;
  nearer_end_at_a_pole = nearer_end_at_a_pole;
  foot_unasked = foot_unasked;
  position_before_arc = λ e. let n : ◌≡◌ {A = ℕ} 4 3 = ap told e in omega (arith, n);
  farthest_edge = farthest_edge;
  last_edge_left_out = last_edge_left_out;
  zero_inside = zero_inside;
  four_for_full = λ e. let n : ◌≡◌ {A = ℕ} 0 0x4010_0000_0000_0000 = ap told e in omega (arith, n);
  four_for_empty = λ e. let n : ◌≡◌ {A = ℕ} 0 0x4010_0000_0000_0000 = ap told e in omega (arith, n);
  position_before_loop = λ e. let n : ◌≡◌ {A = ℕ} 1 3 = ap told e in omega (arith, n);
  one_less_the_square = λ e. let n : ◌≡◌ {A = ℕ} 0x3ffe_37c9_a328_65c4 0x3ffe_37c9_a328_65c1 = ap (to_bits binary64) e in omega (arith, n);
  straight_from_the_chord = λ e. let n : ◌≡◌ {A = ℕ} 0x3ff9_21fb_5444_2d1a 0x3ff9_21fb_5444_2d18 = ap (to_bits binary64) e in omega (arith, n);
  zero_for_negative = λ e. let n : ◌≡◌ {A = ℕ} 0xbff0_0000_0000_0000 0 = ap (to_bits binary64) e in omega (arith, n);
}
