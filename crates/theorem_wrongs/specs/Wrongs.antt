-- Named wrong programs: each gives, at one input, an answer that no program which meets the contract can give, since the definition that the contract
-- cites has another answer there. docs/SCOPE.md, "Wrong programs", names the five empty programs and the traps. Proved in proofs/Theorem.antt. Definitions only.
use Rattle.std.specs.Prelude.{ℕ, zero, suc, ◌+◌, ◌-◌, ◌%◌, ◌≡◌, false, cond, List, [], ◌∷◌, None, Some, ◌++◌, ltb, length, replicate, Float}
use Rattle.std.specs.Float.{binary64, nan}
use Rattle.std.specs.Float.Ieee.{of_bits}
use borrow.Fn.Kinds.{Out}
use Rattle.outcomes.specs.Outcomes.{One}
use Rattle.laws.specs.Loop.{iterate, flat}
use Rattle.numbers.specs.F64 as F64
use Rattle.numbers.specs.F64.{two, epsilon}
use Rattle.numbers.specs.Near.{near}
use Rattle.root.specs.Root.{root_of}
use Rattle.angle.specs.Arctan.{atan2}
use Rattle.vec3.specs.declared.Vec3.{Vec3}
use Rattle.vec3.specs.Vec.{axis_x, axis_y, axis_z, opposite, pos_at, coords}
use Rattle.vec3.specs.Points.{midpoint}
use Rattle.base.specs.declared.Side.TheVariants.{Left, Right}
use Rattle.base.specs.Sides.{side_of}
use Rattle.judge.specs.Judge.{vector_fault, fault_of}
use Rattle.ring_theory.specs.Ring.{without, ear_of}
use Rattle.ring_turns.specs.Turns.{edge_normals}
use Rattle.ring_ears.specs.Ears.{class_of, reclassify, at_cut, before_cut, reclassify_both, Remaining}
use Rattle.ring_cut.specs.Cut.{Cutting, ahead, at_ear, lowest_of, cutting, whole_ring, outcome_if}
use Rattle.loop_header.specs.declared.Header.{Header}
use Rattle.loop_header.specs.declared.State.TheVariants.{Empty}
use Rattle.loop_build.specs.Build as Build
use Rattle.loop_ask.specs.Answers.{Told, refused, answer}
use Rattle.loop_ask.specs.Questions.{place_answer}
use Rattle.loop_triangles.proofs.triangulate as Triangulate
use Rattle.loop_triangles.specs.Triangles.{told_cut, Outcome, laid, triangulate_outcome, accepts_answer}
use Rattle.loop_relate.specs.Relations.{relate_answer}
use Rattle.theorem_wrongs.specs.Angles.{OfAngles}
use Rattle.theorem_wrongs.specs.Scenes.{OfScenes}
use Rattle.theorem_wrongs.specs.Distances.{OfDistances}
use Rattle.theorem_wrongs.specs.Modes.{header, placed, OfModes}
use Rattle.theorem_settled.specs.Settled.{six_tenths, eight_tenths, minus_six_tenths, at, built, blank, blank_classes, area_1, flat_list, four_built, four_cut, four_checked, full_one_lem, empty_one_lem, related}
use Rattle.theorem_modes.specs.Longs.{in_the_other, in_the_one, pair}

-- ---- the inputs
-- the worked example's place in area 1: (0.48, 0.6, 0.64)
abbrev pub in_area_1 : Vec3
in_area_1 = at (of_bits binary64 0x3fde_b851_eb85_1eb8) (of_bits binary64 0x3fe3_3333_3333_3333) (of_bits binary64 0x3fe4_7ae1_47ae_147b)

-- 10.0; 1 + 2^-41, whose square is 1 + 2^-40 when rounded; and 2^-600, whose square is 0 when rounded
abbrev pub ten : Float
ten = of_bits binary64 0x4024_0000_0000_0000

abbrev pub just_within : Float
just_within = of_bits binary64 0x3ff0_0000_0000_0800

abbrev pub tiny : Float
tiny = of_bits binary64 0x1a70_0000_0000_0000

-- 0.96
abbrev pub high : Float
high = of_bits binary64 0x3fee_b851_eb85_1eb8

-- the worked example's area 2, which has the edge from X to Y with area 1: X, Y, -Z
abbrev pub area_2 : List Float
area_2 = coords axis_x ++ coords axis_y ++ coords (opposite axis_z)

-- its first edge crosses the first of area 1's ring
abbrev pub across : List Float
across = coords (at six_tenths F64.zero eight_tenths) ++ coords (at minus_six_tenths eight_tenths F64.zero) ++ coords axis_x

-- X, X, Z, -Z, cut into (1,2,3) and (0,1,3): the first has no mean, since Z and -Z are antipodes, and with one mean alone the loop is mute
abbrev pub one_mean : List Float
one_mean = coords axis_x ++ coords axis_x ++ coords axis_z ++ coords (opposite axis_z)

-- a triangle round Z within the ring of four corners: (0.28, 0, 0.96), (0, 0.28, 0.96), (-0.28, 0, 0.96)
abbrev pub round_z : List Float
round_z = coords (at (of_bits binary64 0x3fd1_eb85_1eb8_51ec) F64.zero high) ++ coords (at F64.zero (of_bits binary64 0x3fd1_eb85_1eb8_51ec) high) ++ coords (at (of_bits binary64 0xbfd1_eb85_1eb8_51ec) F64.zero high)

-- X, Y, Y, Z: reversed, its two corners at Y have numbers 1 and 2
abbrev pub repeated : List Float
repeated = coords axis_x ++ coords axis_y ++ coords axis_y ++ coords axis_z

-- five positions, the second and third the same: reversed, the classes are 0, 1, 0, 2, 2
abbrev pub five_positions : List Float
five_positions = coords axis_z ++ coords (at eight_tenths F64.zero six_tenths) ++ coords (at eight_tenths F64.zero six_tenths) ++ coords (opposite axis_y) ++ coords (at six_tenths F64.zero eight_tenths)

-- five positions to and fro between two meridians, kept: the classes are 0, 0, 1, 0, 0, and the cuts (0,1,2), (2,3,4), (0,2,4)
abbrev pub to_and_fro : List Float
to_and_fro = coords (at F64.zero eight_tenths six_tenths) ++ coords (at eight_tenths F64.zero six_tenths) ++ coords (at F64.zero six_tenths eight_tenths) ++ coords (at six_tenths F64.zero eight_tenths) ++ coords axis_z

-- Z, X, -Y, Y, -X: reversed, the classes are 0, 2, 2, 1, 2, and the cuts (4,0,1), at the first index, then (3,4,1), (1,2,3)
abbrev pub ear_at_first : List Float
ear_at_first = coords axis_z ++ coords axis_x ++ coords (opposite axis_y) ++ coords axis_y ++ coords (opposite axis_x)

-- -Z, -X, -X, -Y, X, kept: the classes are 2, 2, 2, 2, 0, and the cuts (3,4,0), at the last index, then (3,0,1), (1,2,3)
abbrev pub ear_at_last : List Float
ear_at_last = coords (opposite axis_z) ++ coords (opposite axis_x) ++ coords (opposite axis_x) ++ coords (opposite axis_y) ++ coords axis_x

-- ---- the questions put to loops as built
abbrev pub cut_outcome : Build.Outcome → List ℕ → Outcome
cut_outcome o room = triangulate_outcome (header o) o.positions o.classes room

abbrev pub cut_from : Build.Outcome → List ℕ → Told
cut_from o room = (cut_outcome o room).answer

abbrev pub cut_into : Build.Outcome → List ℕ → List ℕ
cut_into o room = (cut_outcome o room).triangles

abbrev pub checked : Build.Outcome → List ℕ → Told
checked o triples = accepts_answer (header o) o.positions o.classes triples

-- a ring to the full loop
abbrev pub to_full : Build.Outcome → Told
to_full a = relate_answer (header a) a.positions a.normals a.classes full_one_lem [] [] []

-- ---- wrong programs whose answer is computed
-- the class of corner k by `Sphere::side`: the corner before against the edge from k to the next
abbrev pub class_by_side : List Float → ℕ → ℕ → ℕ
class_by_side ps n k = class_of (side_of (pos_at ps ((k + n - 1) % n)) (pos_at ps k) (pos_at ps ((k + 1) % n)))

abbrev pub classes_by_side : List Float → ℕ → List ℕ
classes_by_side ps n = flat (λ k. class_by_side ps n k ∷ []) n 0

-- how the classes are found after a cut: from the positions, the ring left, the index of the cut and the classes before it
abbrev pub Step : Type 0
Step = List Float → List ℕ → ℕ → List ℕ → List ℕ

-- all cuts with such a step, and what they leave: the answer, and the triangles
unfoldable pub cutting_by : Step → List Float → ℕ → Remaining → Cutting
cutting_by step ps zero s = record { triangles = s.ids; stuck = false }
cutting_by step ps (suc k) s =
    at_ear (ltb (lowest_of ps s) (length s.ids)) (lowest_of ps s)
    (λ i. ahead (ear_of s.ids i) (cutting_by step ps k (record { ids = without i s.ids; classes = step ps (without i s.ids) i s.classes })))

abbrev pub cut_by : Step → Build.Outcome → List ℕ → Outcome
cut_by step o room =
    let n = length o.classes in
    let c = cutting_by step o.positions (n - 3) (whole_ring o.classes) in
    laid (outcome_if c.stuck c.triangles room) (n - 2)

-- every vertex of the ring left is classed afresh
abbrev pub every_afresh : Step
every_afresh ps ids i classes = cond (ltb 3 (length ids)) (iterate (reclassify ps ids) (length ids) 0 classes) classes

-- two are, at the indexes that are said to be the neighbours'; an index that is none of the ring left is passed over
abbrev pub one_afresh : List Float → List ℕ → ℕ → List ℕ → List ℕ
one_afresh ps ids k classes = cond (ltb k (length ids)) (reclassify ps ids k classes) classes

abbrev pub two_afresh : (ℕ → ℕ → ℕ) → (ℕ → ℕ → ℕ) → Step
two_afresh at_cut_lem before_cut_lem ps ids i classes = one_afresh ps ids (before_cut_lem (length ids) i) (one_afresh ps ids (at_cut_lem (length ids) i) classes)

abbrev pub neighbours : (ℕ → ℕ → ℕ) → (ℕ → ℕ → ℕ) → Step
neighbours at_cut_lem before_cut_lem ps ids i classes = cond (ltb 3 (length ids)) (two_afresh at_cut_lem before_cut_lem ps ids i classes) classes

-- ---- the five empty programs
-- the second says outside of every place: of one in a ring of three, in a ring of more, in the full loop, and of one asked of a mute loop
pub record OutsideAlways : Type 0 where
  pub in_a_triangle : placed (built area_1 3) in_area_1 ≡ answer 0 → ⊥
  pub in_a_ring : placed four_built axis_z ≡ answer 0 → ⊥
  pub in_the_full_loop : place_answer full_one_lem [] [] [] axis_x ≡ answer 0 → ⊥
  pub of_a_mute_loop : placed (built one_mean 4) axis_y ≡ answer 0 → ⊥

-- and Disjoint of every pair, of the five other relations too
pub record DisjointAlways : Type 0 where
  pub touching : pair (built area_1 3) (built area_2 3) ≡ answer 0 → ⊥
  pub intersecting : pair (built area_1 3) (built across 3) ≡ answer 0 → ⊥
  pub containing : related full_one_lem empty_one_lem ≡ answer 0 → ⊥
  pub within : to_full (built area_1 3) ≡ answer 0 → ⊥
  pub equal : pair (built area_1 3) (built area_1 3) ≡ answer 0 → ⊥

-- the third leaves the ring buffers as they were, each of the three
pub record BlankRing : Type 0 where
  pub positions : (built area_1 3).positions ≡ blank 3 → ⊥
  pub normals : (built area_1 3).normals ≡ blank 3 → ⊥
  pub classes : (built area_1 3).classes ≡ blank_classes 3 → ⊥

-- the fourth cuts the first ear, (0,1,2), and then fans the rest: from the first corner of the ring left, or by taking its first corner off, whatever that is
pub record Fan : Type 0 where
  -- the cutter's triangles are neither list, as it takes the lowest ear each time
  pub cut_from_first : cut_into (built to_and_fro 5) (replicate 9 0) ≡ 0 ∷ 1 ∷ 2 ∷ 0 ∷ 2 ∷ 3 ∷ 0 ∷ 3 ∷ 4 ∷ [] → ⊥
  pub cut_at_first : cut_into (built to_and_fro 5) (replicate 9 0) ≡ 0 ∷ 1 ∷ 2 ∷ 4 ∷ 0 ∷ 2 ∷ 2 ∷ 3 ∷ 4 ∷ [] → ⊥
  -- and the checker accepts neither: (0,2,3) and (4,0,2) are no eligible ears of the ring left
  pub accepted_from_first : checked (built to_and_fro 5) (0 ∷ 1 ∷ 2 ∷ 0 ∷ 2 ∷ 3 ∷ 0 ∷ 3 ∷ 4 ∷ []) ≡ answer 1 → ⊥
  pub accepted_at_first : checked (built to_and_fro 5) (0 ∷ 1 ∷ 2 ∷ 4 ∷ 0 ∷ 2 ∷ 2 ∷ 3 ∷ 4 ∷ []) ≡ answer 1 → ⊥

pub record EmptyPrograms : Type 0 where
  -- the first refuses each list
  pub refuses_each_list : (k : ℕ) → (built area_1 3).answer ≡ Build.refused k → ⊥
  pub outside_always : OutsideAlways
  pub disjoint_always : DisjointAlways
  pub blank_ring : BlankRing
  pub fan : Fan
  -- the fifth makes a triangle count up: no count but 2 is that of four corners
  pub made_up_count : (k : ℕ) → (k ≡ 2 → ⊥) → four_cut.answer ≡ answer k → ⊥

-- ---- the traps
pub record Traps : Type 0 where
  -- every vertex classed afresh after a cut: no ear would be left
  pub every_vertex_afresh : cut_from (built five_positions 5) (replicate 9 0) ≡ (cut_by every_afresh (built five_positions 5) (replicate 9 0)).answer → ⊥
  -- corners classed the first time by `Sphere::side`: the first corner at Y would be convex
  pub first_by_side : (built repeated 4).classes ≡ classes_by_side (built repeated 4).positions 4 → ⊥
  -- a strict comparison at 10·2^-52: the product of these three is exactly that
  pub strict_side : side_of (at F64.zero F64.zero epsilon) (at ten F64.zero F64.zero) axis_y ≡ Left → ⊥
  -- a corner that counts as inside a three-corner loop: X is a corner of area 1
  pub corner_inside : placed (built area_1 3) axis_x ≡ answer 1 → ⊥
  -- triangles compared by position: 2 stands where 1 does
  pub by_position : checked (built repeated 4) (3 ∷ 0 ∷ 2 ∷ 1 ∷ 2 ∷ 3 ∷ []) ≡ answer 1 → ⊥

-- ---- numbers, sides and the judge
pub record OfNumbers : Type 0 where
  -- a side test whose positive is right
  pub side_turned : side_of axis_x axis_y axis_z ≡ Right → ⊥
  -- an equality that leaves 2^-52 itself out
  pub strict_equality : near epsilon F64.zero ≡ false → ⊥
  -- a root whose digits are cut off and not rounded
  pub root_cut_off : root_of two ≡ of_bits binary64 0x3ff6_a09e_667f_3bcc → ⊥
  -- a range of squared norms whose upper end is left out
  pub upper_end_left_out : fault_of (at just_within F64.zero F64.zero) ≡ 4 → ⊥
  -- a judge of normals that passes over the last component
  pub last_component_passed_over : vector_fault (at F64.zero F64.zero nan) 0 ≡ 0 → ⊥
  -- an arctangent whose operands are exchanged
  pub arctangent_exchanged : atan2 F64.one F64.zero ≡ atan2 F64.zero F64.one → ⊥
  -- a midpoint of antipodes, and one whose vector is zero though its ends are none
  pub midpoint_of_antipodes : (p : Vec3) → midpoint axis_x (opposite axis_x) ≡ Some p → ⊥
  pub midpoint_without_length : (p : Vec3) → midpoint axis_x (at (of_bits binary64 0xbff0_0000_0000_0000) tiny F64.zero) ≡ Some p → ⊥

-- ---- building
pub record OfBuilding : Type 0 where
  -- room that is judged for two positions too, whose loop is EMPTY
  pub room_for_two : (built (coords axis_x ++ coords axis_y) 0).answer ≡ Build.refused 5 → ⊥
  -- room that is judged by the list as given and not by the opened count: room for three suffices here
  pub room_by_the_list : (built (area_1 ++ coords axis_x) 3).answer ≡ Build.refused 5 → ⊥
  -- two closing positions taken off: one goes, and four corners are left
  pub two_closing_positions : (header (built (area_1 ++ coords axis_x ++ coords axis_x) 5)).count ≡ 3 → ⊥
  -- a list on one great circle that is built EMPTY
  pub flat_empty : (header (built flat_list 3)).state ≡ Empty → ⊥
  -- a counter-clockwise list that is kept
  pub ring_kept : (header four_built).reversed ≡ false → ⊥
  -- normals worked out again from the reversed corners, and not negated: for the edge from Y to Y both ways give the same one
  pub normals_worked_out_again : (built repeated 4).normals ≡ edge_normals (built repeated 4).positions 4 → ⊥
  -- insides of a triangle
  pub triangle_with_insides : (a b : Vec3) → (header (built area_1 3)).insides ≡ Some (a, b) → ⊥

-- ---- asking
pub record OfAsking : Type 0 where
  -- the query's 3 ahead of the loop's 1
  pub query_before_loop : place_answer (header four_built) [] [] [] (at nan F64.zero F64.zero) ≡ refused 3 → ⊥

-- ---- cutting and the checker
pub record OfCutting : Type 0 where
  -- a fan of the whole ring from its first corner, which the checker accepts: it is not the lowest ear each time
  pub fan_of_all : four_cut.triangles ≡ 0 ∷ 1 ∷ 2 ∷ 0 ∷ 2 ∷ 3 ∷ [] → ⊥
  -- a class code of 3
  pub class_of_three : (triangulate_outcome (header (built area_1 3)) (built area_1 3).positions (3 ∷ 0 ∷ 0 ∷ []) (replicate 3 0)).answer ≡ answer 1 → ⊥
  -- an output that is one number short
  pub room_for_one_less : cut_from four_built (replicate 5 0) ≡ answer 2 → ⊥
  -- the checker takes a rotated triple: (0,1,3) for (3,0,1)
  pub rotated : four_checked (0 ∷ 1 ∷ 3 ∷ 1 ∷ 2 ∷ 3 ∷ []) ≡ answer 1 → ⊥
  -- it looks at one neighbour only: (3,0,2) for (3,0,1)
  pub one_neighbour : four_checked (3 ∷ 0 ∷ 2 ∷ 1 ∷ 2 ∷ 3 ∷ []) ≡ answer 1 → ⊥
  -- it takes n - 1 triples
  pub triple_too_many : four_checked (3 ∷ 0 ∷ 1 ∷ 1 ∷ 2 ∷ 3 ∷ 1 ∷ 2 ∷ 3 ∷ []) ≡ answer 1 → ⊥
  -- it takes any corner for an ear: corner 1 is reflex
  pub any_corner : checked (built five_positions 5) (0 ∷ 1 ∷ 2 ∷ 0 ∷ 2 ∷ 3 ∷ 0 ∷ 3 ∷ 4 ∷ []) ≡ answer 1 → ⊥

-- ---- the neighbours of a cut (SCOPE 41)
-- a ring of five that a cutter leaves otherwise which finds the neighbours at these indexes
abbrev pub CutsOtherwise : List Float → (ℕ → ℕ → ℕ) → (ℕ → ℕ → ℕ) → Type 0
CutsOtherwise l at_cut_lem before_cut_lem = cut_outcome (built l 5) (replicate 9 0) ≡ cut_by (neighbours at_cut_lem before_cut_lem) (built l 5) (replicate 9 0) → ⊥

pub record OfNeighbours : Type 0 where
  -- with the rule itself the cuts are those of the definition, so that what is otherwise below is so by the indexes alone
  pub by_the_rule : (ps : List Float) (k : ℕ) (s : Remaining) → cutting_by (neighbours at_cut before_cut) ps k s ≡ cutting ps k s
  -- the one after the cut in place of the one at the cut: no ear would be left
  pub after_the_cut : CutsOtherwise five_positions (λ m i. (i + 1) % m) before_cut
  -- two before the cut in place of one: (4,0,2) would be the second triangle, and not (2,3,4)
  pub two_before : CutsOtherwise to_and_fro at_cut (λ m i. (i + m - 2) % m)
  -- the one before not counted round at the first index (0 - 1 is 0, so the first would be classed twice): no ear would be left
  pub not_round_at_first : CutsOtherwise ear_at_first at_cut (λ m i. i - 1)
  -- the one at the cut not counted round after a cut at the last index: (2,3,0) would be the second triangle, and not (3,0,1)
  pub not_round_at_last : CutsOtherwise ear_at_last (λ m i. i) before_cut
  -- classing where three are left, which no triangle shows: of X, Y, Z the first would be reflex
  pub where_three_are_left : reclassify_both area_1 (0 ∷ 1 ∷ 2 ∷ []) 0 (0 ∷ 0 ∷ 0 ∷ []) ≡ two_afresh at_cut before_cut area_1 (0 ∷ 1 ∷ 2 ∷ []) 0 (0 ∷ 0 ∷ 0 ∷ []) → ⊥

-- ---- relating
pub record OfRelating : Type 0 where
  -- FULL to EMPTY as Within, or as Equal; EMPTY to FULL as Within
  pub full_within_empty : related full_one_lem empty_one_lem ≡ answer 4 → ⊥
  pub full_equals_empty : related full_one_lem empty_one_lem ≡ answer 5 → ⊥
  pub empty_within : related empty_one_lem full_one_lem ≡ answer 4 → ⊥
  -- Within and Containing exchanged
  pub containing_for_within : to_full (built area_1 3) ≡ answer 3 → ⊥
  -- an answer where each ring is found in the other, and no 7
  pub no_seven : (n : ℕ) → pair (built in_the_other 3) (built in_the_one 3) ≡ answer n → ⊥
  -- the second loop's 6 ahead of the first one's 1
  pub second_loop_first : relate_answer (header four_built) [] [] [] (header (built area_1 3)) (built area_1 3).positions (built area_1 3).normals (3 ∷ 0 ∷ 0 ∷ []) ≡ refused 6 → ⊥

-- ---- of a mute loop
-- the header of a ring without its insides
abbrev pub muted : Header → Header
muted h = record { count = h.count; state = h.state; cap = h.cap; insides = None; reversed = h.reversed; weak = h.weak; mode = h.mode }

-- how a ring with its header changed stands to another; the ring of four corners
abbrev pub between : (Header → Header) → Build.Outcome → Build.Outcome → Told
between change a b = relate_answer (change (header a)) a.positions a.normals a.classes (header b) b.positions b.normals b.classes

abbrev pub four_to : (Header → Header) → Build.Outcome → Told
four_to change b = between change four_built b

pub record OfMute : Type 0 where
  -- a `relate` that answers Disjoint for a mute loop where the source says Within: one as built to the full loop
  pub disjoint_for_within : to_full (built one_mean 4) ≡ answer 0 → ⊥
  -- one that finds in a mute ring what the same ring with its insides contains: the answer there is Disjoint, which is no promise of empty air
  pub with_insides : four_to (λ h. h) (built round_z 3) ≡ answer 3
  pub without_insides : four_to muted (built round_z 3) ≡ answer 0
  pub contained_by_a_mute_ring : four_to muted (built round_z 3) ≡ answer 3 → ⊥

-- ---- contracts
-- that of `triangulate` without its buffer: the answer alone
abbrev pub answer_alone : Out 3 Triangulate.Kinds.ps Triangulate.Kinds.r
answer_alone κs a r s = told_cut r ≡ (triangulate_outcome a.0 a.1.0.now a.1.1.0.now a.1.1.1.0.now).answer

pub record OfContracts : Type 0 where
  -- an `ensures` without its buffer leaves more than one outcome: `theorem_unique` cannot be proved of it
  pub buffer_left_open : One Triangulate.Kinds.ps Triangulate.Kinds.r answer_alone → ⊥

-- no program that meets its contract is one of them
pub record Wrongs : Type 0 where
  pub empty_programs : EmptyPrograms
  pub traps : Traps
  pub of_numbers : OfNumbers
  pub of_angles : OfAngles
  pub of_building : OfBuilding
  pub of_asking : OfAsking
  pub of_cutting : OfCutting
  pub of_neighbours : OfNeighbours
  pub of_relating : OfRelating
  pub of_mute : OfMute
  pub of_contracts : OfContracts
  pub of_scenes : OfScenes
  pub of_distances : OfDistances
  pub of_modes : OfModes
