-- Wrong programs of distances and of radians (SCOPE 49, 50, 51): each gives, at one input, another answer than the definition. A change of rule is a parameter of
-- `arc_by`, `ring_by` or `radians_by`, which with the rule itself are the definition. Proved in proofs/Distances.antt. Definitions only.
use Rattle.std.specs.Prelude.{ℕ, ◌-◌, ◌≡◌, Bool, false, ◌||◌, List, [], ◌∷◌, Float, if◌then◌else◌}
use Rattle.std.specs.Float.{binary64, nan}
use Rattle.std.specs.Float.Ieee.{of_bits, lt, le}
use Rattle.laws.specs.Loop.{iterate}
use Rattle.numbers.specs.F64 as F64
use Rattle.numbers.specs.F64.{◌⊕◌, ◌⊖◌, ◌⊗◌, half, one, two, four, minus_one, epsilon}
use Rattle.root.specs.Root.{root_of}
use Rattle.angle.specs.Arctan.{atan2}
use Rattle.arcsine.specs.Arcsine.{radians}
use Rattle.vec3.specs.declared.Vec3.{Vec3}
use Rattle.vec3.specs.Vec.{origin, axis_x, axis_y, axis_z, opposite, same}
use Rattle.chord_length.specs.declared.ChordLength.{ChordLength}
use Rattle.chord_length.specs.Chords.{squared, most, later_max, least}
use Rattle.chord_length.specs.Chords as Chords
use Rattle.minor_arc.specs.declared.MinorArc.{MinorArc}
use Rattle.minor_arc.specs.declared.Mode.TheVariants.{Plain}
use Rattle.minor_arc.specs.Arcs.{arc_of}
use Rattle.loop_header.specs.Loops.{empty_header, full_header}
use Rattle.loop_build.specs.Build as Build
use Rattle.loop_distances.specs.Distances.{nearer_end, past_end, across_of, foot_of, by_foot, far_arc, far_edge, far_ring, Told, refused, chord, arc_answer, boundary_answer}
use Rattle.theorem_settled.specs.Settled.{six_tenths, eight_tenths, minus_six_tenths, at, built, area_1, header_of}

-- ---- the inputs
-- the arc from X to Y, and the position (0.6, 0.8, 0) on it
abbrev pub x_to_y : MinorArc
x_to_y = arc_of axis_x axis_y

abbrev pub between_x_y : Vec3
between_x_y = at six_tenths eight_tenths F64.zero

-- two arcs whose feet are off by last bits at their own ends: one of more than a quarter turn, at which ab + 2^-52 is ab when rounded, and a shorter one
abbrev pub behind : Vec3
behind = at F64.zero minus_six_tenths eight_tenths

abbrev pub long_arc : MinorArc
long_arc = arc_of between_x_y behind

abbrev pub above_x : Vec3
above_x = at six_tenths F64.zero eight_tenths

abbrev pub short_arc : MinorArc
short_arc = arc_of (at F64.zero six_tenths eight_tenths) above_x

-- an arc handed in with a normal that is not its own, so that Z is a pole of it and its end is nearer to Z than its start
abbrev pub leaning : MinorArc
leaning = record { start = axis_x; end = at F64.zero eight_tenths six_tenths; normal = axis_z }

-- an arc whose start has no length, and a position with a component NaN
abbrev pub from_nowhere : MinorArc
from_nowhere = record { start = origin; end = axis_y; normal = axis_z }

abbrev pub no_position : Vec3
no_position = at nan F64.zero F64.zero

-- a position inside area 1: (0.36, 0.48, 0.8)
abbrev pub inside_area_1 : Vec3
inside_area_1 = at (of_bits binary64 0x3fd7_0a3d_70a3_d70a) (of_bits binary64 0x3fde_b851_eb85_1eb8) eight_tenths

-- 2.625
abbrev pub two_and_five_eighths : Float
two_and_five_eighths = of_bits binary64 0x4005_0000_0000_0000

-- ---- the definitions, with what a wrong program changes as parameters
-- when p lies past the end, what is answered at a pole, and what of the foot
unfoldable pub arc_by : (MinorArc → Vec3 → Bool) → (MinorArc → Vec3 → ChordLength) → (MinorArc → Vec3 → Vec3 → ChordLength) → MinorArc → Vec3 → ChordLength
arc_by past at-pole by-foot a p =
    if past a p then nearer_end a p else
    (if same (across_of a p) origin then at-pole a p else by-foot a p (foot_of a p))

-- which of two squared chords is kept, from which one on, and how many edges are looked at
unfoldable pub ring_by : (ChordLength → ChordLength → ChordLength) → ChordLength → ℕ → List Float → List Float → ℕ → Vec3 → ChordLength
ring_by kept from edges ps ns n p = iterate (λ i r. kept r (far_edge ps ns n p i)) edges 0 from

-- the angle by the squared chord, where that is not negative
unfoldable pub radians_by : (Float → Float) → Float → Float
radians_by angle c = if lt c F64.zero then minus_one else angle c

-- ---- the rules, and the wrong ones
abbrev pub to_start : MinorArc → Vec3 → ChordLength
to_start a p = Chords.chord p a.start

-- how much farther the start is than the end, and the squared chord from the start to the end
abbrev pub farther : MinorArc → Vec3 → Float
farther a p = (Chords.chord p a.start).0 ⊖ (Chords.chord p a.end).0

abbrev pub chord_of : MinorArc → Float
chord_of a = (Chords.chord a.start a.end).0

abbrev pub strictly_past : MinorArc → Vec3 → Bool
strictly_past a p = lt (chord_of a ⊕ epsilon) (farther a p)

abbrev pub past_bare : MinorArc → Vec3 → Bool
past_bare a p = le (chord_of a) (farther a p)

abbrev pub past_either : MinorArc → Vec3 → Bool
past_either a p = past_end a p || le (chord_of a ⊕ epsilon) ((Chords.chord p a.end).0 ⊖ (Chords.chord p a.start).0)

abbrev pub to_foot : MinorArc → Vec3 → Vec3 → ChordLength
to_foot a p foot = Chords.chord p foot

-- twice the angle whose sine is half the chord, by a cosine made of that sine
abbrev pub by_sine : (Float → Float) → Float → Float
by_sine cosine c = let u = root_of c ⊗ half in two ⊗ atan2 u (cosine u)

-- ---- what a line says: that the answer at p is not this program's
abbrev pub ArcOtherwise : (MinorArc → Vec3 → ChordLength) → MinorArc → Vec3 → Type 0
ArcOtherwise program a p = arc_answer a p ≡ chord (program a p) → ⊥

-- of area 1 as built
abbrev pub boundary_of : Build.Outcome → Vec3 → Told
boundary_of o p = boundary_answer (header_of o.answer) o.positions o.normals o.classes p

abbrev pub RingOtherwise : (List Float → List Float → ℕ → Vec3 → ChordLength) → Vec3 → Type 0
RingOtherwise program p = boundary_of (built area_1 3) p ≡ chord (program (built area_1 3).positions (built area_1 3).normals 3 p) → ⊥

pub record OfDistances : Type 0 where
  -- with the rules themselves each is the definition, so that what is otherwise below is so by its parameter alone
  pub arc_by_the_rules : (a : MinorArc) (p : Vec3) → arc_by past_end to_start by_foot a p ≡ far_arc a p
  pub ring_by_the_rules : (ps ns : List Float) (n : ℕ) (p : Vec3) → ring_by least most n ps ns n p ≡ far_ring ps ns n p
  pub radians_by_the_rules : (c : Float) → radians_by (by_sine (λ u. root_of ((one ⊖ u) ⊗ (one ⊕ u)))) c ≡ radians c
  -- the ends alone: 0.4 for a position on the arc
  pub ends_alone : ArcOtherwise nearer_end x_to_y between_x_y
  -- a strict comparison with ab + 2^-52: at the arc's own end the foot, off by last bits, where the answer is 0
  pub strictly_past_lem : ArcOtherwise (arc_by strictly_past to_start by_foot) long_arc behind
  -- one with ab alone: at the arc's own end 0, where the answer is the foot's
  pub past_without_2_52 : ArcOtherwise (arc_by past_bare to_start by_foot) short_arc above_x
  -- one for p past the start, too: at the arc's own start 0, where the answer is the foot's
  pub past_either_end : ArcOtherwise (arc_by past_either to_start by_foot) long_arc between_x_y
  -- at a pole the nearer end, which is not the start
  pub nearer_end_at_a_pole : ArcOtherwise (arc_by past_end nearer_end by_foot) leaning axis_z
  -- the foot taken without asking whether it is on the arc: -Y is its own foot, and the nearer end is X
  pub foot_unasked : ArcOtherwise (arc_by past_end to_start to_foot) x_to_y (opposite axis_y)
  -- the position judged ahead of the arc: its 3, and not the arc's 4
  pub position_before_arc : arc_answer from_nowhere no_position ≡ refused 3 → ⊥
  -- of a ring's edges the farthest: 0.8 for a position on the last one
  pub farthest_edge : RingOtherwise (λ ps ns n. ring_by later_max (squared F64.zero) n ps ns n) above_x
  -- the last edge left out: 0.4 there
  pub last_edge_left_out : RingOtherwise (λ ps ns n. ring_by least most (n - 1) ps ns n) above_x
  -- 0 for a position inside
  pub zero_inside : RingOtherwise (λ ps ns n p. squared F64.zero) inside_area_1
  -- the least from 4 on of no edges: 4 for the full loop, and for the empty one
  pub four_for_full : boundary_answer (full_header Plain false) [] [] [] axis_x ≡ chord most → ⊥
  pub four_for_empty : boundary_answer (empty_header Plain) [] [] [] axis_x ≡ chord most → ⊥
  -- the position judged ahead of the loop: its 3, and not the 1 of an empty loop with a class
  pub position_before_loop : boundary_answer (empty_header Plain) [] [] (0 ∷ []) no_position ≡ refused 3 → ⊥
  -- an arcsine by 1 - u·u
  pub one_less_the_square : radians two_and_five_eighths ≡ radians_by (by_sine (λ u. root_of (one ⊖ u ⊗ u))) two_and_five_eighths → ⊥
  -- the radians straight from the chord, twice the arctangent of √c and √(4 - c): a quarter turn exactly for 2, where the answer is two last bits more
  pub straight_from_the_chord : radians two ≡ radians_by (λ c. two ⊗ atan2 (root_of c) (root_of (four ⊖ c))) two → ⊥
  -- 0 for a negative squared chord
  pub zero_for_negative : radians minus_one ≡ F64.zero → ⊥
