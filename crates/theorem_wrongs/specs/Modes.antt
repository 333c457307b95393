-- Wrong programs of the two modes (SCOPE 54 to 57): each gives, at one input, another answer than the definition. Proved in proofs/Modes.antt. Definitions only.
use Rattle.std.specs.Prelude.{ℕ, pos, ◌≡◌, true, false, List, [], ◌∷◌, None, ◌++◌, get_or, replicate, Float}
use Rattle.std.specs.Float.{binary64, nan}
use Rattle.std.specs.Float.Ieee.{of_bits}
use Rattle.numbers.specs.F64.{zero}
use Rattle.vec3.specs.declared.Vec3.{Vec3}
use Rattle.vec3.specs.Vec.{axis_x, axis_y, axis_z, opposite, coords}
use Rattle.chord_length.specs.Chords.{squared}
use Rattle.cap.specs.declared.Cap.{Cap}
use Rattle.cap.specs.Caps.{full_one}
use Rattle.minor_arc.specs.declared.MinorArc.{MinorArc}
use Rattle.minor_arc.specs.declared.Mode.TheVariants.{Plain, Long}
use Rattle.arcs.specs.Answers as Arcs
use Rattle.loop_header.specs.declared.Header.{Header}
use Rattle.loop_header.specs.declared.State.{State}
use Rattle.loop_header.specs.declared.State.TheVariants.{Empty, Ring}
use Rattle.loop_header.specs.Loops.{empty_header, full_header}
use Rattle.loop_build.specs.Build as Build
use Rattle.loop_ask.specs.Answers.{Told, refused, answer}
use Rattle.loop_ask.specs.Questions.{place_answer, simple_answer, equivalent_answer}
use Rattle.loop_relate.specs.Relations.{relate_answer}
use Rattle.bytes_loop.specs.Layout.{header_size, header_at}
use Rattle.bytes_build.specs.Build.{build_outcome}
use Rattle.theorem_settled.specs.Settled.{six_tenths, eight_tenths, at, blank, blank_classes, flat_list, header_of, related}
use Rattle.theorem_modes.specs.Longs.{wide, down, with_wide, with_down, in_the_other, in_the_one, built_in, pair, paired}

-- ---- the inputs
-- two half circles from X to -X, by way of Y and by way of -Z, which share both ends
abbrev pub half_by_y : MinorArc
half_by_y = record { start = axis_x; end = opposite axis_x; normal = axis_z }

abbrev pub half_by_minus_z : MinorArc
half_by_minus_z = record { start = axis_x; end = opposite axis_x; normal = axis_y }

-- four corners, whose first side crosses the third past a quarter turn from its start: (-0.8, 0.6, 0), (0.6, 0, 0.8), Z, (0.8, 0.6, 0)
abbrev pub twisted : List Float
twisted = coords (at (of_bits binary64 0xbfe9_9999_9999_999a) six_tenths zero) ++ coords (at six_tenths zero eight_tenths) ++ coords axis_z ++ coords (at eight_tenths six_tenths zero)

-- a triangle whose cap does not meet that ring's: -X, -Y, -Z
abbrev pub behind : List Float
behind = coords (opposite axis_x) ++ coords (opposite axis_y) ++ coords (opposite axis_z)

-- four corners, no two sides of which meet in either mode, and (0, -0.8, 0.6), which lies outside: (0.8, 0.6, 0), (0.6, 0.8, 0), -Z, (-0.8, 0, 0.6)
abbrev pub spread : List Float
spread = coords (at eight_tenths six_tenths zero) ++ coords (at six_tenths eight_tenths zero) ++ coords (opposite axis_z) ++ coords (at (of_bits binary64 0xbfe9_9999_9999_999a) zero six_tenths)

abbrev pub outside_spread : Vec3
outside_spread = at zero (of_bits binary64 0xbfe9_9999_9999_999a) six_tenths

abbrev pub long_four : List Float → Build.Outcome
long_four l = Build.build_outcome Long l (blank 4) (blank 4) (blank_classes 4)

-- a long header of no loop that was built
abbrev pub long_header : ℕ → State → Cap → Header
long_header count state cap = record { count = count; state = state; cap = cap; insides = None; reversed = false; weak = false; mode = Long }

-- a cap with a radius NaN
abbrev pub no_cap : Cap
no_cap = record { centre = axis_z; radius = squared nan }

-- 88 bytes of a header with this mark byte alone
abbrev pub marked_by : ℕ → List ℕ
marked_by marks = 0 ∷ 0 ∷ 0 ∷ marks ∷ replicate 84 0

-- ---- the questions put to loops as built
abbrev pub header : Build.Outcome → Header
header o = header_of o.answer

abbrev pub placed : Build.Outcome → Vec3 → Told
placed o p = place_answer (header o) o.positions o.normals o.classes p

abbrev pub is_simple : Build.Outcome → Told
is_simple o = simple_answer (header o) o.positions o.normals o.classes

abbrev pub is_equivalent : Build.Outcome → Build.Outcome → Told
is_equivalent a b = equivalent_answer (header a) a.positions a.normals a.classes (header b) b.positions b.normals b.classes

-- how a loop without corners stands to a ring of three corners at the origin
abbrev pub to_nowhere : Header → Header → Told
to_nowhere h o = relate_answer h [] [] [] o (blank 3) (blank 3) (blank_classes 3)

pub record OfModes : Type 0 where
  -- ---- meeting
  -- in long mode the point on the side of the first arc's start alone: disjoint, and no point; in plain mode both
  pub start_side_alone : Arcs.relate_answer Long wide down ≡ Arcs.relate_answer Plain wide down → ⊥
  pub start_side_alone_met : Arcs.intersection_answer Long wide down ≡ Arcs.answer (pos 0) [] → ⊥
  pub both_in_plain_mode : paired Plain with_wide with_down ≡ answer 2 → ⊥
  -- the opposite point where both touch: the arcs share X, which is p, and -X
  pub opposite_reported : Arcs.relate_answer Long half_by_y half_by_minus_z ≡ Arcs.answer (pos 2) (opposite axis_x ∷ []) → ⊥
  -- ---- one loop
  -- a place in a long loop by the plain rule: the arc from the first inside crosses one side, past a quarter turn from its start
  pub place_by_the_plain_rule : placed (long_four spread) outside_spread ≡ answer 1 → ⊥
  -- the cap kept in a long place: -X is outside the cap, and no side is crossed on the way from the first inside
  pub cap_kept_in_a_place : placed (long_four twisted) (opposite axis_x) ≡ answer 0 → ⊥
  -- `is_simple` of a long loop by the plain rule
  pub simple_by_the_plain_rule : is_simple (long_four twisted) ≡ answer 1 → ⊥
  -- ---- two loops
  -- the caps kept in a long `relate`: they do not meet, and the triangle is found in the ring
  pub caps_kept_in_a_pair : pair (long_four twisted) (built_in Long behind) ≡ answer 0 → ⊥
  -- the first loop's mode used for both, and the second's
  pub first_mode_for_both : pair (built_in Plain with_wide) (built_in Long with_down) ≡ paired Plain with_wide with_down → ⊥
  pub second_mode_for_both : pair (built_in Plain with_wide) (built_in Long with_down) ≡ paired Long with_wide with_down → ⊥
  -- 11 ahead of the second loop's 4, and of its 3, judged last of all
  pub eleven_before_four : to_nowhere (empty_header Plain) (long_header 3 Ring full_one) ≡ refused 11 → ⊥
  pub eleven_before_three : related (empty_header Plain) (long_header 0 Empty no_cap) ≡ refused 11 → ⊥
  -- 11 after 7
  pub seven_before_eleven : pair (built_in Plain in_the_other) (built_in Long in_the_one) ≡ refused 7 → ⊥
  -- no 11 for FULL, and none for EMPTY
  pub full_without_eleven : (n : ℕ) → related (full_header Plain false) (full_header Long false) ≡ answer n → ⊥
  pub empty_without_eleven : (n : ℕ) → related (empty_header Long) (empty_header Plain) ≡ answer n → ⊥
  -- 11 given by `is_equivalent`
  pub eleven_by_equivalent : is_equivalent (built_in Plain with_wide) (built_in Long with_wide) ≡ refused 11 → ⊥
  -- ---- building, and bytes
  -- EMPTY built without its mode, and FULL
  pub empty_without_mode : (built_in Long []).answer ≡ Build.loop (empty_header Plain) → ⊥
  pub full_without_mode : (built_in Long flat_list).answer ≡ Build.loop (full_header Plain false) → ⊥
  -- mark 8 not written
  pub mark_8_not_written : get_or (build_outcome Long [] (replicate header_size 0)).out 3 9 ≡ 0 → ⊥
  -- mark 8 taken for weak, or passed over; weak taken for long
  pub mark_8_for_weak : (header_at (marked_by 8)).weak ≡ true → ⊥
  pub mark_8_passed_over : (header_at (marked_by 8)).mode ≡ Plain → ⊥
  pub weak_for_long : (header_at (marked_by 2)).mode ≡ Long → ⊥
