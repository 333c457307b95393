-- Pairs that the two modes answer differently (SCOPE 54, 55): two arcs, two loops as built that have them as sides, and the loops of refusal 7.
-- Proved in proofs/Longs.antt. Definitions only.
use Rattle.std.specs.Prelude.{◌≡◌, List, ◌++◌, Float}
use Rattle.std.specs.Float.{binary64}
use Rattle.std.specs.Float.Ieee.{of_bits}
use Rattle.numbers.specs.F64.{zero}
use Rattle.vec3.specs.declared.Vec3.{Vec3}
use Rattle.vec3.specs.Vec.{axis_x, axis_y, axis_z, opposite, coords}
use Rattle.minor_arc.specs.declared.MinorArc.{MinorArc}
use Rattle.minor_arc.specs.declared.Mode.{Mode}
use Rattle.minor_arc.specs.declared.Mode.TheVariants.{Plain, Long}
use Rattle.minor_arc.specs.Arcs.{arc_of}
use Rattle.arc_relations.specs.declared.MinorArcRelation.TheVariants.{Disjoint, Intersecting}
use Rattle.arc_relations.specs.Relations.{relation_of}
use Rattle.loop_build.specs.Build.{Outcome, build_outcome}
use Rattle.loop_ask.specs.Answers.{Told, refused, answer}
use Rattle.loop_relate.specs.Relations.{relate_answer}
use Rattle.theorem_settled.specs.Settled.{six_tenths, eight_tenths, minus_six_tenths, at, blank, blank_classes, header_of}

-- ---- the arcs
-- (-0.6, 0.8, 0), 127 degrees from X
abbrev pub far_end : Vec3
far_end = at minus_six_tenths eight_tenths zero

-- (-0.224, 0.768, 0.6) and (-0.224, 0.768, -0.6)
abbrev pub upper : Vec3
upper = at (of_bits binary64 0xbfcc_ac08_3126_e979) (of_bits binary64 0x3fe8_9374_bc6a_7efa) six_tenths

abbrev pub lower : Vec3
lower = at (of_bits binary64 0xbfcc_ac08_3126_e979) (of_bits binary64 0x3fe8_9374_bc6a_7efa) minus_six_tenths

abbrev pub wide : MinorArc
wide = arc_of axis_x far_end

abbrev pub down : MinorArc
down = arc_of upper lower

-- where they cross, more than a quarter turn from X: (-0.28, 0.9600000000000001, 0)
abbrev pub crossing : Vec3
crossing = at (of_bits binary64 0xbfd1_eb85_1eb8_51ec) (of_bits binary64 0x3fee_b851_eb85_1eb9) zero

-- plain mode finds it from one side alone
pub record OfArcs : Type 0 where
  pub plain : relation_of Plain wide down ≡ Disjoint
  pub plain_round : relation_of Plain down wide ≡ Intersecting crossing
  pub long : relation_of Long wide down ≡ Intersecting crossing
  pub long_round : relation_of Long down wide ≡ Intersecting crossing

-- ---- loops of three corners, as built in a mode
abbrev pub with_wide : List Float
with_wide = coords axis_x ++ coords far_end ++ coords (opposite axis_z)

abbrev pub with_down : List Float
with_down = coords upper ++ coords lower ++ coords axis_y

-- two rings of which each has a corner in the other: (-0.8, 0, -0.6), X, (0.64, -0.48, 0.6) and -Y, Z, X
abbrev pub in_the_other : List Float
in_the_other = coords (at (of_bits binary64 0xbfe9_9999_9999_999a) zero minus_six_tenths) ++ coords axis_x ++ coords (at (of_bits binary64 0x3fe4_7ae1_47ae_147b) (of_bits binary64 0xbfde_b851_eb85_1eb8) six_tenths)

abbrev pub in_the_one : List Float
in_the_one = coords (opposite axis_y) ++ coords axis_z ++ coords axis_x

abbrev pub built_in : Mode → List Float → Outcome
built_in mode l = build_outcome mode l (blank 3) (blank 3) (blank_classes 3)

-- how one loop stands to another
abbrev pub pair : Outcome → Outcome → Told
pair a b = relate_answer (header_of a.answer) a.positions a.normals a.classes (header_of b.answer) b.positions b.normals b.classes

abbrev pub paired : Mode → List Float → List Float → Told
paired mode a b = pair (built_in mode a) (built_in mode b)

pub record OfLoops : Type 0 where
  -- disjoint, the other way round intersecting; in long mode intersecting both ways
  pub plain : paired Plain with_wide with_down ≡ answer 0
  pub plain_round : paired Plain with_down with_wide ≡ answer 2
  pub long : paired Long with_wide with_down ≡ answer 2
  pub long_round : paired Long with_down with_wide ≡ answer 2
  -- refusal 7, and in long mode intersecting: the crossing was missed
  pub seven : paired Plain in_the_other in_the_one ≡ refused 7
  pub no_seven : paired Long in_the_other in_the_one ≡ answer 2

pub record Longs : Type 0 where
  pub of_arcs : OfArcs
  pub of_loops : OfLoops
