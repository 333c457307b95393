-- SCOPE 49, 50: how far a position is from an arc and from a loop's border, as a squared chord, and what is answered of it. Definitions only.
use Rattle.std.specs.Prelude.{ℕ, zero, suc, Bool, List, eqb, Float, Result, Ok, Err, if◌then◌else◌}
use Rattle.std.specs.Float.Ieee.{le}
use Rattle.numbers.specs.F64.{◌⊕◌, ◌⊖◌, epsilon}
use Rattle.numbers.specs.F64 as F
use Rattle.laws.specs.Loop.{iterate}
use Rattle.vec3.specs.declared.Vec3.{Vec3}
use Rattle.vec3.specs.Vec.{origin, same, cleared, stable_unit, orthogonal_to}
use Rattle.chord_length.specs.declared.ChordLength.{ChordLength}
use Rattle.chord_length.specs.Chords.{squared, most, least}
use Rattle.chord_length.specs.Chords as Chords
use Rattle.judge.specs.declared.Refusal.{Refusal}
use Rattle.judge.specs.Refusals.{number}
use Rattle.minor_arc.specs.declared.MinorArc.{MinorArc}
use Rattle.minor_arc.specs.Arcs.{within, location_of}
use Rattle.arcs.specs.Answers.{cleared_arc}
use Rattle.arcs.specs.Answers as Arcs
use Rattle.ring_edges.specs.Edges.{edge_at}
use Rattle.loop_header.specs.declared.Header.{Header}
use Rattle.loop_ask.specs.Questions.{query_fault}

-- ---- SCOPE 49: one arc
-- the squared chord from p to the end that is nearer, to the start where neither is
abbrev pub nearer_end : MinorArc → Vec3 → ChordLength
nearer_end a p = least (Chords.chord p a.start) (Chords.chord p a.end)

-- p lies past the end: the start is farther than the end by the whole side and 2^-52 more. One-sided, as in the source
abbrev pub past_end : MinorArc → Vec3 → Bool
past_end a p = le ((Chords.chord a.start a.end).0 ⊕ epsilon) ((Chords.chord p a.start).0 ⊖ (Chords.chord p a.end).0)

-- the unit vector across p and the normal, exactly zero where p is a pole of the arc
abbrev pub across_of : MinorArc → Vec3 → Vec3
across_of a p = stable_unit p a.normal

-- the foot of p on the arc's great circle
abbrev pub foot_of : MinorArc → Vec3 → Vec3
foot_of a p = orthogonal_to a.normal (across_of a p)

-- the foot's where it is on the arc, ends included, else that of the nearer end
unfoldable pub by_foot : MinorArc → Vec3 → Vec3 → ChordLength
by_foot a p foot = if within (location_of a foot) then Chords.chord p foot else nearer_end a p

-- p past the end: the nearer end; at a pole: the start; else by the foot
unfoldable pub far_arc : MinorArc → Vec3 → ChordLength
far_arc a p =
    if past_end a p then nearer_end a p else
    (if same (across_of a p) origin then Chords.chord p a.start else by_foot a p (foot_of a p))

-- ---- SCOPE 50: a loop
-- of the edge from corner i to the next
abbrev pub far_edge : List Float → List Float → ℕ → Vec3 → ℕ → ChordLength
far_edge ps ns n p i = far_arc (edge_at ps ns n i) p

-- the least over the n edges of a ring in order, from 4 on
unfoldable pub far_ring : List Float → List Float → ℕ → Vec3 → ChordLength
far_ring ps ns n p = iterate (λ i r. least r (far_edge ps ns n p i)) n 0 most

-- 0 for a loop without corners
unfoldable pub far : List Float → List Float → ℕ → Vec3 → ChordLength
far ps ns n p = if eqb n 0 then squared F.zero else far_ring ps ns n p

-- ---- what is answered: the refusal, or the squared chord
pub data Told : Type 0 where
  refused : ℕ → Told
  chord : ChordLength → Told

abbrev pub told_distance : Result ChordLength Refusal → Told
told_distance (Err r) = refused (number r)
told_distance (Ok c) = chord c

abbrev pub judged : ℕ → ChordLength → Told
judged zero c = chord c
judged (suc k) c = refused (suc k)

-- SCOPE 26: an arc's refusals, and then the position's
unfoldable pub arc_told : MinorArc → Vec3 → Told
arc_told a p = judged (Arcs.query_fault a p) (far_arc a p)

abbrev pub arc_answer : MinorArc → Vec3 → Told
arc_answer a p = arc_told (cleared_arc a) (cleared p)

-- a loop's refusals, and then the position's
unfoldable pub boundary_told : Header → List Float → List Float → List ℕ → Vec3 → Told
boundary_told h ps ns cs p = judged (query_fault h ps ns cs p) (far ps ns h.count p)

abbrev pub boundary_answer : Header → List Float → List Float → List ℕ → Vec3 → Told
boundary_answer h ps ns cs p = boundary_told h ps ns cs (cleared p)
