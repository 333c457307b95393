-- SCOPE 49, 50: what a distance is: a squared chord from 0 to 4; and of a ring the least of its edges'. Proved in proofs/Least.antt. Definitions only.
use Rattle.std.specs.Prelude.{ℕ, ◌<◌, ◌≡◌, true, List, Float}
use Rattle.std.specs.Float.Ieee.{neg, le}
use Rattle.numbers.specs.F64 as F
use Rattle.vec3.specs.declared.Vec3.{Vec3}
use Rattle.chord_length.specs.declared.ChordLength.{ChordLength}
use Rattle.chord_length.specs.Chords.{most}
use Rattle.minor_arc.specs.declared.MinorArc.{MinorArc}
use Rattle.loop_header.specs.declared.Header.{Header}
use Rattle.loop_distances.specs.Distances.{far_arc, far_edge, far_ring, chord, arc_answer, boundary_answer}

-- from 0 to 4, so never NaN, and never -0.0
pub record Chordal (c : ChordLength) : Type 0 where
  pub at_least_lem : le F.zero c.0 ≡ true
  pub at_most_lem : le c.0 F.four ≡ true
  pub signed : c.0 ≡ neg F.zero → ⊥

-- it is the distance of one of n edges, or 4
pub data OfEdge (f : ℕ → ChordLength) (n : ℕ) : ChordLength → Type 0 where
  edge : (i : ℕ) → i < n → OfEdge f n (f i)
  largest : OfEdge f n most

-- at most that of every edge, and that of one of them
pub record Least (f : ℕ → ChordLength) (n : ℕ) (c : ChordLength) : Type 0 where
  pub below : (i : ℕ) → i < n → le c.0 (f i).0 ≡ true
  pub of_edge : OfEdge f n c

pub record Distances : Type 0 where
  -- whatever is handed in
  pub of_arc : (a : MinorArc) (p : Vec3) → Chordal (far_arc a p)
  pub of_ring : (ps ns : List Float) (n : ℕ) (p : Vec3) → Chordal (far_ring ps ns n p)
  pub least_of_lem : (ps ns : List Float) (n : ℕ) (p : Vec3) → Least (far_edge ps ns n p) n (far_ring ps ns n p)
  -- and nothing else is that
  pub no_other : (ps ns : List Float) (n : ℕ) (p : Vec3) (c : ChordLength) → Least (far_edge ps ns n p) n c → c ≡ far_ring ps ns n p
  -- so of every answer
  pub arc_answers : (a : MinorArc) (p : Vec3) (c : ChordLength) → arc_answer a p ≡ chord c → Chordal c
  pub loop_answers : (h : Header) (ps ns : List Float) (cs : List ℕ) (p : Vec3) (c : ChordLength) → boundary_answer h ps ns cs p ≡ chord c → Chordal c
