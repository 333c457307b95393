-- SCOPE 40 over bytes: what `desk_build` or `desk_build_long` wrote, its first 88 + 49n bytes handed back as they are (SCOPE 32), is refused by none of 1 to 6:
-- by `desk_triangles` with 8 alone, by `desk_accepts` with 9 alone, by `desk_pair` with 7 alone, and with 11 beside a loop of the other mode (SCOPE 56). Any list
-- and any output will do. Proved in proofs/Theorem.antt. Definitions only.
use Rattle.std.specs.Prelude.{ℕ, ◌+◌, ◌*◌, ◌%◌, ◌≤◌, ◌<◌, ◌≡◌, List, ◌∷◌, length, take}
use Rattle.judge.specs.Judge.{fault_of}
use Rattle.minor_arc.specs.declared.Mode.{Mode}
use Rattle.minor_arc.specs.declared.Mode.TheVariants.{Plain, Long}
use Rattle.loop_header.specs.declared.State.{State}
use Rattle.loop_header.specs.declared.State.TheVariants.{Empty, Full, Ring}
use Rattle.loop_header.specs.declared.Header.{Header}
use Rattle.loop_header.specs.Loops.{loop_fault}
use Rattle.loop_build.specs.Build.{list_fault, opened_count}
use Rattle.wire.specs.Wire.{vec_size, vec_of}
use Rattle.bytes_loop.specs.Outcome.{Outcome, refusal_of}
use Rattle.bytes_loop.specs.Layout.{loop_size, marks_at, header_at, positions_at, normals_at, classes_at, frame_fault, loop_bytes}
use Rattle.bytes_build.specs.Build.{corners, list_at, build_outcome}
use Rattle.bytes_ask.specs.declared.Question.TheVariants.{Place, Vertex, OnEdge}
use Rattle.bytes_ask.specs.Ask.{number_of, ask_told, convex_told, simple_told}
use Rattle.bytes_cut.specs.Cut.{triples_of, triangles_outcome}
use Rattle.bytes_check.specs.Checking.{accepts_told}
use Rattle.bytes_pair.specs.declared.Comparison.TheVariants.{Relation, Equivalence}
use Rattle.bytes_pair.specs.Pair.{pair_told}
use Rattle.bytes_distances.specs.Distances.{chord_size, far_outcome}
use Rattle.theorem_built.specs.Built.{Loop, AsBuilt, ask}

-- SCOPE 32: the bytes of a loop, and the loop that is read from bytes
abbrev pub bytes_of : Loop → List ℕ
bytes_of a = loop_bytes a.header a.positions a.normals a.classes

abbrev pub loop_at : List ℕ → Loop
loop_at s = record { header = header_at s; positions = positions_at s; normals = normals_at s; classes = classes_at s }

-- what is handed back of an output: as many bytes as a loop of the answered count has
abbrev pub bytes_out : Outcome ℕ → List ℕ
bytes_out o = take (loop_size o.number) o.out

-- SCOPE 33, 57: `desk_build`, or in long mode `desk_build_long`, answered a count, which is below 65,536
pub data Written : List ℕ → Type 0 where
  written : (mode : Mode) (list out : List ℕ) → (build_outcome mode list out).number < 65536 → Written (bytes_out (build_outcome mode list out))

-- SCOPE 25, 33: the number of all triangles, or refusal 8, and that of a ring above three alone
pub data Cut (h : Header) : ℕ → Type 0 where
  all : Cut h (triples_of h)
  no_ear : h.state ≡ Ring → 3 < h.count → Cut h (refusal_of 8)

-- SCOPE 25, 33: refusal 9 for the empty and the full loop; 0 or 1 for a ring
abbrev pub Checked : State → ℕ → Type 0
Checked Empty n = n ≡ refusal_of 9
Checked Full n = n ≡ refusal_of 9
Checked Ring n = n ≤ 1

-- SCOPE 24, 25, 33: of loops of one mode one of the six relations, or refusal 7, and that of two rings alone; SCOPE 56: of loops of different modes 11
pub data Related (h o : Header) : ℕ → Type 0 where
  related : {n : ℕ} → h.mode ≡ o.mode → n ≤ 5 → Related h o n
  each_in_other : h.mode ≡ o.mode → h.state ≡ Ring → o.state ≡ Ring → Related h o (refusal_of 7)
  modes_differ : (h.mode ≡ o.mode → ⊥) → Related h o (refusal_of 11)

-- SCOPE 32: loops as built come back from their bytes as they were
pub record RoundTrip : Type 0 where
  -- written and read again, header, positions, normals and classes are the same, in either mode
  pub same : (a : Loop) → AsBuilt a → loop_at (bytes_of a) ≡ a
  -- what `desk_build` wrote is the bytes of a loop as built, and what `desk_build_long` wrote
  pub as_built : (s : List ℕ) → Written s → AsBuilt (loop_at s)
  pub whole : (s : List ℕ) → Written s → s ≡ bytes_of (loop_at s)
  -- SCOPE 57: its mode is the one that it was built in, EMPTY's and FULL's too
  pub mode : (mode : Mode) (list out : List ℕ) → (build_outcome mode list out).number < 65536 → (header_at (bytes_out (build_outcome mode list out))).mode ≡ mode

-- SCOPE 57: what the byte of marks says, whoever wrote it
pub record Marks : Type 0 where
  -- marks above 15 are passed over
  pub marks_above : (a b state marks k : ℕ) (s : List ℕ) → header_at (a ∷ b ∷ state ∷ (marks + 16 * k) ∷ s) ≡ header_at (a ∷ b ∷ state ∷ marks ∷ s)
  -- without mark 8 a loop is plain, with it long
  pub unmarked : (s : List ℕ) → marks_at s % 16 < 8 → (header_at s).mode ≡ Plain
  pub marked : (s : List ℕ) → 8 ≤ marks_at s % 16 → (header_at s).mode ≡ Long

-- SCOPE 33, 34, 40: the number that each function on loops answers, where all from 65,536 on are refusals: for a query of 24 bytes that is fine, an output with
-- room and triangle bytes in sixes
pub record Returned : Type 0 where
  -- every list that is not refused, with room for as many corners as it is judged by, makes one
  pub build : (mode : Mode) (list out : List ℕ) → length list % vec_size ≡ 0 → list_fault (list_at list) ≡ 0 → loop_size (corners (opened_count (list_at list))) ≤ length out
      → Written (bytes_out (build_outcome mode list out))
  pub round_trip : RoundTrip
  pub marks : Marks
  -- neither the bytes nor the loop in them are refused
  pub frame_fault_lem : (s : List ℕ) → Written s → frame_fault s ≡ 0
  pub loop_fault_lem : (s : List ℕ) → Written s → ask loop_fault (loop_at s) ≡ 0
  pub desk_place : (s : List ℕ) → Written s → (p : List ℕ) → length p ≡ vec_size → fault_of (vec_of p 0) ≡ 0 → number_of (ask_told Place s p) ≤ 2
  pub desk_vertex : (s : List ℕ) → Written s → (p : List ℕ) → length p ≡ vec_size → fault_of (vec_of p 0) ≡ 0 → number_of (ask_told Vertex s p) ≤ 1
  pub desk_on_edge : (s : List ℕ) → Written s → (p : List ℕ) → length p ≡ vec_size → fault_of (vec_of p 0) ≡ 0 → number_of (ask_told OnEdge s p) ≤ 1
  pub desk_far : (s : List ℕ) → Written s → (p : List ℕ) → length p ≡ vec_size → fault_of (vec_of p 0) ≡ 0 → (out : List ℕ) → chord_size ≤ length out → (far_outcome s p out).number ≡ 0
  pub desk_convex : (s : List ℕ) → Written s → number_of (convex_told s) ≤ 1
  pub desk_simple : (s : List ℕ) → Written s → number_of (simple_told s) ≤ 1
  pub desk_triangles : (s : List ℕ) → Written s → (out : List ℕ) → 6 * triples_of (header_at s) ≤ length out → Cut (header_at s) (triangles_outcome s out).number
  pub desk_accepts : (s : List ℕ) → Written s → (t : List ℕ) → length t % 6 ≡ 0 → Checked (header_at s).state (number_of (accepts_told s t))
  pub desk_equivalent : (s r : List ℕ) → Written s → Written r → number_of (pair_told Equivalence s r) ≤ 1
  pub desk_pair : (s r : List ℕ) → Written s → Written r → Related (header_at s) (header_at r) (number_of (pair_told Relation s r))
