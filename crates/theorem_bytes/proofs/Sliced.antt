-- What `desk_build_f64` or `desk_build_long_f64` filled is a loop as built in its mode, and is refused by 8, 7 and 11 alone: the statement of specs/Slices.antt. Assumes nothing.
use Prim.Native.Nat.{ℕ, zero, suc, ◌*◌, ◌≤◌, ◌<◌}
use mathlib.Core.Path.{◌≡◌, refl, sym, ap, ◌∙◌, subst}
use mathlib.Core.Bool.{Bool}
use mathlib.Core.List.{List, [], append-nil}
use native.Mathlib.Omega.{arith}
use lib.ListN.{length}
use lib.Seq.{sets-eq, take_at}
use lib.Dec.{ltb}
use lib.Ieee.{Float}
use borrow.Author.Tests.{le-ltb, ltb-false}
use Rattle.laws.specs.Loop.{first}
use Rattle.laws.proofs.Firsts.{first_zero_lem, first_fine, test_none}
use Rattle.vec3.specs.declared.Vec3.{Vec3}
use Rattle.vec3.specs.Vec.{cleared}
use Rattle.minor_arc.specs.declared.Mode.{Mode}
use Rattle.judge.specs.Judge.{fault_of}
use Rattle.loop_header.specs.declared.Header.{Header}
use Rattle.loop_header.specs.Loops.{loop_fault}
use Rattle.loop_header.proofs.Sounds.{sound, sound_most}
use Rattle.loop_build.specs.Build as B
use Rattle.loop_build.specs.Build.{Doubles, opened_count, refusal}
use Rattle.loop_build.proofs.Modes.{modes}
use Rattle.loop_ask.specs.Questions.{query_fault}
use Rattle.loop_distances.specs.Distances.{boundary_told}
use Rattle.loop_triangles.specs.Triangles as T
use Rattle.bytes_loop.specs.Layout.{header_size, header_at, header_fault, header_bytes}
use Rattle.bytes_loop.proofs.Faults.{header_state}
use Rattle.bytes_loop.proofs.Parts.{header_width}
use Rattle.bytes_build.specs.Build.{made_if, corners, need_fault, out_outcome, floats_outcome}
use Rattle.bytes_build.proofs.Builds.{header_is}
use Rattle.bytes_build.proofs.Rooms.{need_none}
use Rattle.bytes_ask.specs.Ask.{number_of, place_told}
use Rattle.bytes_cut.specs.Cut as C
use Rattle.bytes_pair.specs.declared.Comparison.TheVariants.{Relation}
use Rattle.bytes_pair.specs.Pair.{told_of, next_told, floats_told}
use Rattle.bytes_distances.specs.Distances.{leave_float, far_floats_outcome}
use Rattle.theorem_built.specs.Built.{Loop, handed_back, AsBuilt, as_built}
use Rattle.theorem_built.proofs.Whole.{whole}
use Rattle.theorem_built.proofs.Theorem.{built}
use Rattle.theorem_bytes.specs.Returned as R
use Rattle.theorem_bytes.specs.Slices.{Parts, loop_in, parts_of, Filled, filled, Slices}
use Rattle.theorem_bytes.proofs.Kept.{kept}
use Rattle.theorem_bytes.proofs.Loops.{state_at, header_back}
use Rattle.theorem_bytes.proofs.Writes.{state_fine}
use Rattle.theorem_bytes.proofs.Numbers.{number, triples_same, cut_number, pair_number}

-- ---- a loop with its header in bytes
abbrev in_parts : Loop → Parts
in_parts a = record { header = header_bytes a.header; positions = a.positions; normals = a.normals; classes = a.classes }

module _ (a : Loop) (b : AsBuilt a) where
  header_same : header_at (header_bytes a.header) ≡ a.header
  header_same =
      let m = sound_most (sound a.header a.positions a.normals a.classes (whole a b)) in
      rw append-nil at (header_back a.header [] (omega (arith, m)) (kept a b).cap (kept a b).insides)

  same : loop_in (in_parts a) ≡ a
  same = rw header_same

  headed : header_fault (header_bytes a.header) ≡ 0
  headed =
      let t = rw append-nil at (state_at a.header []) in
      sym (header_state (header_bytes a.header) (header_width a.header) (sym (state_fine (header_bytes a.header) a.header.state t)))

-- ---- what was filled
record Read (mode : Mode) (a : Parts) : Type 0 where
  loop : Loop
  made : AsBuilt loop
  moded : loop.header.mode ≡ mode
  parts : a ≡ in_parts loop

module _ (mode : Mode) (l : List Float) (header : List ℕ) (ps ns : List Float) (cs : List ℕ) where
  answered : (k : ℕ) → (out_outcome (B.outcome_by k mode l ps ns cs) header).number < 65536 → k ≡ 0
  answered zero h = refl
  answered (suc k) h = absurd (omega arith)

  -- of an outcome of building, by its header
  written : (o : B.Outcome) (h : Header) → o.answer ≡ B.loop h → header_size ≤ length header → parts_of (out_outcome o header) ≡ in_parts (handed_back h o)
  written o h e r =
      let w = header_width h in
      rw (e, sets-eq (header_bytes h) header 0 (omega arith), take_at (header_bytes h) _ header_size w)

  roomy : need_fault (length header) 0 ≡ 0 → header_size ≤ length header
  unfolding need_fault corners
  roomy z = ltb-false _ _ (test_none _ _ z)

  module _ (d : Doubles l) (z : first (refusal l ps ns cs) (need_fault (length header) 0) ≡ 0) where
    abbrev few : Bool
    few = ltb (opened_count l) 3

    abbrev made_header : Header
    made_header = (made_if few mode l (opened_count l)).header

    unrefused : refusal l ps ns cs ≡ 0
    unrefused = (first_zero_lem (refusal l ps ns cs) (need_fault (length header) 0) z).0

    answer : (B.build_outcome mode l ps ns cs).answer ≡ B.loop made_header
    unfolding B.build_outcome
    answer = rw unrefused (header_is mode l (opened_count l) ps ns cs few)

    outcome : floats_outcome mode l header ps ns cs ≡ out_outcome (B.build_outcome mode l ps ns cs) header
    unfolding floats_outcome B.build_outcome
    outcome = rw (z, unrefused)

    filled_read : Read mode (parts_of (floats_outcome mode l header ps ns cs))
    filled_read = record {
      loop = handed_back made_header (B.build_outcome mode l ps ns cs);
      made = as_built mode l ps ns cs made_header d answer;
      moded = (modes l ps ns cs).stored mode made_header answer;
      parts = ap parts_of outcome ∙ written (B.build_outcome mode l ps ns cs) made_header answer (roomy (first_zero_lem (refusal l ps ns cs) (need_fault (length header) 0) z).1);
    }

    small : (floats_outcome mode l header ps ns cs).number < 65536
    small =
        let a = handed_back made_header (B.build_outcome mode l ps ns cs) in
        let m = sound_most (sound a.header a.positions a.normals a.classes (whole a (as_built mode l ps ns cs made_header d answer))) in
        rw (outcome, answer) (omega (arith, m))

pub some : (mode : Mode) (l : List Float) (header : List ℕ) (ps ns : List Float) (cs : List ℕ) → Doubles l → refusal l ps ns cs ≡ 0 → header_size ≤ length header
    → Filled (parts_of (floats_outcome mode l header ps ns cs))
some mode l header ps ns cs d z r =
    let none = first_fine (refusal l ps ns cs) (need_fault (length header) 0) z (need_none (length header) 0 r (λ h. absurd (omega arith))) in
    filled mode l header ps ns cs d (small mode l header ps ns cs d none)

read_in : (mode : Mode) (l : List Float) (header : List ℕ) (ps ns : List Float) (cs : List ℕ) → Doubles l → (floats_outcome mode l header ps ns cs).number < 65536
    → Read mode (parts_of (floats_outcome mode l header ps ns cs))
read_in mode l header ps ns cs d h = filled_read mode l header ps ns cs d (answered mode l header ps ns cs _ (unfold floats_outcome in h))

read : (a : Parts) → Filled a → (mode : Mode) × Read mode a
read _ (filled mode l header ps ns cs d h) = (mode, read_in mode l header ps ns cs d h)

again : {mode : Mode} {a : Parts} (found : Read mode a) → loop_in a ≡ found.loop
again found = ap loop_in found.parts ∙ same found.loop found.made

mode_again : {mode : Mode} {a : Parts} → Read mode a → (header_at a.header).mode ≡ mode
mode_again found = ap (λ (x : Loop). x.header.mode) (again found) ∙ found.moded

-- ---- the functions
module _ (a : Parts) (w : Filled a) where
  abbrev found : Read (read a w).0 a
  found = (read a w).1

  is_built : AsBuilt (loop_in a)
  is_built = subst (λ (x : Loop). AsBuilt x) (sym (again found)) found.made

  frame : header_fault a.header ≡ 0
  frame = ap (λ (x : Parts). header_fault x.header) found.parts ∙ headed found.loop found.made

  fine : loop_fault (header_at a.header) a.positions a.normals a.classes ≡ 0
  fine = built.loop_fault_lem (loop_in a) is_built

  place : (p : Vec3) → fault_of (cleared p) ≡ 0 → number_of (place_told a.header a.positions a.normals a.classes p) ≤ 2
  place p f = rw frame (number 2 _ (built.contains_position (loop_in a) is_built p f))

  far : (p : Vec3) → fault_of (cleared p) ≡ 0 → (out : List Float) → 1 ≤ length out → (far_floats_outcome a.header a.positions a.normals a.classes p out).number ≡ 0
  unfolding boundary_told query_fault leave_float
  far p f out r = rw (frame, fine, f, le-ltb (length out) 1 r)

  triangles : (out : List ℕ) → 3 * C.triples_of (header_at a.header) ≤ length out → R.Cut (header_at a.header) (C.floats_outcome a.header a.positions a.classes out).number
  unfolding C.floats_outcome
  triangles out r =
      let h = header_at a.header in
      rw frame (cut_number h (T.triangulate_outcome h a.positions a.classes out).answer (built.triangulate (loop_in a) is_built out (rw triples_same at r)))

module _ (a b : Parts) (w : Filled a) (v : Filled b) where
  pair_told_lem : floats_told a.header a.positions a.normals a.classes b.header b.positions b.normals b.classes
      ≡ told_of Relation (header_at a.header) a.positions a.normals a.classes (header_at b.header) b.positions b.normals b.classes
  unfolding next_told
  pair_told_lem = rw (frame a w, fine a w, frame b v)

  pair : R.Related (header_at a.header) (header_at b.header) (number_of (floats_told a.header a.positions a.normals a.classes b.header b.positions b.normals b.classes))
  pair = rw pair_told_lem (pair_number (header_at a.header) (header_at b.header) _ (built.relate (loop_in a) (loop_in b) (is_built a w) (is_built b v)))

pub sliced : Slices
sliced = record {
  build = some;
  mode = λ mode l header ps ns cs d h. mode_again (read_in mode l header ps ns cs d h);
  as_built = is_built;
  header_fault_lem = frame;
  loop_fault_lem = fine;
  desk_place_f64 = place;
  desk_far_f64 = far;
  desk_triangles_f64 = triangles;
  desk_pair_f64 = pair;
}
