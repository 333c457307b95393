-- Loops as built are refused over bytes by 8, 9, 7 and 11 alone: the statement of specs/Returned.antt, function by function. Assumes nothing.
use Prim.Native.Nat.{ℕ, ◌*◌, ◌/◌, ◌%◌, ◌≤◌}
use mathlib.Core.Path.{◌≡◌, refl, sym, ap, ◌∙◌, subst}
use mathlib.Core.Bool.{true}
use mathlib.Core.List.{List}
use native.Mathlib.Omega.{arith}
use lib.ListN.{length, length-replicate}
use lib.Ieee.{binary64}
use lib.Ieee.Bits.{of_bits-fits}
use borrow.Author.Tests.{eq-eqb, le-ltb}
use Rattle.vec3.specs.Vec.{cleared}
use Rattle.judge.specs.Judge.{fault_of}
use Rattle.signs.proofs.Clears.{clear_once}
use Rattle.loop_header.specs.Loops.{loop_fault}
use Rattle.loop_ask.specs.Questions.{query_fault}
use Rattle.loop_distances.specs.Distances.{boundary_told}
use Rattle.loop_triangles.specs.Triangles as T
use Rattle.wire.specs.Wire.{vec_size, float_of, vec_of, numbers_at}
use Rattle.wire.proofs.Lays.{numbers_length}
use Rattle.bytes_loop.specs.Layout.{header_at, positions_at, normals_at, classes_at, frame_fault}
use Rattle.bytes_loop.proofs.Faults.{right_size}
use Rattle.bytes_ask.specs.declared.Question.{Question}
use Rattle.bytes_ask.specs.declared.Question.TheVariants.{Place, Vertex, OnEdge}
use Rattle.bytes_ask.specs.Ask.{number_of, told_at, needs_position, told_by, ask_told, convex_told, simple_told}
use Rattle.bytes_cut.specs.Cut.{triples_of, blank, room_fault, parts_outcome, triangles_outcome}
use Rattle.bytes_check.specs.Checking.{sixes_fault, accepts_told}
use Rattle.bytes_pair.specs.declared.Comparison.{Comparison}
use Rattle.bytes_pair.specs.declared.Comparison.TheVariants.{Relation, Equivalence}
use Rattle.bytes_pair.specs.Pair.{told_of, next_told, pair_told}
use Rattle.bytes_distances.specs.Distances.{chord_size, leave, far_outcome}
use Rattle.bytes_distances.specs.Distances as Far
use Rattle.theorem_built.specs.Built.{Loop, AsBuilt, Answers, triangle_count}
use Rattle.theorem_built.proofs.Theorem.{built, uncut}
use Rattle.theorem_bytes.specs.Returned.{bytes_of, loop_at, Written, Cut, Checked, Related, Returned}
use Rattle.theorem_bytes.proofs.Numbers.{number, triples_same, cut_number, laid_number, check_number, pair_number}
use Rattle.theorem_bytes.proofs.Writes.{same, framed, Read, read_in, read, again, mode_again, some}
use Rattle.theorem_bytes.proofs.Marks.{marks}

module _ (s : List ℕ) (w : Written s) where
  abbrev found : Read (read s w).0 s
  found = (read s w).1

  as_built : AsBuilt (loop_at s)
  as_built = subst (λ (a : Loop). AsBuilt a) (sym (again found)) found.built

  whole : s ≡ bytes_of (loop_at s)
  whole = found.bytes ∙ ap bytes_of (sym (again found))

  frame : frame_fault s ≡ 0
  frame = ap frame_fault found.bytes ∙ framed found.loop found.built

  fine : loop_fault (header_at s) (positions_at s) (normals_at s) (classes_at s) ≡ 0
  fine = built.loop_fault_lem (loop_at s) as_built

  -- ---- questions
  module _ (p : List ℕ) (e : length p ≡ vec_size) (f : fault_of (vec_of p 0) ≡ 0) where
    query : fault_of (cleared (vec_of p 0)) ≡ 0
    query = ap fault_of (clear_once (float_of p 0) (float_of p 8) (float_of p 16) (of_bits-fits binary64 _) (of_bits-fits binary64 _) (of_bits-fits binary64 _)) ∙ f

    told : (q : Question) → needs_position q ≡ true → (m : ℕ) → Answers m (told_at q (header_at s) (positions_at s) (normals_at s) (classes_at s) (vec_of p 0)) → number_of (ask_told q s p) ≤ m
    unfolding told_by
    told q n m a = rw (frame, n, fine, right_size (length p) vec_size e) (number m _ a)

    place : number_of (ask_told Place s p) ≤ 2
    place = told Place refl 2 (built.contains_position (loop_at s) as_built (vec_of p 0) query)

    vertex : number_of (ask_told Vertex s p) ≤ 1
    vertex = told Vertex refl 1 (built.has_vertex_lem (loop_at s) as_built (vec_of p 0) query)

    on_edge_lem : number_of (ask_told OnEdge s p) ≤ 1
    on_edge_lem = told OnEdge refl 1 (built.any_edge_contains_position (loop_at s) as_built (vec_of p 0) query)

    far : (out : List ℕ) → chord_size ≤ length out → (far_outcome s p out).number ≡ 0
    unfolding Far.told_by boundary_told query_fault leave
    far out r = rw (frame, fine, right_size (length p) vec_size e, query, le-ltb (length out) chord_size r)

  convex : number_of (convex_told s) ≤ 1
  convex = rw frame (number 1 _ (built.is_convex (loop_at s) as_built))

  simple : number_of (simple_told s) ≤ 1
  simple = rw frame (number 1 _ (built.is_simple_lem (loop_at s) as_built))

  -- ---- cutting and the checker
  blank_room : 3 * triangle_count (header_at s).state (header_at s).count ≤ length (blank (3 * triples_of (header_at s)))
  unfolding blank
  blank_room = rw (length-replicate, triples_same (header_at s).state (header_at s).count) (omega arith)

  triangles : (out : List ℕ) → 6 * triples_of (header_at s) ≤ length out → Cut (header_at s) (triangles_outcome s out).number
  unfolding triangles_outcome parts_outcome room_fault
  triangles out r =
      let h = header_at s in
      let l = blank (3 * triples_of h) in
      let u = uncut h (positions_at s) (normals_at s) (classes_at s) fine in
      let o = T.triangulate_outcome h (positions_at s) (classes_at s) l in
      rw (frame, u, le-ltb (length out) (6 * triples_of h) r, laid_number o.answer o.triangles out)
      (cut_number h o.answer (built.triangulate (loop_at s) as_built l blank_room))

  accepts : (t : List ℕ) → length t % 6 ≡ 0 → Checked (header_at s).state (number_of (accepts_told s t))
  unfolding sixes_fault
  accepts t x =
      let k : length t / 2 % 3 ≡ 0 = omega (arith, x) in
      rw (eq-eqb (length t % 6) 0 x, frame)
      (check_number (header_at s).state _ (built.accepts (loop_at s) as_built (numbers_at t (length t / 2)) (rw numbers_length k)))

-- ---- two loops
module _ (s r : List ℕ) (w : Written s) (v : Written r) where
  pair_told_lem : (q : Comparison) → pair_told q s r ≡ told_of q (header_at s) (positions_at s) (normals_at s) (classes_at s) (header_at r) (positions_at r) (normals_at r) (classes_at r)
  unfolding next_told
  pair_told_lem q = rw (frame s w, fine s w, frame r v)

  equivalent : number_of (pair_told Equivalence s r) ≤ 1
  equivalent = rw (pair_told_lem Equivalence) (number 1 _ (built.is_equivalent_lem (loop_at s) (loop_at r) (as_built s w) (as_built r v)))

  pair : Related (header_at s) (header_at r) (number_of (pair_told Relation s r))
  pair = rw (pair_told_lem Relation) (pair_number (header_at s) (header_at r) _ (built.relate (loop_at s) (loop_at r) (as_built s w) (as_built r v)))

pub returned : Returned
returned = record {
  build = some;
  round_trip = record { same = same; as_built = as_built; whole = whole; mode = λ mode list out h. mode_again (read_in mode list out h) };
  marks = marks;
  frame_fault_lem = frame;
  loop_fault_lem = fine;
  desk_place = place;
  desk_vertex = vertex;
  desk_on_edge = on_edge_lem;
  desk_far = far;
  desk_convex = convex;
  desk_simple = simple;
  desk_triangles = triangles;
  desk_accepts = accepts;
  desk_equivalent = equivalent;
  desk_pair = pair;
}
