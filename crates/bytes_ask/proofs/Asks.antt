-- A loop in bytes that is refused ahead of being copied, and one that is copied. Assumes nothing.
use Prim.Native.Nat.{ℕ, zero, suc, ◌*◌, ◌%◌, ◌≤◌, ◌<◌}
use mathlib.Core.Path.{◌≡◌, refl, sym, ◌∙◌}
use mathlib.Core.Bool.{Bool, true, false, ◌&&◌, cond}
use mathlib.Core.List.{List}
use native.Mathlib.Omega.{arith}
use lib.ListN.{length, take, replicate}
use lib.Dec.{ltb}
use lib.Ieee.{Float}
use borrow.Author.Tests.{eq-eqb, ne_eqb, lt-ltb, le-leb, ltb-true}
use Rattle.numbers.specs.F64 as F
use Rattle.laws.specs.Loop.{first}
use Rattle.laws.proofs.Copies.{first_of_lem}
use Rattle.vec3.specs.declared.Vec3.{Vec3}
use Rattle.loop_header.specs.declared.State.{State}
use Rattle.loop_header.specs.declared.State.TheVariants.{Empty, Full, Ring}
use Rattle.loop_header.specs.declared.Header.{Header}
use Rattle.loop_header.specs.Loops.{count_fits, threes_of, shape_fault, ring_fault, cut_fault, check_fault, loop_fault}
use Rattle.loop_ask.specs.Answers.{Told, refused, judged}
use Rattle.loop_ask.specs.Questions.{query_fault, place_answer, vertex_answer, on_edge_answer, convex_answer, simple_answer}
use Rattle.wire.specs.Wire.{vec_size, vec_of}
use Rattle.bytes_loop.specs.Layout.{count_at, state_byte, state_of, header_at, positions_at, normals_at, classes_at, frame_fault, large_fault, many_fault, copy_fault, header_size, header_fault, Arrays}
use Rattle.bytes_loop.proofs.Faults.{wrong_size, right_size, frame_size, header_size_lem, Copyable, copyable}
use Rattle.bytes_loop.proofs.Parts.{positions_length, normals_length, classes_length}
use Rattle.bytes_ask.specs.declared.Question.{Question}
use Rattle.bytes_ask.specs.declared.Question.TheVariants.{Place, Vertex, OnEdge, Convex, Simple}
use Rattle.bytes_ask.specs.Ask.{told_at, needs_position, told_by, ask_told, no_query}

-- ---- a count above 512
shape_large : (h : Header) (ps : List Float) (cs : List ℕ) → length ps ≡ 3 * h.count → length cs ≡ h.count → shape_fault h ps cs ≡ cond (count_fits h.state h.count) 0 1
unfolding shape_fault threes_of
shape_large h ps cs p q = rw (eq-eqb (length ps) (3 * h.count) p, eq-eqb (length cs) h.count q) (both (count_fits h.state h.count))
  where
    both : (b : Bool) → ◌≡◌ {A = ℕ} (cond ((b && true) && true) 0 1) (cond b 0 1)
    both true = refl
    both false = refl

ring_large : (h : Header) (ps : List Float) (cs : List ℕ) → 512 < h.count → ring_fault h ps cs ≡ 2
unfolding ring_fault
ring_large h ps cs g = rw (lt-ltb 512 h.count g)

-- a count above 512 fits a ring alone
large_by : (t : State) (n x : ℕ) → 512 < n → x ≡ 2 → first (cond (count_fits t n) 0 1) x ≡ large_fault t
large_by Empty n x g e = rw (ne_eqb n 0 (λ z. omega arith))
large_by Full n x g e = rw (ne_eqb n 0 (λ z. omega arith))
large_by Ring n x g e = rw (le-leb 3 n (omega arith)) e

module _ (h : Header) (ps : List Float) (cs : List ℕ) (g : 512 < h.count) (p : length ps ≡ 3 * h.count) (q : length cs ≡ h.count) where
  pub loop_large : (ns : List Float) → length ns ≡ 3 * h.count → loop_fault h ps ns cs ≡ large_fault h.state
  unfolding loop_fault threes_of
  loop_large ns n = rw (shape_large h ps cs p q, eq-eqb (length ns) (3 * h.count) n, ring_large h ps cs g) (large_by h.state h.count 2 g refl)

  pub cut_large : cut_fault h ps cs ≡ large_fault h.state
  unfolding cut_fault
  cut_large = rw (shape_large h ps cs p q, ring_large h ps cs g) (large_by h.state h.count 2 g refl)

  pub check_large : (size : ℕ) → size % 3 ≡ 0 → check_fault h ps cs size ≡ large_fault h.state
  unfolding check_fault
  check_large size t = rw (shape_large h ps cs p q, eq-eqb (size % 3) 0 t, ring_large h ps cs g) (large_by h.state h.count 2 g refl)

-- ---- the loop's refusal is every answer's
module _ (h : Header) (ps ns : List Float) (cs : List ℕ) where
  at_refused : (q : Question) (v : Vec3) {k : ℕ} → loop_fault h ps ns cs ≡ suc k → told_at q h ps ns cs v ≡ refused (suc k)
  unfolding place_answer vertex_answer on_edge_answer convex_answer simple_answer query_fault
  at_refused Place v e = rw e
  at_refused Vertex v e = rw e
  at_refused OnEdge v e = rw e
  at_refused Convex v e = rw e
  at_refused Simple v e = rw e

  by_refused : (q : Question) (p : List ℕ) {k : ℕ} → loop_fault h ps ns cs ≡ suc k → told_by q h ps ns cs p ≡ refused (suc k)
  unfolding told_by
  by_refused Place p e = rw e
  by_refused Vertex p e = rw e
  by_refused OnEdge p e = rw e
  by_refused Convex p e = at_refused Convex (vec_of p 0) e
  by_refused Simple p e = at_refused Simple (vec_of p 0) e

  judged_at : (q : Question) (v : Vec3) (f : ℕ) → loop_fault h ps ns cs ≡ f → judged (first f 0) (told_at q h ps ns cs v) ≡ told_at q h ps ns cs v
  judged_at q v zero e = refl
  judged_at q v (suc k) e = sym (at_refused q v e)

  any_position : (q : Question) (v w : Vec3) → needs_position q ≡ false → told_at q h ps ns cs v ≡ told_at q h ps ns cs w
  any_position Place v w e = cc
  any_position Vertex v w e = cc
  any_position OnEdge v w e = cc
  any_position Convex v w e = refl
  any_position Simple v w e = refl

  -- the three ways of `answer`
  module _ (q : Question) (p : List ℕ) where
    pub no_position : (v : Vec3) → needs_position q ≡ false → told_at q h ps ns cs v ≡ told_by q h ps ns cs p
    unfolding told_by
    no_position v e = rw (e, any_position q (vec_of p 0) v e)

    pub wrong_position : needs_position q ≡ true → (length p ≡ vec_size → ⊥) → no_query h ps ns cs ≡ told_by q h ps ns cs p
    unfolding told_by
    wrong_position e z = rw (e, wrong_size (length p) vec_size z) (one (loop_fault h ps ns cs) (told_at q h ps ns cs (vec_of p 0)))
      where
        one : (f : ℕ) (x : Told) → refused (first f 1) ≡ judged (first f 1) x
        one zero x = refl
        one (suc k) x = refl

    pub at_position : needs_position q ≡ true → length p ≡ vec_size → told_at q h ps ns cs (vec_of p 0) ≡ told_by q h ps ns cs p
    unfolding told_by
    at_position e z = rw (e, right_size (length p) vec_size z, judged_at q (vec_of p 0) (loop_fault h ps ns cs) refl)

-- ---- a loop in bytes
module _ (s : List ℕ) where
  positive : (t : State) → (large_fault t ≡ 0 → ⊥)
  positive Empty e = omega arith
  positive Full e = omega arith
  positive Ring e = omega arith

  pub bytes_large : frame_fault s ≡ 0 → 512 < count_at s → loop_fault (header_at s) (positions_at s) (normals_at s) (classes_at s) ≡ large_fault (state_of (state_byte s))
  bytes_large e g = loop_large (header_at s) (positions_at s) (classes_at s) g (positions_length s) (classes_length s (frame_size s e)) (normals_at s) (normals_length s)

  many : (b : Bool) → ltb 512 (count_at s) ≡ b → (cond b (large_fault (state_of (state_byte s))) 0 ≡ 0 → ⊥) → 512 < count_at s
  many true e h = ltb-true 512 (count_at s) e
  many false e h = absurd (h refl)

  pub is_large : (many_fault s ≡ 0 → ⊥) → 512 < count_at s
  unfolding many_fault
  is_large h = many (ltb 512 (count_at s)) refl h

  pub large_is : 512 < count_at s → many_fault s ≡ large_fault (state_of (state_byte s))
  unfolding many_fault
  large_is g = rw (lt-ltb 512 (count_at s) g)

-- what cannot be copied is refused so by any answer that gives the loop's refusal
pub told_early : (s : List ℕ) (t : Told) → ((k : ℕ) → loop_fault (header_at s) (positions_at s) (normals_at s) (classes_at s) ≡ suc k → t ≡ refused (suc k))
    → (copy_fault s ≡ 0 → ⊥) → judged (frame_fault s) t ≡ refused (copy_fault s)
unfolding copy_fault
told_early s t r h = at (frame_fault s) refl h
  where
    at : (f : ℕ) → frame_fault s ≡ f → (first f (many_fault s) ≡ 0 → ⊥) → judged f t ≡ refused (first f (many_fault s))
    at (suc f) e n = refl
    at zero e n =
        let g = is_large s n in
        let m = large_is s g in
        large (many_fault s) refl n (bytes_large s e g ∙ sym m)
      where
        large : (k : ℕ) → many_fault s ≡ k → (k ≡ 0 → ⊥) → loop_fault (header_at s) (positions_at s) (normals_at s) (classes_at s) ≡ k → t ≡ refused k
        large zero a b d = absurd (b refl)
        large (suc k) a b d = r k d

pub early : (q : Question) (s p : List ℕ) → (copy_fault s ≡ 0 → ⊥) → refused (copy_fault s) ≡ ask_told q s p
early q s p h = sym (told_early s (told_by q (header_at s) (positions_at s) (normals_at s) (classes_at s) p) (λ k. by_refused (header_at s) (positions_at s) (normals_at s) (classes_at s) q p) h)

-- what can be copied
module _ (s : List ℕ) {f : ℕ} (e : f ≡ copy_fault s) (z : f ≡ 0) where
  pub copies : Copyable s
  copies = copyable s (sym e ∙ z)

  pub small : {n : ℕ} → n ≡ count_at s → n ≤ 512
  small q = omega (arith, copies.most)

  pub arrays : {n a b : ℕ} → n ≡ count_at s → a ≡ 3 * n → b ≡ 3 * n → Arrays s a b
  arrays q a b = record { size = copies.size; for_positions = rw (← q) a; for_normals = rw (← q) b }

-- the same as calls need it
pub copied_header : (s : List ℕ) → 0 ≡ copy_fault s → header_size ≤ length s
copied_header s e = let z = copies s e refl in omega (arith, z.size)

pub copied_most : (s : List ℕ) → 0 ≡ copy_fault s → count_at s ≤ 512
copied_most s e = (copies s e refl).most

-- and what it copies into: the first 3 n floats of a work array
module _ (s : List ℕ) {n : ℕ} (e : 0 ≡ copy_fault s) (c : n ≡ count_at s) where
  pub room : length (take (3 * n) (replicate 1536 F.zero)) ≡ 3 * n
  room = first_of_lem 1536 F.zero (omega (arith, copied_most s e))

  pub rooms : Arrays s (length (take (3 * n) (replicate 1536 F.zero))) (length (take (3 * n) (replicate 1536 F.zero)))
  rooms = arrays s e refl c room room

pub headed : (s : List ℕ) → 0 ≡ header_fault s → header_size ≤ length s
headed s e = let z = header_size_lem s (sym e) in omega arith

pub late : (s : List ℕ) → 0 ≡ copy_fault s → (q : Question) (p : List ℕ) → told_by q (header_at s) (positions_at s) (normals_at s) (classes_at s) p ≡ ask_told q s p
late s e q p = rw (copies s e refl).framed
