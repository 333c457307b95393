-- A refusal comes before a distance, of a loop that is not copied too; and what there is room for is written. Assumes nothing.
use Prim.Native.Nat.{ℕ, zero, suc, ◌*◌, ◌≤◌, ◌<◌}
use mathlib.Core.Path.{◌≡◌, refl, sym, ◌∙◌}
use mathlib.Core.List.{List, [], ◌∷◌}
use native.Mathlib.Omega.{arith}
use lib.ListN.{length}
use lib.Seq.{sets}
use lib.Ieee.{Float}
use borrow.Author.Tests.{lt-ltb, le-ltb}
use Rattle.laws.specs.Loop.{first}
use Rattle.vec3.specs.declared.Vec3.{Vec3}
use Rattle.wire.specs.Wire.{vec_size, vec_of, float_bytes}
use Rattle.chord_length.specs.declared.ChordLength.{ChordLength}
use Rattle.loop_header.specs.declared.Header.{Header}
use Rattle.loop_header.specs.Loops.{loop_fault}
use Rattle.loop_ask.specs.Questions.{query_fault}
use Rattle.loop_distances.specs.Distances.{refused, chord, boundary_told, boundary_answer}
use Rattle.bytes_loop.specs.Outcome.{outcome, refusal_of}
use Rattle.bytes_loop.specs.Layout.{header_size, count_at, header_at, positions_at, normals_at, classes_at, header_fault, frame_fault, many_fault, copy_fault, Arrays}
use Rattle.bytes_loop.proofs.Faults.{right_size, header_size_lem, copyable}
use Rattle.bytes_ask.proofs.Asks.{bytes_large, is_large, large_is}
use Rattle.bytes_distances.specs.Distances.{judged, told_by, far_told, chord_size, leave, leave_float}

-- ---- a loop in its parts: its refusal is what is told of any position
module _ (h : Header) (ps ns : List Float) (cs : List ℕ) where
  far_refused : (v : Vec3) {k : ℕ} → loop_fault h ps ns cs ≡ suc k → boundary_answer h ps ns cs v ≡ refused (suc k)
  unfolding boundary_told query_fault
  far_refused v e = rw e

  judged_far : (v : Vec3) (f : ℕ) → loop_fault h ps ns cs ≡ f → judged (first f 0) (boundary_answer h ps ns cs v) ≡ boundary_answer h ps ns cs v
  judged_far v zero e = refl
  judged_far v (suc k) e = sym (far_refused v e)

  module _ (p : List ℕ) where
    by_refused : {k : ℕ} → suc k ≡ loop_fault h ps ns cs → refused (suc k) ≡ told_by h ps ns cs p
    unfolding told_by
    by_refused e = rw (← e)

    pub at_position : length p ≡ vec_size → told_by h ps ns cs p ≡ boundary_answer h ps ns cs (vec_of p 0)
    unfolding told_by
    at_position z = rw (right_size (length p) vec_size z) (judged_far (vec_of p 0) (loop_fault h ps ns cs) refl)

-- ---- a loop in bytes: what cannot be copied is refused so, and what can be is told by its parts
module _ (s p : List ℕ) where
  many : (k : ℕ) → (k ≡ 0 → ⊥) → loop_fault (header_at s) (positions_at s) (normals_at s) (classes_at s) ≡ k
      → refused k ≡ told_by (header_at s) (positions_at s) (normals_at s) (classes_at s) p
  many zero n d = absurd (n refl)
  many (suc k) n d = by_refused (header_at s) (positions_at s) (normals_at s) (classes_at s) p (sym d)

  framed : (g : ℕ) → frame_fault s ≡ g → (first g (many_fault s) ≡ 0 → ⊥)
      → refused (first g (many_fault s)) ≡ judged g (told_by (header_at s) (positions_at s) (normals_at s) (classes_at s) p)
  framed (suc g) d n = refl
  framed zero d n =
      let large = is_large s n in
      many (many_fault s) n (bytes_large s d large ∙ sym (large_is s large))

  pub early : {k : ℕ} → suc k ≡ copy_fault s → refused (suc k) ≡ far_told s p
  unfolding copy_fault
  early e = rw e (framed (frame_fault s) refl (λ z. let n = e ∙ z in absurd (cc n)))

  pub late : 0 ≡ copy_fault s → far_told s p ≡ told_by (header_at s) (positions_at s) (normals_at s) (classes_at s) p
  late e = rw (copyable s (sym e)).framed

-- as work arrays are filled
module _ (s : List ℕ) (e : 0 ≡ copy_fault s) where
  pub has_header : header_size ≤ length s
  has_header = omega (arith, (copyable s (sym e)).size)

  pub few : count_at s ≤ 512
  few = (copyable s (sym e)).most

  pub arrays : {n a b : ℕ} → n ≡ count_at s → a ≡ 3 * n → b ≡ 3 * n → Arrays s a b
  arrays q a b = record { size = (copyable s (sym e)).size; for_positions = rw (← q) a; for_normals = rw (← q) b }

pub header_there : (s : List ℕ) → 0 ≡ header_fault s → header_size ≤ length s
header_there s e = omega (arith, header_size_lem s (sym e))

-- ---- room, or refusal 5
module _ (c : ChordLength) where
  pub no_room : {r : ℕ} (out : List ℕ) → length out < chord_size → r ≡ refusal_of 5 → outcome r out ≡ leave (chord c) out
  unfolding leave
  no_room out h e = rw (lt-ltb _ _ h, e)

  pub room : {z : List ℕ} (out : List ℕ) → chord_size ≤ length out → z ≡ sets out 0 (float_bytes c.0) → outcome 0 z ≡ leave (chord c) out
  unfolding leave
  room out h e = rw (le-ltb _ _ h, e)

  pub no_float : {r : ℕ} (out : List Float) → length out < 1 → r ≡ refusal_of 5 → outcome r out ≡ leave_float (chord c) out
  unfolding leave_float
  no_float out h e = rw (lt-ltb _ _ h, e)

  pub a_float : {z : List Float} (out : List Float) → 1 ≤ length out → z ≡ sets out 0 (c.0 ∷ []) → outcome 0 z ≡ leave_float (chord c) out
  unfolding leave_float
  a_float out h e = rw (le-ltb _ _ h, e)
