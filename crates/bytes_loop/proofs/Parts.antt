-- The parts of a loop in bytes: read, as long as the header says, and laid one after the other. Assumes nothing.
use Prim.Native.Nat.{ℕ, ◌-◌, ◌*◌, ◌/◌, ◌≤◌}
use mathlib.Core.Path.{◌≡◌, refl}
use mathlib.Core.Bool.{Bool, true, false}
use mathlib.Core.List.{List, ◌++◌}
use native.Mathlib.Omega.{arith}
use lib.ListN.{length, take, drop, length-append, length-drop}
use lib.Seq.{sets}
use lib.Dec.{ltb}
use lib.Ieee.{Float}
use borrow.Author.Tests.{ltb-true, ltb-false}
use Rattle.std.specs.Prelude.{if◌then◌else◌}
use Rattle.laws.proofs.Rests.{rest}
use Rattle.loop_header.specs.declared.Header.{Header}
use Rattle.wire.specs.Wire.{floats_at, floats_bytes}
use Rattle.wire.proofs.Bytes.{eight}
use Rattle.wire.proofs.Lays.{two, floats_width, floats_length}
use Rattle.bytes_loop.specs.Layout.{header_size, normals_from, classes_from, loop_size, count_at, positions_at, normals_at, classes_at, header_bytes, loop_bytes, corners_for, Parts}

module _ (s : List ℕ) where
  -- ---- as they are read
  pub positions_read : {a : ℕ} {ps : List Float} → ps ≡ floats_at s header_size a → a ≡ 3 * count_at s → ps ≡ positions_at s
  positions_read e h = rw h at e

  pub normals_read : {n a : ℕ} {ns : List Float} → ns ≡ floats_at s (normals_from n) a → n ≡ count_at s → a ≡ 3 * count_at s → ns ≡ normals_at s
  normals_read e q h = rw (q, h) at e

  pub classes_read : {from : ℕ} → from ≡ classes_from (count_at s) → take (length s - from) (drop from s) ≡ classes_at s
  classes_read e = rw e (rest (classes_from (count_at s)) s)

  -- ---- their sizes
  pub positions_length : length (positions_at s) ≡ 3 * count_at s
  positions_length = floats_length s header_size (3 * count_at s)

  pub normals_length : length (normals_at s) ≡ 3 * count_at s
  normals_length = floats_length s (normals_from (count_at s)) (3 * count_at s)

  pub classes_length : length s ≡ loop_size (count_at s) → length (classes_at s) ≡ count_at s
  classes_length h = rw length-drop (omega arith)

-- ---- four stores in a row
pub header_width : (h : Header) → length (header_bytes h) ≡ header_size
unfolding header_bytes
header_width h = simp (length-append, eight)

module _ (h : Header) (ps ns : List Float) (cs out : List ℕ) (f : Parts h (length out) (length ps) (length ns) (length cs)) where
  pub laid : {x y z t : List ℕ} → x ≡ sets out 0 (header_bytes h) → y ≡ sets x header_size (floats_bytes ps)
      → z ≡ sets y (normals_from h.count) (floats_bytes ns) → t ≡ sets z (classes_from h.count) cs
      → t ≡ sets out 0 (loop_bytes h ps ns cs)
  laid a b c d =
      let H = header_bytes h in
      let P = floats_bytes ps in
      let N = floats_bytes ns in
      let k = header_width h in
      let m = floats_width ps in
      let n = floats_width ns in
      let y₂ = two out H P 0 header_size a b (omega arith) in
      let z₂ = two out (H ++ P) N 0 (normals_from h.count) y₂ c (rw (length-append H P) (omega (arith, f.for_positions))) in
      two out (H ++ P ++ N) cs 0 (classes_from h.count) z₂ d (rw (length-append (H ++ P) N, length-append H P) (omega (arith, f.for_positions, f.for_normals)))

-- ---- the corners that there is room for
pub record Behind (size r : ℕ) : Type 0 where
  pub within : header_size ≤ size → loop_size r ≤ size
  pub most : r ≤ 512
  pub enough : (n : ℕ) → n ≤ 512 → loop_size n ≤ size → n ≤ r

pub behind : (size : ℕ) → Behind size (corners_for size)
unfolding corners_for
behind size = at (ltb size header_size) refl (ltb 512 ((size - header_size) / 49)) refl
  where
    at : (b : Bool) → ltb size header_size ≡ b → (d : Bool) → ltb 512 ((size - header_size) / 49) ≡ d → Behind size (if b then 0 else (if d then 512 else (size - header_size) / 49))
    at true p d q = let h = ltb-true size header_size p in record { within = λ g. omega arith; most = omega arith; enough = λ n a e. omega arith }
    at false p true q = let h = ltb-true 512 ((size - header_size) / 49) q in record { within = λ g. omega arith; most = omega arith; enough = λ n a e. omega arith }
    at false p false q = let h = ltb-false 512 ((size - header_size) / 49) q in record { within = λ g. omega arith; most = omega arith; enough = λ n a e. omega arith }
