-- Floats that were written are read back from where they stand. Assumes nothing.
use Prim.Native.Nat.{ℕ, ◌+◌, ◌*◌, ◌≤◌, ◌<◌}
use mathlib.Core.Path.{◌≡◌, refl, sym, ap, ◌∙◌, subst}
use mathlib.Core.List.{List, [], ◌∷◌, ◌++◌, append-nil}
use native.Mathlib.Nat.{zero-add}
use native.Mathlib.Omega.{arith}
use lib.ListN.{length, get_or, get_or-append}
use lib.Seq.{get_or-append-add}
use lib.Dec.{T}
use lib.Ieee.{Float, nan, binary64, of_bits, fits}
use lib.Ieee.Bits.{of_bits-fits}
use Rattle.laws.proofs.Blocks.{get_d_flat}
use Rattle.laws.proofs.Copies.{one, copied}
use Rattle.laws.proofs.Parts.{flat_same}
use Rattle.loop_build.specs.Build.{Doubles}
use Rattle.wire.specs.Wire.{u64_of, float_of, float_bytes, float_block, floats_at, float_bytes_at, floats_bytes}
use Rattle.wire.proofs.Bytes.{eight}
use Rattle.wire.proofs.Back.{float_back}
use Rattle.wire.proofs.Lays.{floats_width, floats_length}

-- bytes m stand in s from an offset on
abbrev pub Stands : List ℕ → ℕ → List ℕ → Type 0
Stands s at m = (k : ℕ) → k < length m → get_or s (at + k) 0 ≡ get_or m k 0

pub stands_last : (a m : List ℕ) {at : ℕ} → length a ≡ at → Stands (a ++ m) at m
stands_last a m e k h = rw (← e) (get_or-append-add a m k 0)

pub stands_before : (s m r : List ℕ) (at : ℕ) → at + length m ≤ length s → Stands s at m → Stands (s ++ r) at m
stands_before s m r at h t k g = get_or-append s r 0 (at + k) (omega arith) ∙ t k g

-- ---- one float
module _ (s t : List ℕ) (i j : ℕ) (e : (k : ℕ) → k < 8 → get_or s (i + k) 0 ≡ get_or t (j + k) 0) where
  byte : (a b k : ℕ) → a ≡ i + k → b ≡ j + k → k < 8 → get_or s a 0 ≡ get_or t b 0
  byte a b k p q h = rw (p, q) (e k h)

  same_number : u64_of s i ≡ u64_of t j
  unfolding u64_of
  same_number =
      rw (
        byte i j 0 (omega arith) (omega arith) (omega arith),
        byte (i + 1) (j + 1) 1 (omega arith) (omega arith) (omega arith),
        byte (i + 2) (j + 2) 2 (omega arith) (omega arith) (omega arith),
        byte (i + 2 + 1) (j + 2 + 1) 3 (omega arith) (omega arith) (omega arith),
        byte (i + 4) (j + 4) 4 (omega arith) (omega arith) (omega arith),
        byte (i + 4 + 1) (j + 4 + 1) 5 (omega arith) (omega arith) (omega arith),
        byte (i + 4 + 2) (j + 4 + 2) 6 (omega arith) (omega arith) (omega arith),
        byte (i + 4 + 2 + 1) (j + 4 + 2 + 1) 7 (omega arith) (omega arith) (omega arith),
      )

float_at : (s : List ℕ) (i : ℕ) (x : Float) → T (fits binary64 x) → ((k : ℕ) → k < 8 → get_or s (i + k) 0 ≡ get_or (float_bytes x) k 0) → float_of s i ≡ x
float_at s i x f e = ap (of_bits binary64) (same_number s (float_bytes x) i 0 (λ k h. rw zero-add (e k h))) ∙ (rw append-nil at (float_back x [] f))

-- ---- a list of them
pub floats_back : (s : List ℕ) (at : ℕ) (l : List Float) → Doubles l → Stands s at (floats_bytes l) → floats_at s at (length l) ≡ l
unfolding floats_at
floats_back s at l d t = flat_same (float_block s at) (one nan l) (length l) 0 (λ j h. rw zero-add (ap (λ (x : Float). x ∷ []) (each j h))) ∙ copied nan l
  where
    here : (j k : ℕ) → j < length l → k < 8 → get_or (floats_bytes l) (8 * j + k) 0 ≡ get_or (float_bytes_at l j) k 0
    here j k h g = unfold floats_bytes in (rw (zero-add j) at (get_d_flat 0 8 (float_bytes_at l) (λ i. eight _) (length l) 0 j k h g))

    place : (j k : ℕ) → at + 8 * j + k ≡ at + (8 * j + k)
    place j k = omega arith

    each : (j : ℕ) → j < length l → float_of s (at + 8 * j) ≡ get_or l j nan
    each j h = float_at s (at + 8 * j) (get_or l j nan) (d j h) (λ k g. rw (place j k, t (8 * j + k) (rw floats_width (omega arith))) (here j k h g))

-- whatever the bytes are, what is read is doubles
pub read_doubles : (s : List ℕ) (at n : ℕ) → Doubles (floats_at s at n)
unfolding floats_at
read_doubles s at n i h =
    let e : 1 * i + 0 ≡ i = omega arith in
    let g : i < n = omega (arith, floats_length s at n) in
    let f = get_d_flat nan 1 (float_block s at) (λ j. refl) n 0 i 0 g (omega arith) in
    subst (λ (x : Float). T (fits binary64 x)) (sym (rw e at f)) (of_bits-fits binary64 _)
