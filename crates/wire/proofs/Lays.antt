-- A loop that lays blocks of w elements one after the other, from an offset on. Assumes nothing.
use Prim.Native.Nat.{ℕ, zero, suc, ◌+◌, ◌-◌, ◌*◌, ◌≤◌, ◌<◌}
use mathlib.Core.Path.{◌≡◌, refl, ap, ◌∙◌}
use mathlib.Core.List.{List, ◌++◌, append_assoc, append-nil}
use native.Mathlib.Nat.{add-zero, zero-add}
use native.Mathlib.Numerals.{add-one}
use native.Mathlib.Omega.{arith}
use lib.ListN.{length, take, drop, length-append}
use lib.Seq.{sets, length-sets}
use borrow.Rule.Slice.PartMut.{put_mid}
use Rattle.std.proofs.lemmas.List.{drop-drop}
use Rattle.std.proofs.lemmas.List.Edits.{sets-eq}
use Rattle.laws.specs.Loop.{flat}
use Rattle.laws.proofs.Copies.{length_flat}
use Rattle.laws.proofs.Rests.{rest, back}
use lib.Ieee.{Float}
use Rattle.vec3.specs.declared.Vec3.{Vec3}
use Rattle.wire.specs.Wire.{vec_size, float_block, floats_at, number_block, numbers_at, vec_bytes, float_bytes_at, floats_bytes}
use Rattle.wire.proofs.Bytes.{sets_sets, eight}

snoc : {A : Type 0} (f : ℕ → List A) (k i : ℕ) → flat f (suc k) i ≡ flat f k i ++ f (i + k)
unfolding flat
snoc f zero i = rw (add-zero, append-nil)
snoc f (suc k) i =
    let e : suc i + k ≡ i + suc k = omega arith in
    ap (λ (l : List _). f i ++ l) (snoc f k (suc i)) ∙ rw (append_assoc, e)

span : {A : Type 0} {w : ℕ} (f : ℕ → List A) → ((j : ℕ) → length (f j) ≡ w) → (k i : ℕ) → length (flat f k i) ≡ w * k
unfolding flat
span f wide zero i = omega arith
span f wide (suc k) i = rw (length-append, wide i, span f wide k (suc i)) (omega arith)

-- the invariant: i of n blocks of f are laid into d₀, and it is d
pub record Lay {A : Type 0} (w at : ℕ) (f : ℕ → List A) (n i : ℕ) (d₀ d : List A) : Type 0 where
  pub within : i ≤ n
  pub size : length d ≡ length d₀
  pub laid : d ≡ sets d₀ at (flat f i 0)

pub lay : {A : Type 0} {w at : ℕ} {f : ℕ → List A} {n : ℕ} {d : List A} → Lay w at f n 0 d d
unfolding flat
lay = record { within = omega arith; size = refl; laid = refl }

module _ {A : Type 0} {w at : ℕ} {f : ℕ → List A} {n i : ℕ} {d₀ d : List A} (t : Lay w at f n i d₀ d) where
  pub lay_on : {e : List A} → ((j : ℕ) → length (f j) ≡ w) → e ≡ sets d (at + w * i) (f i) → i < n → Lay w at f n (i + 1) d₀ e
  lay_on {e} wide q h = record {
    within = omega arith;
    size = rw (q, length-sets) t.size;
    laid = rw (add-one, snoc f i 0, zero-add i, q, t.laid) (sets_sets d₀ (flat f i 0) (f i) at (at + w * i) (ap (λ (k : ℕ). at + k) (span f wide i 0)));
  }

  pub lay_end : n ≤ i → d ≡ sets d₀ at (flat f n 0)
  lay_end h = let e : i ≡ n = omega (arith, t.within) in rw e at t.laid

-- a list that is copied to the front of what is lent from an offset on
pub put_rest : {A : Type 0} (vs l : List A) (at : ℕ) {m : List A} → at + length vs ≤ length l
    → m ≡ vs ++ drop (length vs) (take (length l - at) (drop at l)) → put_mid at (length l - at) l m ≡ sets l at vs
put_rest vs l at h e = rw (e, rest at l, back at l _, drop-drop (length vs) at l, sets-eq vs l at h, append_assoc)

-- two stores in a row
pub two : {A : Type 0} {x y : List A} (l a b : List A) (i k : ℕ) → x ≡ sets l i a → y ≡ sets x k b → i + length a ≡ k → y ≡ sets l i (a ++ b)
two l a b i k p q e = rw (q, p) (sets_sets l a b i k e)

pub width : (v : Vec3) → length (vec_bytes v) ≡ vec_size
width v = simp (length-append, eight)

pub floats_width : (l : List Float) → length (floats_bytes l) ≡ 8 * length l
unfolding floats_bytes
floats_width l = span (float_bytes_at l) (λ j. eight _) (length l) 0

-- floats and numbers that were read
pub floats_length : (s : List ℕ) (at n : ℕ) → length (floats_at s at n) ≡ n
unfolding floats_at
floats_length s at n = length_flat (float_block s at) (λ j. refl) n 0

pub numbers_length : (s : List ℕ) (n : ℕ) → length (numbers_at s n) ≡ n
unfolding numbers_at
numbers_length s n = length_flat (number_block s) (λ j. refl) n 0
