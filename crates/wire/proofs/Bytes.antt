-- Stores in a row, and the patterns of a NaN. Assumes nothing.
use mathlib.Core.Path.{◌≡◌, refl, sym, ap, ◌∙◌, subst}
use mathlib.Core.Bool.{Bool, true, not, false≢true}
use mathlib.Core.List.{List, [], ◌∷◌, ◌++◌}
use Prim.Native.Nat.{ℕ, suc, ◌+◌, ◌-◌, ◌%◌, ◌≤◌, ◌<◌}
use native.Mathlib.Omega.{arith}
use lib.ListN.{length, length-append}
use lib.Seq.{sets}
use lib.Dec.{T}
use lib.Ieee.{Float, nan, inf, fin, binary64, of_bits, to_bits, is_nan, nan_bits, ne, div}
use lib.Ieee.Bits.{nan_bits_is, nan_bits_above}
use lib.Ieee.Compare.{differs_from_itself}
use borrow.Author.Tests.{lt-ltb, le-ltb}
use Rattle.wire.specs.Wire.{bytes8}
use Rattle.root.proofs.Floats.{quotient}

-- what is stored right after a list goes on it
pub sets_sets : {A : Type 0} (l a b : List A) (i k : ℕ) → i + length a ≡ k → sets (sets l i a) k b ≡ sets l i (a ++ b)
sets_sets l [] b i k e = let h : k ≡ i = omega arith in rw h
sets_sets l (x ∷ a) b i k e = sets_sets _ a b (suc i) k (omega arith)

-- three stores in a row
module _ {A : Type 0} {x y z : List A} (l a b c : List A) (i v w : ℕ) where
  pub three : x ≡ sets l i a → y ≡ sets x (i + v) b → z ≡ sets y (i + w) c → length a ≡ v → length b ≡ w - v → v ≤ w → z ≡ sets l i (a ++ b ++ c)
  three p q r e f h = rw (r, q, p, sets_sets l a b i (i + v) (omega arith)) (sets_sets l (a ++ b) c i (i + w) (rw length-append (omega arith)))

-- eight bytes a float
pub eight : (n : ℕ) → length (bytes8 n) ≡ 8
unfolding bytes8
eight n = refl

is_nan_lem : (x : Float) → is_nan x ≡ true → x ≡ nan
unfolding is_nan
is_nan_lem nan e = refl
is_nan_lem (inf s) e = absurd (false≢true e)
is_nan_lem (fin s m k) e = absurd (false≢true e)

pub nan_pattern : (b : ℕ) → 9218868437227405312 < b % 9223372036854775808 → div binary64 (of_bits binary64 0) (of_bits binary64 0) ≡ of_bits binary64 b
nan_pattern b h = quotient ∙ sym (is_nan_lem _ (sym (nan_bits_is binary64 b) ∙ nan_bits_above binary64 b ∙ lt-ltb _ _ h))

pub no_nan_pattern : (b : ℕ) → b % 9223372036854775808 ≤ 9218868437227405312 → T (not (nan_bits binary64 b))
no_nan_pattern b h = subst (λ (t : Bool). T (not t)) (sym (nan_bits_above binary64 b ∙ le-ltb _ _ h)) tt

pub nan_bits_lem : (x : Float) → ne x x ≡ true → 9221120237041090560 ≡ to_bits binary64 x
unfolding to_bits
nan_bits_lem x e = sym (ap (to_bits binary64) (differs_from_itself x (subst T (sym e) tt)))
