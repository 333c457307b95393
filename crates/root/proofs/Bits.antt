-- The root over bits is the pattern of the nearest value, or of the value that stays, or the NaN's. Assumes nothing.
use mathlib.Core.Path.{◌≡◌, refl, sym, ap, ◌∙◌, subst}
use mathlib.Core.Bool.{true, false, not}
use Prim.Native.Nat.{ℕ, zero, suc, ◌^◌, ◌<◌}
use lib.Dec.{T}
use lib.Ieee.{Float, nan, inf, fin, binary64, fits, is_nan, of_bits, to_bits}
use lib.Ieee.Bits.{of_bits-to_bits, to_bits-lt, of_bits-fits, to_bits-of_bits}
use Rattle.root.specs.Root.{in_units, root_of, NearestRoot, IsRootBits, RootedBits}
use Rattle.root.proofs.Nearest.{root_is}

-- a pattern that is no NaN's is that of its value
stays : (b : ℕ) → b < 2 ^ 64 → (v : Float) → of_bits binary64 b ≡ v → T (not (is_nan v)) → to_bits binary64 v ≡ b
stays b l v e n = ap (to_bits binary64) (sym e) ∙ to_bits-of_bits binary64 b l (subst (λ (x : Float). T (not (is_nan x))) (sym e) n)

-- the pattern of a nearest root stands for it
nearest_bits : (n : ℕ) (x : Float) → NearestRoot n x → (to_bits binary64 x < 2 ^ 64) × NearestRoot n (of_bits binary64 (to_bits binary64 x))
nearest_bits n x h = (to_bits-lt binary64 x h.held, subst (NearestRoot n) (sym (of_bits-to_bits binary64 x h.held)) h)

by_value : (b : ℕ) → b < 2 ^ 64 → (v : Float) → of_bits binary64 b ≡ v → T (fits binary64 v) → IsRootBits v b (to_bits binary64 (root_of v))
by_value b l nan e t = unfold root_of to_bits in refl
by_value b l (inf true) e t = unfold root_of to_bits in refl
by_value b l (inf false) e t = unfold root_of is_nan in stays b l (inf false) e tt
by_value b l (fin true zero k) e t = unfold root_of is_nan in stays b l (fin true zero k) e tt
by_value b l (fin false zero k) e t = unfold root_of is_nan in stays b l (fin false zero k) e tt
by_value b l (fin true (suc m) k) e t = unfold root_of to_bits in refl
by_value b l (fin false (suc m) k) e t = nearest_bits (in_units (fin false (suc m) k)) (root_of (fin false (suc m) k)) (root_is (fin false (suc m) k) t)

pub rooted_bits : (b r : ℕ) → b < 2 ^ 64 → r ≡ to_bits binary64 (root_of (of_bits binary64 b)) → RootedBits b r
rooted_bits b r l e = record { same = e; nearest = subst (λ (z : ℕ). IsRootBits (of_bits binary64 b) b z) (sym e) (by_value b l (of_bits binary64 b) refl (of_bits-fits binary64 b)) }
