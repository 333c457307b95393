-- A number that is none of the first k is at least k: what is left of a `match` past its table. Assumes nothing.
use Prim.Native.Nat.{ℕ, zero, suc, ◌≤◌}
use mathlib.Core.Path.{◌≡◌}
use native.Mathlib.Omega.{arith}

abbrev pub NoneOf : ℕ → ℕ → Type 0
NoneOf n zero = Unit
NoneOf n (suc k) = NoneOf n k × (n ≡ k → ⊥)

pub past : (k n : ℕ) → NoneOf n k → k ≤ n
past zero n h = omega arith
past (suc k) n h = let l = past k n h.0 in let e = h.1 in omega arith
