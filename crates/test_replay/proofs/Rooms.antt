-- The front of a blank array is as long as it is asked for. Assumes nothing.
use Prim.Native.Nat.{ℕ, ◌*◌, ◌≤◌}
use mathlib.Core.Path.{sym, subst}
use lib.ListN.{length, take, replicate}
use lib.Ieee.{Float, binary64, of_bits}
use Rattle.laws.proofs.Copies.{first_of_lem}

pub fits : {n s : ℕ} → n ≤ s → s ≤ 4096 → n ≤ length (take {A = ℕ} s (replicate 4096 0))
fits {n} h g = subst (λ (k : ℕ). n ≤ k) (sym (first_of_lem 4096 0 g)) h

pub floats_fit : {n s : ℕ} → n ≤ 128 → 8 * n ≤ s → 8 * length (take {A = Float} n (replicate 128 (of_bits binary64 0))) ≤ s
floats_fit {s = s} h g = subst (λ (k : ℕ). 8 * k ≤ s) (sym (first_of_lem 128 (of_bits binary64 0) h)) g
