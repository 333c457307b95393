-- The numbers of a whole ring, and of every ring left of it: they increase, so no two are the same. Assumes nothing.
use Prim.Native.Nat.{ℕ, zero, suc, ◌+◌, ◌<◌}
use mathlib.Core.Path.{◌≡◌, refl, ◌∙◌}
use mathlib.Core.List.{List}
use native.Mathlib.Omega.{arith}
use lib.ListN.{length, get_or}
use Rattle.laws.specs.Loop.{flat}
use Rattle.laws.proofs.Copies.{length_flat}
use Rattle.ring_theory.specs.Ring.{one_number, numbers, Below}
use Rattle.ring_theory.specs.Cuts.{RingLeft, uncut, cut_off}
use Rattle.ring_theory.proofs.Indexes.{nth, Increasing, increasing_without}

flat_at : (k i j : ℕ) → j < k → get_or (flat one_number k i) j 0 ≡ i + j
unfolding flat
flat_at zero i j h = absurd (omega arith)
flat_at (suc k) i zero h = omega arith
flat_at (suc k) i (suc j) h = flat_at k (suc i) j (omega arith) ∙ omega arith

module _ (n : ℕ) where
  pub size : length (numbers n) ≡ n
  size = length_flat one_number (λ j. refl) n 0

  pub number : (j : ℕ) → j < n → nth (numbers n) j ≡ j
  number j h = flat_at n 0 j h ∙ omega arith

  pub below : Below n (numbers n)
  below j h =
      let k : j < n = omega (arith, size) in
      rw (number j k) k

  pub increasing : Increasing (numbers n)
  increasing j k h l =
      let m : k < n = omega (arith, size) in
      rw (number j (omega arith), number k m) h

pub increasing_left : {n : ℕ} {ids : List ℕ} → RingLeft n ids → Increasing ids
increasing_left {n} uncut = increasing n
increasing_left (cut_off {ids = ids} i h r) = increasing_without ids (increasing_left r) i h
