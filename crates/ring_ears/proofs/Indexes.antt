-- Ring numbers lent with their positions, and the indexes of a cut's neighbours. Assumes nothing.
use Prim.Native.Nat.{ℕ, ◌+◌, ◌-◌, ◌%◌, ◌≤◌, ◌<◌}
use mathlib.Core.Path.{◌≡◌, ap, ◌∙◌}
use mathlib.Core.List.{List}
use native.Mathlib.Nat.{mod-add-mod}
use native.Mathlib.Omega.{arith}
use lib.ListN.{length}
use lib.Ieee.{Float}
use Rattle.ring_theory.specs.Ring.{without}
use Rattle.ring_theory.proofs.Withouts.{length_without, below_without}
use Rattle.ring_ears.specs.Ears.{Lent, Indexed, at_cut, before_cut}

module _ {ps : List Float} {ids classes : List ℕ} (l : Lent ps ids classes) where
  pub indexed : Indexed ps ids
  indexed j h = omega (arith, l.below j h, l.whole)

  -- with other classes
  pub relent : {others : List ℕ} → length others ≡ length classes → Lent ps ids others
  relent e = record { below = rw e l.below; whole = rw e l.whole; most = rw e l.most; few = l.few }

  -- without one number
  pub lent_without : {i : ℕ} → i < length ids → Lent ps (without i ids) classes × (i ≤ length (without i ids))
  lent_without {i} h =
      let e = length_without i ids h in
      (record { below = below_without i ids h l.below; whole = l.whole; most = l.most; few = omega (arith, l.few) }, omega arith)

-- the index before the one at a cut is the one before the cut
pub before_at_cut : (i : ℕ) {k m : ℕ} → k < m → (at_cut m i + m - 1) % m ≡ before_cut m i
before_at_cut i {k} {m} h =
    let p : at_cut m i + m - 1 ≡ at_cut m i + (m - 1) = omega arith in
    let q : i + (m - 1) ≡ i + m - 1 = omega arith in
    ap (λ (k : ℕ). k % m) p ∙ mod-add-mod i m (m - 1) ∙ ap (λ (k : ℕ). k % m) q
