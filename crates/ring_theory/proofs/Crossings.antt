-- Two chords of a ring that cross, and why two sides of one triple never do. Assumes nothing.
use Prim.Native.Nat.{ℕ}
use mathlib.Core.Path.{◌≡◌, refl, sym, ◌∙◌, subst}
use mathlib.Core.Logic.{◌≢◌}
use Rattle.ring_theory.proofs.Rounds.{Round, rotated, later, not_first, not_last}
use Rattle.ring_theory.proofs.Sides.{Leg, one, two, three}

-- going round from u one meets w, then v, then z
pub record Cross (u v w z : ℕ) : Type 0 where
  pub there : Round u w v
  pub back : Round v z u

pub reversed : {u v w z : ℕ} → Cross u v w z → Cross v u z w
reversed x = record { there = x.back; back = x.there }

pub swapped : {u v w z : ℕ} → Cross u v w z → Cross w z v u
swapped x = record {
  there = rotated (rotated (later x.back (rotated (rotated x.there))));
  back = rotated (rotated (later x.there (rotated (rotated x.back))));
}

differ : {u v w z : ℕ} → Cross u v w z → w ≢ z
differ {u} {v} {w} {z} x e = not_last (later x.back (rotated (rotated (subst (λ y. Round u y v) e x.there)))) refl

pub data Corner (a b c w : ℕ) : Type 0 where
  first : w ≡ a → Corner a b c w
  second : w ≡ b → Corner a b c w
  third : w ≡ c → Corner a b c w

module _ {a b c : ℕ} where
  pub from_corner : {u v : ℕ} → Leg a b c u v → Corner a b c u
  from_corner (one e f) = first e
  from_corner (two e f) = second e
  from_corner (three e f) = third e

  pub to_corner : {u v : ℕ} → Leg a b c u v → Corner a b c v
  to_corner (one e f) = second f
  to_corner (two e f) = third f
  to_corner (three e f) = first f

  -- the corner that a side leaves out
  opposite : {u v : ℕ} → Leg a b c u v → ℕ
  opposite (one e f) = c
  opposite (two e f) = a
  opposite (three e f) = b

  left_out : {u v w : ℕ} (t : Leg a b c u v) → Corner a b c w → w ≢ u → w ≢ v → w ≡ opposite t
  unfolding opposite
  left_out (one e f) (first x) h k = absurd (h (x ∙ sym e))
  left_out (one e f) (second x) h k = absurd (k (x ∙ sym f))
  left_out (one e f) (third x) h k = x
  left_out (two e f) (first x) h k = x
  left_out (two e f) (second x) h k = absurd (h (x ∙ sym e))
  left_out (two e f) (third x) h k = absurd (k (x ∙ sym f))
  left_out (three e f) (first x) h k = absurd (k (x ∙ sym f))
  left_out (three e f) (second x) h k = x
  left_out (three e f) (third x) h k = absurd (h (x ∙ sym e))

  pub same_triple : {u v w z : ℕ} → Leg a b c u v → Corner a b c w → Corner a b c z → Cross u v w z → ⊥
  same_triple t m n x = differ x (left_out t m (not_first x.there) (not_last x.there) ∙ sym (left_out t n (not_last x.back) (not_first x.back)))
