-- What is cut, as a relation. Assumes nothing.
use Prim.Native.Nat.{ℕ, zero, suc, ◌+◌, ◌<◌}
use mathlib.Core.Path.{◌≡◌, refl, sym, ap, ◌∙◌}
use mathlib.Core.Bool.{false, true≢false}
use mathlib.Core.List.{List}
use native.Mathlib.Decide.{dec_lt}
use native.Mathlib.Omega.{arith}
use lib.Ieee.{Float}
use lib.ListN.{length}
use Rattle.ring_theory.specs.Cuts as C
use Rattle.ring_theory.proofs.Withouts.{length_without}
use Rattle.ring_ears.specs.Ears.{ear, Remaining, cut_at}
use Rattle.ring_cut.specs.Cut.{Cutting, lowest_of, cutting}
use Rattle.ring_cut.specs.Accepted.{CutBy, last, cut, Lowest}
use Rattle.laws.proofs.Indexes.{first_has, none_before}
use Rattle.ring_cut.proofs.Steps.{cutting_on, cutting_stuck, cutting_end}

module _ {ps : List Float} {May : Remaining → ℕ → Type 0} where
  -- whatever may be cut, the ring numbers are cut corner by corner
  pub cuts : {s : Remaining} {tris : List ℕ} → CutBy ps May s tris → C.Cuts s.ids tris
  unfolding cut_at
  cuts (last e) = C.last e
  cuts (cut i h k m c) = C.cut i h k (cuts c)

  pub weaken : {May' : Remaining → ℕ → Type 0} → ((s : Remaining) (i : ℕ) → May s i → May' s i) → {s : Remaining} {tris : List ℕ}
      → CutBy ps May s tris → CutBy ps May' s tris
  weaken f (last e) = last e
  weaken f (cut i h k m c) = cut i h k (f _ i m) (weaken f c)

pub length_cut : (ps : List Float) (s : Remaining) (i : ℕ) → i < length s.ids → length (cut_at ps s i).ids + 1 ≡ length s.ids
unfolding cut_at
length_cut ps s i h = omega (arith, length_without i s.ids h)

pub is_lowest : (ps : List Float) (s : Remaining) → lowest_of ps s < length s.ids → Lowest ps s (lowest_of ps s)
is_lowest ps s h = record {
  eligible = first_has (ear ps s.ids s.classes) (length s.ids) 0 (omega arith);
  none_below = λ j k. none_before (ear ps s.ids s.classes) (length s.ids) 0 j (omega arith) k;
}

-- where no ring is stuck, each cut is at the lowest eligible ear
pub at_lowest : (ps : List Float) (k : ℕ) (s : Remaining) → length s.ids ≡ k + 3 → (cutting ps k s).stuck ≡ false → CutBy ps (Lowest ps) s (cutting ps k s).triangles
at_lowest ps zero s e h = rw (cutting_end ps s) (last {s = s} (omega arith))
at_lowest ps (suc k) s e h = go (dec_lt (lowest_of ps s) (length s.ids)) (λ a b. at_lowest ps k (cut_at ps s (lowest_of ps s)) a b)
  where
    go : Dec (lowest_of ps s < length s.ids)
        → (length (cut_at ps s (lowest_of ps s)).ids ≡ k + 3 → (cutting ps k (cut_at ps s (lowest_of ps s))).stuck ≡ false
        → CutBy ps (Lowest ps) (cut_at ps s (lowest_of ps s)) (cutting ps k (cut_at ps s (lowest_of ps s))).triangles)
        → CutBy ps (Lowest ps) s (cutting ps (suc k) s).triangles
    go (yes p) on =
        let t = cutting_on ps k s refl p in
        let h' : (cutting ps k (cut_at ps s (lowest_of ps s))).stuck ≡ false = sym (ap (λ (c : Cutting). c.stuck) t) ∙ h in
        let l = length_cut ps s (lowest_of ps s) p in
        rw t (cut {s = s} (lowest_of ps s) (omega arith) p (is_lowest ps s p) (on (omega arith) h'))
    go (no p) on = absurd (true≢false (sym (ap (λ (c : Cutting). c.stuck) (cutting_stuck ps k s refl (omega arith))) ∙ h))
