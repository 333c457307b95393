-- Cutting is stuck exactly if a ring above three that it reaches has no eligible ear. Assumes nothing.
use Prim.Native.Nat.{ℕ, zero, suc, ◌+◌, ◌≤◌, ◌<◌}
use mathlib.Core.Path.{◌≡◌, refl, sym, ap, ◌∙◌}
use mathlib.Core.Bool.{true, false, true≢false}
use mathlib.Core.List.{List}
use native.Mathlib.Decide.{dec_lt}
use native.Mathlib.Omega.{arith}
use lib.Ieee.{Float}
use lib.ListN.{length}
use Rattle.ring_ears.specs.Ears.{ear, Remaining, cut_at}
use Rattle.ring_cut.specs.Cut.{Cutting, lowest_of, cutting}
use Rattle.ring_cut.specs.Accepted.{Lowest}
use Rattle.laws.proofs.Indexes.{first_has, none_before, is_first}
use Rattle.ring_cut.proofs.Steps.{cutting_on, cutting_stuck, cutting_end}
use Rattle.ring_cut.proofs.Relations.{length_cut, is_lowest}
use Rattle.ring_check.specs.Demand.{Reaches, here, cut, MeetsNoEar}

module _ (ps : List Float) where
  -- after a cut
  further : (s : Remaining) (i : ℕ) → 3 < length s.ids → i < length s.ids → Lowest ps s i → MeetsNoEar ps (cut_at ps s i) → MeetsNoEar ps s
  further s i h k l m = record { ring = m.ring; reached = cut i h k l m.reached; above = m.above; none = m.none }

  pub meets : (k : ℕ) (s : Remaining) → length s.ids ≡ k + 3 → (cutting ps k s).stuck ≡ true → MeetsNoEar ps s
  meets zero s n e = absurd (true≢false (sym e ∙ ap (λ (c : Cutting). c.stuck) (cutting_end ps s)))
  meets (suc k) s n e = go (dec_lt (lowest_of ps s) (length s.ids)) (λ p q. meets k (cut_at ps s (lowest_of ps s)) p q)
    where
      go : Dec (lowest_of ps s < length s.ids)
          → (length (cut_at ps s (lowest_of ps s)).ids ≡ k + 3 → (cutting ps k (cut_at ps s (lowest_of ps s))).stuck ≡ true → MeetsNoEar ps (cut_at ps s (lowest_of ps s))) → MeetsNoEar ps s
      go (yes p) on =
          let l = length_cut ps s (lowest_of ps s) p in
          further s (lowest_of ps s) (omega arith) p (is_lowest ps s p) (on (omega arith) (sym (ap (λ (c : Cutting). c.stuck) (cutting_on ps k s refl p)) ∙ e))
      go (no p) on = record {
        ring = s;
        reached = here;
        above = omega arith;
        none = λ i h. none_before (ear ps s.ids s.classes) (length s.ids) 0 i (omega arith) (omega arith);
      }

  -- the index that `Lowest` names is the one that cutting takes
  taken : (s : Remaining) (i : ℕ) → i < length s.ids → Lowest ps s i → i ≡ lowest_of ps s
  taken s i h l = sym (is_first (ear ps s.ids s.classes) (length s.ids) 0 i (omega arith) (omega arith) l.eligible (λ j a b. l.none_below j b))

  no_index : (s : Remaining) → ((i : ℕ) → i < length s.ids → ear ps s.ids s.classes i ≡ false) → length s.ids ≤ lowest_of ps s
  no_index s f = go (dec_lt (lowest_of ps s) (length s.ids))
    where
      go : Dec (lowest_of ps s < length s.ids) → length s.ids ≤ lowest_of ps s
      go (yes p) = absurd (true≢false (sym (first_has (ear ps s.ids s.classes) (length s.ids) 0 (omega arith)) ∙ f (lowest_of ps s) p))
      go (no p) = omega arith

  pub sticks : {s u : Remaining} → Reaches ps s u → 3 < length u.ids → ((i : ℕ) → i < length u.ids → ear ps u.ids u.classes i ≡ false)
      → (k : ℕ) → length s.ids ≡ k + 3 → (cutting ps k s).stuck ≡ true
  sticks here h f zero n = absurd (omega arith)
  sticks {s} here h f (suc k) n = ap (λ (c : Cutting). c.stuck) (cutting_stuck ps k s refl (no_index s f))
  sticks (cut i a b l r) h f zero n = absurd (omega arith)
  sticks {s} (cut i a b l r) h f (suc k) n =
      let m = length_cut ps s i b in
      ap (λ (c : Cutting). c.stuck) (cutting_on ps k s (taken s i b l) b) ∙ sticks r h f k (omega arith)
