-- One step of cutting, and its end. Assumes nothing.
use Prim.Native.Nat.{ℕ, suc, ◌<◌, ◌≤◌}
use mathlib.Core.Path.{◌≡◌, refl}
use mathlib.Core.Bool.{true, false}
use mathlib.Core.List.{List, [], ◌∷◌}
use native.Mathlib.Omega.{arith}
use lib.Ieee.{Float}
use lib.ListN.{length}
use borrow.Author.Tests.{lt-ltb, le-ltb}
use Rattle.ring_theory.specs.Ring.{ear_of}
use Rattle.ring_ears.specs.Ears.{Remaining, cut_at}
use Rattle.ring_cut.specs.Cut.{ahead, lowest_of, cutting}

module _ (ps : List Float) (k : ℕ) (s : Remaining) {i : ℕ} (e : i ≡ lowest_of ps s) where
  pub cutting_on : i < length s.ids → cutting ps (suc k) s ≡ ahead (ear_of s.ids i) (cutting ps k (cut_at ps s i))
  unfolding cutting
  cutting_on h = rw (← e, lt-ltb i (length s.ids) h)

  pub cutting_stuck : length s.ids ≤ i → cutting ps (suc k) s ≡ record { triangles = []; stuck = true }
  unfolding cutting
  cutting_stuck h = rw (← e, le-ltb i (length s.ids) h)

pub cutting_end : (ps : List Float) (s : Remaining) → cutting ps 0 s ≡ record { triangles = s.ids; stuck = false }
unfolding cutting
cutting_end ps s = refl

-- a ring of three is its triple, from its first
pub whole_three : (l : List ℕ) → length l ≡ 3 → ear_of l 1 ≡ l
whole_three [] e = absurd (omega arith)
whole_three (a ∷ []) e = absurd (omega arith)
whole_three (a ∷ b ∷ []) e = absurd (omega arith)
whole_three (a ∷ b ∷ c ∷ []) e = refl
whole_three (a ∷ b ∷ c ∷ d ∷ l) e = absurd (omega arith)
