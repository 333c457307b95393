-- SCOPE 20: the lists of triples that cut a ring. Definitions only.
use Rattle.std.specs.Prelude.{ℕ, ◌<◌, ◌≡◌, true, false, List, ◌++◌, Float, length}
use Rattle.ring_theory.specs.Ring.{ear_of}
use Rattle.ring_ears.specs.Ears.{ear, Remaining, cut_at}

-- a flat list of triples cuts what is left of a ring: each but the last is (previous, this, next) at an index of the ring then left that `May` allows,
-- and the last is the three that are left, from their first
pub data CutBy (ps : List Float) (May : Remaining → ℕ → Type 0) : Remaining → List ℕ → Type 0 where
  last : {s : Remaining} → length s.ids ≡ 3 → CutBy ps May s s.ids
  cut : {s : Remaining} {rest : List ℕ} (i : ℕ) → 3 < length s.ids → i < length s.ids → May s i → CutBy ps May (cut_at ps s i) rest
      → CutBy ps May s (ear_of s.ids i ++ rest)

-- index i is an eligible ear, and the lowest of them
abbrev pub Eligible : List Float → Remaining → ℕ → Type 0
Eligible ps s i = ear ps s.ids s.classes i ≡ true

pub record Lowest (ps : List Float) (s : Remaining) (i : ℕ) : Type 0 where
  pub eligible : Eligible ps s i
  pub none_below : (j : ℕ) → j < i → ear ps s.ids s.classes j ≡ false
