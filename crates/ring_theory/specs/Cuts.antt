-- SCOPE 20: the lists of triples that cut a ring: each but the last is an index's triple, of the ring then left. Definitions only.
use Rattle.std.specs.Prelude.{ℕ, ◌<◌, ◌≡◌, List, ◌++◌, length}
use Rattle.ring_theory.specs.Ring.{numbers, without, ear_of}

-- a ring left of n corners: the whole ring, or what is left of one when the corner at an index of it is cut off
pub data RingLeft (n : ℕ) : List ℕ → Type 0 where
  uncut : RingLeft n (numbers n)
  cut_off : {ids : List ℕ} (i : ℕ) → i < length ids → RingLeft n ids → RingLeft n (without i ids)

-- the flat list of triples cuts the ring `ids`, at whatever indexes; which of them may be cut, an eligible ear say, is asked elsewhere
pub data Cuts : List ℕ → List ℕ → Type 0 where
  -- three corners left are the last triple, from the first
  last : {ids : List ℕ} → length ids ≡ 3 → Cuts ids ids
  -- (previous, this, next) at index i, and then a list that cuts what is left
  cut : {ids rest : List ℕ} (i : ℕ) → 3 < length ids → i < length ids → Cuts (without i ids) rest → Cuts ids (ear_of ids i ++ rest)
