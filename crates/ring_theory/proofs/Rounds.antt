-- The order of three numbers on a ring: going round from u, w is met before v. Assumes nothing.
use Prim.Native.Nat.{ℕ, ◌<◌}
use mathlib.Core.Logic.{◌≢◌, ◌⊎◌, inl, inr}
use native.Mathlib.Decide.{dec_lt}
use native.Mathlib.Omega.{arith}

pub data Round (u w v : ℕ) : Type 0 where
  straight : u < w → w < v → Round u w v
  over : v < u → u < w → Round u w v
  after : w < v → v < u → Round u w v

pub rotated : {u w v : ℕ} → Round u w v → Round w v u
rotated (straight h k) = over h k
rotated (over h k) = after h k
rotated (after h k) = straight h k

pub later : {a b c d : ℕ} → Round a b c → Round a c d → Round a b d
later (straight h k) (straight l m) = straight h (omega arith)
later (straight h k) (over l m) = over l h
later (straight h k) (after l m) = absurd (omega arith)
later (over h k) (straight l m) = absurd (omega arith)
later (over h k) (over l m) = absurd (omega arith)
later (over h k) (after l m) = over m k
later (after h k) (straight l m) = absurd (omega arith)
later (after h k) (over l m) = absurd (omega arith)
later (after h k) (after l m) = after (omega arith) m

pub not_first : {u w v : ℕ} → Round u w v → w ≢ u
not_first (straight h k) = omega arith
not_first (over h k) = omega arith
not_first (after h k) = omega arith

pub not_last : {u w v : ℕ} → Round u w v → w ≢ v
not_last (straight h k) = omega arith
not_last (over h k) = omega arith
not_last (after h k) = omega arith

-- of two others, one is met first
pub either : {u v w : ℕ} → u ≢ v → v ≢ w → u ≢ w → Round u v w ⊎ Round u w v
either {u} {v} {w} uv vw uw = go (dec_lt u v) (dec_lt v w) (dec_lt u w)
  where
    go : Dec (u < v) → Dec (v < w) → Dec (u < w) → Round u v w ⊎ Round u w v
    go (yes a) (yes b) c = inl (straight a b)
    go (yes a) (no b) (yes c) = inr (straight c (omega arith))
    go (yes a) (no b) (no c) = inl (over (omega arith) a)
    go (no a) (yes b) (yes c) = inr (over (omega arith) c)
    go (no a) (yes b) (no c) = inl (after b (omega arith))
    go (no a) (no b) c = inr (after (omega arith) (omega arith))

-- where v is not met first, w is
pub other : {u v w : ℕ} → u ≢ v → v ≢ w → u ≢ w → ¬ Round u v w → Round u w v
other {u} {v} {w} uv vw uw h = go (either uv vw uw)
  where
    go : Round u v w ⊎ Round u w v → Round u w v
    go (inl r) = absurd (h r)
    go (inr r) = r
