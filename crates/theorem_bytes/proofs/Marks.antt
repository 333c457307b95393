-- The byte of marks: those above 15 are passed over, and the mode is by mark 8 alone. Assumes nothing.
use Prim.Native.Nat.{ℕ, ◌+◌, ◌*◌, ◌/◌, ◌%◌, ◌≤◌, ◌<◌}
use mathlib.Core.Path.{◌≡◌}
use mathlib.Core.List.{List, ◌∷◌}
use native.Mathlib.Omega.{arith}
use Rattle.minor_arc.specs.declared.Mode.TheVariants.{Plain, Long}
use Rattle.wire.specs.Wire.{u64_of}
use Rattle.bytes_loop.specs.Layout.{marks_at, insides_at, header_at}
use Rattle.theorem_bytes.specs.Returned.{Marks}

-- ---- sixteen marks more are the same four
module _ (m k : ℕ) where
  one : (m + 16 * k) / 1 % 2 ≡ m / 1 % 2
  one = omega arith

  two : (m + 16 * k) / 2 % 2 ≡ m / 2 % 2
  two = omega arith

  four : (m + 16 * k) / 4 % 2 ≡ m / 4 % 2
  four = omega arith

  eight : (m + 16 * k) / 8 % 2 ≡ m / 8 % 2
  eight = omega arith

marks_above : (a b state m k : ℕ) (s : List ℕ) → header_at (a ∷ b ∷ state ∷ (m + 16 * k) ∷ s) ≡ header_at (a ∷ b ∷ state ∷ m ∷ s)
unfolding insides_at u64_of
marks_above a b state m k s = rw (one m k, two m k, four m k, eight m k)

-- ---- mark 8
module _ (s : List ℕ) where
  unmarked : marks_at s % 16 < 8 → (header_at s).mode ≡ Plain
  unmarked h = let none : marks_at s / 8 % 2 ≡ 0 = omega arith in rw none

  marked : 8 ≤ marks_at s % 16 → (header_at s).mode ≡ Long
  marked h = let there : marks_at s / 8 % 2 ≡ 1 = omega arith in rw there

pub marks : Marks
marks = record { marks_above = marks_above; unmarked = unmarked; marked = marked }
