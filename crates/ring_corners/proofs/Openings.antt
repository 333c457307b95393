-- Opening, by whether the last position equals the first. Assumes nothing.
use Prim.Native.Nat.{ℕ, zero, suc, ◌-◌, ◌≤◌}
use mathlib.Core.Path.{◌≡◌, refl}
use mathlib.Core.Bool.{Bool, true, false, cond}
use mathlib.Core.List.{List}
use native.Mathlib.Omega.{arith}
use lib.Ieee.{Float}
use Rattle.ring_corners.specs.Corners.{closed, opened}

pub opened_none : (l : List Float) (m : ℕ) → m ≡ 0 → 0 ≡ opened l m
unfolding opened
opened_none l zero e = refl
opened_none l (suc k) e = absurd (omega arith)

less_one : (k : ℕ) → suc k - 1 ≡ k
less_one k = omega arith

pub opened_some : (l : List Float) (m : ℕ) → (m ≡ 0 → ⊥) → cond (closed l m) (m - 1) m ≡ opened l m
unfolding opened
opened_some l zero h = absurd (h refl)
opened_some l (suc k) h = rw less_one

either : (b : Bool) (k : ℕ) → cond b k (suc k) ≤ suc k
either true k = omega arith
either false k = omega arith

pub opened_le : (l : List Float) (m : ℕ) → opened l m ≤ m
unfolding opened
opened_le l zero = omega arith
opened_le l (suc k) = either (closed l (suc k)) k

-- SCOPE 37: opening [a] leaves 0, [a,b,c,a] leaves 3, [a,b,c,a,a] leaves 4: a closed list loses one position, and an open one none
pub closed_leaves : (l : List Float) (k : ℕ) → closed l (suc k) ≡ true → opened l (suc k) ≡ k
unfolding opened
closed_leaves l k e = rw e

pub open_leaves : (l : List Float) (k : ℕ) → closed l (suc k) ≡ false → opened l (suc k) ≡ suc k
unfolding opened
open_leaves l k e = rw e
