-- Some index has p exactly if the first that has comes before the end. Assumes nothing.
use Prim.Native.Nat.{ℕ, zero, suc, ◌+◌, ◌<◌}
use mathlib.Core.Bool.{Bool, true, false, ◌||◌, cond, not}
use mathlib.Core.Path.{◌≡◌, sym}
use mathlib.Core.List.{List}
use native.Mathlib.Nat.{zero-add}
use native.Mathlib.Omega.{arith}
use borrow.Author.Tests.{lt-ltb, le-ltb}
use lib.Dec.{ltb}
use lib.Ieee.{Float}
use Rattle.laws.specs.Loop.{any_of, first_at}
use Rattle.ring_pair.specs.Probes.{free_corner, first_corner, asked_midpoint}

either : (b r : Bool) (i x e : ℕ) → i < e → r ≡ ltb x e → b || r ≡ ltb (cond b i x) e
either true r i x e h q = sym (lt-ltb i e h)
either false r i x e h q = q

any_first : (p : ℕ → Bool) (k i : ℕ) → any_of p k i ≡ ltb (first_at p k i) (i + k)
unfolding any_of first_at
any_first p zero i = sym (le-ltb i (i + 0) (omega arith))
any_first p (suc k) i =
    let e : i + suc k ≡ suc i + k = omega arith in
    either (p i) (any_of p k (suc i)) i (first_at p k (suc i)) (i + suc k) (omega arith) (rw e (any_first p k (suc i)))

pub asked_is : (ps : List Float) (n : ℕ) (rs rn : List Float) (m : ℕ) → asked_midpoint ps n rs rn m ≡ not (ltb (first_corner ps n rs rn m) n)
unfolding asked_midpoint first_corner
asked_is ps n rs rn m = rw (any_first (free_corner ps rs rn m) n 0, zero-add)
