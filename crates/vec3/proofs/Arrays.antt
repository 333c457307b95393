-- Vectors written one after the other: their size, and what stands where. Assumes nothing.
use Prim.Native.Nat.{ℕ, ◌+◌, ◌*◌, ◌<◌}
use mathlib.Core.Path.{◌≡◌, refl, ap, ◌∙◌}
use mathlib.Core.List.{List}
use native.Mathlib.Nat.{add-zero, zero-add}
use native.Mathlib.Omega.{arith}
use lib.ListN.{length, get_or}
use lib.Ieee.{Float, nan}
use Rattle.laws.specs.Loop.{flat}
use Rattle.laws.proofs.Blocks.{get_d_flat, length_blocks}
use Rattle.vec3.specs.declared.Vec3.{Vec3}
use Rattle.vec3.specs.Vec.{raw_at, coords}

module _ (f : ℕ → Vec3) (n : ℕ) where
  abbrev written : List Float
  written = flat (λ i. coords (f i)) n 0

  pub size : length written ≡ 3 * n
  size = length_blocks nan 3 (λ i. coords (f i)) (λ j. refl) n 0

  at : (i r : ℕ) → i < n → r < 3 → get_or written (3 * i + r) nan ≡ get_or (coords (f i)) r nan
  at i r h g = get_d_flat nan 3 (λ i. coords (f i)) (λ j. refl) n 0 i r h g ∙ ap (λ (j : ℕ). get_or (coords (f j)) r nan) (zero-add i)

  pub raw_written : (i : ℕ) → i < n → raw_at written i ≡ f i
  raw_written i h =
      let e : get_or written (3 * i) nan ≡ (f i).x = rw add-zero at (at i 0 h (omega arith)) in
      rw (e, at i 1 h (omega arith), at i 2 h (omega arith))
