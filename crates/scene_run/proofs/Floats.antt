-- The floats of a record's list, as they are read from bytes: each is a double, and a position is the vector at its offset. Assumes nothing.
use Prim.Native.Nat.{ℕ, ◌+◌, ◌*◌, ◌<◌}
use mathlib.Core.Path.{◌≡◌, refl, sym, ap, ◌∙◌}
use mathlib.Core.List.{List}
use native.Mathlib.Omega.{arith}
use lib.ListN.{get_or}
use lib.Ieee.{nan, binary64}
use lib.Ieee.Bits.{of_bits-fits}
use Rattle.laws.specs.Loop.{flat}
use Rattle.laws.proofs.Blocks.{get_d_flat}
use Rattle.vec3.specs.Vec.{pos_at}
use Rattle.wire.specs.Wire.{u64_of, float_of, vec_of, float_block}
use Rattle.wire.specs.Wire as W
use Rattle.loop_build.specs.Build.{Doubles}
use Rattle.scene_records.specs.Records.{floats_at}
use Rattle.scene_store.proofs.Counts.{floats_count}

float_read : (s : List ℕ) (at n i : ℕ) → i < 3 * n → get_or (floats_at s at n) i nan ≡ float_of s (at + 8 * i)
unfolding W.floats_at
float_read s at n i h =
    let e : 1 * i + 0 ≡ i = omega arith in
    let o : at + 8 * (0 + i) ≡ at + 8 * i = omega arith in
    let g = get_d_flat nan 1 (float_block s at) (λ j. refl) (3 * n) 0 i 0 h (omega arith) in
    ap (λ (j : ℕ). get_or (flat (float_block s at) (3 * n) 0) j nan) (sym e) ∙ g ∙ ap (float_of s) o

pub read_doubles : (s : List ℕ) (at n : ℕ) → Doubles (floats_at s at n)
read_doubles s at n i h = rw (float_read s at n i (omega (arith, floats_count s at n))) (of_bits-fits binary64 (u64_of s (at + 8 * i)))

pub position_read : (s : List ℕ) (at n i : ℕ) → i < n → pos_at (floats_at s at n) i ≡ vec_of s (at + 24 * i)
position_read s at n i h =
    let x : at + 8 * (3 * i) ≡ at + 24 * i = omega arith in
    let y : at + 8 * (3 * i + 1) ≡ at + 24 * i + 8 = omega arith in
    let z : at + 8 * (3 * i + 2) ≡ at + 24 * i + 16 = omega arith in
    rw (float_read s at n (3 * i) (omega arith), float_read s at n (3 * i + 1) (omega arith), float_read s at n (3 * i + 2) (omega arith), x, y, z)
