-- What is read of bytes is free of -0.0 already, so that the checked functions change nothing of it. Assumes nothing.
use Prim.Native.Nat.{ℕ, ◌+◌}
use mathlib.Core.Path.{◌≡◌}
use mathlib.Core.List.{List}
use lib.Ieee.{binary64}
use lib.Ieee.Bits.{of_bits-fits}
use Rattle.vec3.specs.Vec.{cleared}
use Rattle.wire.specs.Wire.{u64_of, float_of, vec_of}
use Rattle.arcs.specs.Answers.{cleared_arc}
use Rattle.signs.proofs.Clears.{clear_once}
use Rattle.bytes_arcs.specs.Arcs.{arc_at}

pub position_clear : (s : List ℕ) (at : ℕ) → cleared (vec_of s at) ≡ vec_of s at
position_clear s at = clear_once (float_of s at) (float_of s (at + 8)) (float_of s (at + 16)) (of_bits-fits binary64 (u64_of s at)) (of_bits-fits binary64 (u64_of s (at + 8))) (of_bits-fits binary64 (u64_of s (at + 16)))

pub read_clear : (s : List ℕ) → cleared_arc (arc_at s) ≡ arc_at s
read_clear s = rw (position_clear s 0, position_clear s 24, position_clear s 48)
