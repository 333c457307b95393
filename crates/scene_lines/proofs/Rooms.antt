-- How long a line is at most. Assumes nothing.
use Prim.Native.Nat.{◌≤◌}
use native.Mathlib.Omega.{arith}
use Rattle.scene_lines.specs.declared.Line.{Line}
use Rattle.scene_lines.specs.declared.Line.TheVariants.{Area, Place, Pair, Far, End, Refused, RefusedAt}
use Rattle.scene_lines.specs.Lines.{room_of}

pub longest : (l : Line) → room_of l ≤ 45
unfolding room_of
longest (Area number h triangles) = omega arith
longest (Place number answer) = omega arith
longest (Pair first second relation) = omega arith
longest (Far number bits) = omega arith
longest (End records) = omega arith
longest (Refused number offset field) = omega arith
longest (RefusedAt number offset field index) = omega arith
