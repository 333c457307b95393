-- Each iteration lays one number's two bytes after those laid before.
use Rattle.std.proofs.Common.{refl, arith}
use native.Mathlib.Nat.{zero-add}
use Rattle.wire.specs.Wire.{numbers_bytes}
use Rattle.wire.proofs.Lays.{lay, lay_on, lay_end}
use Rattle.wire.proofs.put_numbers.Goals as goal

pub loop-i-init : goal.loop-i-init
loop-i-init c = lay

pub loop-i-preserved : goal.loop-i-preserved
loop-i-preserved c =
    let bytes = simp c.wide_number.ensures at c.put_u16.ensures in
    lay_on c.loop-i.invariant (λ j. refl) (rw zero-add bytes) (omega arith)

pub returns : goal.returns
unfolding numbers_bytes
returns c = lay_end c.loop-i.invariant (omega arith)
