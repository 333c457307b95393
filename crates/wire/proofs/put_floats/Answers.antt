-- Each iteration lays one float's bytes after those laid before.
use Rattle.std.proofs.Common.{arith}
use Rattle.wire.specs.Wire.{floats_bytes}
use Rattle.wire.proofs.Bytes.{eight}
use Rattle.wire.proofs.Lays.{lay, lay_on, lay_end}
use Rattle.wire.proofs.put_floats.Goals as goal

pub loop-i-init : goal.loop-i-init
loop-i-init c = lay

pub loop-i-preserved : goal.loop-i-preserved
loop-i-preserved c = lay_on c.loop-i.invariant (λ j. eight _) c.put_float.ensures (omega arith)

pub returns : goal.returns
unfolding floats_bytes
returns c = lay_end c.loop-i.invariant (omega arith)
