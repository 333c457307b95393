-- One product more stands there.
use Rattle.std.proofs.Common.{refl, arith}
use Rattle.laws.proofs.Blocks.{fill, fill_on, fill_all}
use Rattle.ring_turns.proofs.write_products.Goals as goal

pub loop-i-init : goal.loop-i-init
loop-i-init c = fill (λ j. refl) (omega arith)

pub loop-i-preserved : goal.loop-i-preserved
loop-i-preserved c = fill_on c.loop-i.invariant (simp (c.put.ensures, c.product.ensures)) (omega arith)

pub returns : goal.returns
returns c = fill_all c.loop-i.invariant (omega arith) c.requires.2
