-- Each turn lays one digit after those laid before.
use Rattle.std.proofs.Common.{arith}
use mathlib.Core.Path.{refl}
use native.Mathlib.Nat.{one-mul}
use Rattle.laws.proofs.Copies.{length_flat}
use Rattle.wire.proofs.Lays.{lay, lay_on, lay_end}
use Rattle.scene_words.specs.Words.{hex_at, hex}
use Rattle.scene_words.proofs.put_bits.Goals as goal

pub loop-i-init : goal.loop-i-init
loop-i-init c = lay

pub loop-i-preserved : goal.loop-i-preserved
loop-i-preserved c = lay_on c.loop-i.invariant (λ j. refl) (rw (one-mul, c.hex_byte.ensures) refl) c.loop-i-test.true

pub returns-clause-wrote : goal.returns-clause-wrote
unfolding hex
returns-clause-wrote c = record {
  text_there = lay_end c.loop-i.invariant (omega arith);
  next_offset = rw (length_flat (hex_at _) (λ j. refl) 16 0) refl;
}
