-- One vector more stands there, the one that f computes at i.
use Rattle.std.proofs.Common.{refl, arith}
use Rattle.laws.proofs.Blocks.{fill, fill_on, fill_end}
use Rattle.vec3.proofs.put_each.Goals as goal

pub loop-i-init : goal.loop-i-init
loop-i-init g c = λ p pure. fill (λ j. refl) c.requires.room

pub loop-i-preserved : goal.loop-i-preserved
loop-i-preserved g c = λ p pure.
    fill_on (c.loop-i.invariant p pure) (rw (pure _ _ c.loop-i-test.true c.f.ensures) at c.put.ensures) c.loop-i-test.true

pub returns : goal.returns
returns g c = λ p pure. fill_end (c.loop-i.invariant p pure) (omega arith)
