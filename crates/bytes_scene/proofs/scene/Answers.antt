-- The scene is run once, into the work buffer; what fits of its text is written, and its size or refusal 5 is answered.
use mathlib.Core.Path.{sym}
use Rattle.std.proofs.Common.{arith}
use lib.Seq.{length-take-le}
use Rattle.bytes_scene.proofs.Texts.{all_or_nothing}
use Rattle.bytes_scene.proofs.scene.Goals as goal

pub returns : goal.returns
returns c =
    all_or_nothing _ _ _ c.run-size.ensures.wrote (omega (arith, c.run-size.ensures.upper_bound, c.room-text.ensures))
    c.size_answer-answer.ensures c.fitting-n.ensures.value c.put_bytes.ensures
