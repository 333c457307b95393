-- A refusal and the line's end, each written from where the one before it ended.
use Rattle.scene_words.proofs.Writes.{then}
use Rattle.scene_lines.specs.Lines.{refused_line}
use Rattle.scene_lines.proofs.put_refused.Goals as goal

pub returns-clause-wrote : goal.returns-clause-wrote
unfolding refused_line
returns-clause-wrote c = then c.put_refusal-a.ensures.wrote c.put.ensures
