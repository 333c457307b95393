-- A refusal and the index of a position, each written from where the one before it ended.
use Rattle.scene_words.proofs.Writes.{then}
use Rattle.scene_lines.specs.Lines.{refused_at_line}
use Rattle.scene_lines.proofs.put_refused_at.Goals as goal

pub returns-clause-wrote : goal.returns-clause-wrote
unfolding refused_at_line
returns-clause-wrote c = then (then (then c.put_refusal-a.ensures.wrote c.put-b.ensures) c.put_number-c.ensures.wrote) c.put.ensures
