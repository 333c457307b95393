-- The last line is its three parts, each written from where the one before it ended.
use Rattle.scene_words.proofs.Writes.{then}
use Rattle.scene_lines.specs.Lines.{end_line}
use Rattle.scene_lines.proofs.put_end.Goals as goal

pub returns-clause-wrote : goal.returns-clause-wrote
unfolding end_line
returns-clause-wrote c = then (then c.put-a.ensures c.put_number-b.ensures.wrote) c.put.ensures
