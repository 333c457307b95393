-- A far line is its five parts, each written from where the one before it ended.
use Rattle.scene_words.proofs.Writes.{then}
use Rattle.scene_lines.specs.Lines.{far_line}
use Rattle.scene_lines.proofs.put_far.Goals as goal

pub returns-clause-wrote : goal.returns-clause-wrote
unfolding far_line
returns-clause-wrote c = then (then (then (then c.put-a.ensures c.put_number-b.ensures.wrote) c.put-c.ensures) c.put_bits-d.ensures.wrote) c.put.ensures
