-- An area line is its seven parts, each written from where the one before it ended.
use Rattle.scene_words.proofs.Writes.{then}
use Rattle.scene_lines.specs.Lines.{area_line}
use Rattle.scene_lines.proofs.put_area.Goals as goal

pub returns-clause-wrote : goal.returns-clause-wrote
unfolding area_line
returns-clause-wrote c = then (then (then (then (then (then c.put-a.ensures c.put_number-b.ensures.wrote) c.put-c.ensures) c.put_number-d.ensures.wrote) c.put_marks-e.ensures.wrote) c.put_number-f.ensures.wrote) c.put.ensures
