-- A place line is its three parts, each written from where the one before it ended.
use Rattle.scene_words.proofs.Writes.{then}
use Rattle.scene_lines.specs.Lines.{place_line}
use Rattle.scene_lines.proofs.put_place.Goals as goal

pub returns-clause-wrote : goal.returns-clause-wrote
unfolding place_line
returns-clause-wrote c = then (then c.put-a.ensures c.put_number-b.ensures.wrote) c.put_answer.ensures.wrote
