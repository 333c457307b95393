-- A refusal is its six parts, each written from where the one before it ended.
use Rattle.scene_words.proofs.Writes.{then}
use Rattle.scene_lines.proofs.put_refusal.Goals as goal

pub returns-clause-wrote : goal.returns-clause-wrote
returns-clause-wrote c = then (then (then (then (then c.put-a.ensures c.put_number-b.ensures.wrote) c.put-c.ensures) c.put_number-d.ensures.wrote) c.put-e.ensures) c.put_number.ensures.wrote
