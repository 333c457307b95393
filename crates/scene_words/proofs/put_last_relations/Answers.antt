-- The word of each relation is the one that its number has.
use Rattle.scene_words.proofs.put_last_relations.Goals as goal

pub returns-in-3-clause-wrote : goal.returns-in-3-clause-wrote
returns-in-3-clause-wrote c = rw c.in-3.is c.put.ensures
