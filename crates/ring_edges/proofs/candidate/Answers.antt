-- The array holds the candidate at its place.
use Rattle.std.proofs.Common.{◌∙◌, arith}
use Rattle.ring_edges.proofs.Arrays.{held_size, held}
use Rattle.ring_edges.proofs.candidate.Goals as goal

pub raw-requires : goal.raw-requires
raw-requires c = let p = c.requires in omega (arith, held_size _ _ _ p.3 p.0 p.1, p.0, p.1)

pub returns : goal.returns
returns c = let p = c.requires in c.raw.ensures ∙ held _ _ _ p.3 p.0 p.1
