-- The rules of the two tables, each proved once by a test that antt computes over the whole table. Assumes nothing.
use mathlib.Core.Path.{◌≡◌, refl}
use lib.ListN.{length}
use lib.Ieee.{add, mul, le, of_bits}
use Rattle.laws.specs.Loop.{flat, first_of}
use Rattle.vec3.specs.Vec.{coords}
use Rattle.judge.specs.Judge.{vector_fault, fault_of, positions_fault}
use Rattle.icosahedron.specs.Table.{positions, position_at, triples, rule}

-- the triples are those of the rule in SCOPE 19
pub triples_by_the_rule : triples ≡ rule
unfolding triples rule flat
triples_by_the_rule = refl

pub triples_size : length triples ≡ 60
unfolding triples
triples_size = refl

-- the positions one after the other are the table
pub positions_in_threes : flat (λ i. coords (position_at i)) 12 0 ≡ positions
unfolding positions flat
positions_in_threes = refl

-- no position of the table would be refused
pub positions_fine : positions_fault positions 12 ≡ 0
unfolding positions first_of fault_of vector_fault add mul le of_bits
positions_fine = refl
