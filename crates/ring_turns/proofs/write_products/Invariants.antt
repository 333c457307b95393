-- The products before i stand in the array.
use Rattle.laws.proofs.Blocks.{Fill}
use Rattle.vec3.specs.Vec.{coords}
use Rattle.ring_turns.specs.Blocks.{product_at}
use Rattle.ring_turns.proofs.write_products.Given as goal

abbrev pub invariant-loop-i : goal.invariant-loop-i
invariant-loop-i l = Fill 3 (λ j. coords (product_at l.list l.n j)) l.n l.i l.initial.work l.work
