-- The normals before i stand in the array, and from i on the products still do.
use Rattle.std.proofs.Common.{◌≡◌, ◌*◌, length}
use Rattle.laws.proofs.Blocks.{Fill}
use Rattle.vec3.specs.Vec.{coords}
use Rattle.ring_turns.specs.Turns.{edge_normal}
use Rattle.ring_turns.proofs.Edges.{Kept}
use Rattle.ring_turns.proofs.turn_to_normals.Given as goal

abbrev pub invariant-loop-i : goal.invariant-loop-i
invariant-loop-i l =
    Fill 3 (λ j. coords (edge_normal l.list l.n j)) l.n l.i l.initial.work l.work × (length l.initial.work ≡ 3 * l.n) × Kept l.list l.n l.i l.work
