-- One product turns to its normal.
use Rattle.std.proofs.Common.{refl, arith}
use Rattle.laws.proofs.Blocks.{fill, fill_on, fill_all}
use Rattle.ring_turns.proofs.Edges.{kept, kept_on, products_size}
use Rattle.ring_turns.proofs.turn_to_normals.Goals as goal

pub loop-i-init : goal.loop-i-init
loop-i-init c =
    let p = c.requires.2 in
    (fill (λ j. refl) (omega (arith, products_size _ _ p)), products_size _ _ p, kept p)

pub edge_normal-normal-requires : goal.edge_normal-normal-requires
edge_normal-normal-requires c =
    let v = c.loop-i.invariant in
    (omega arith, omega arith, omega arith, omega (arith, v.0.size, v.1), v.2.held _ (omega arith) (omega arith))

pub loop-i-preserved : goal.loop-i-preserved
loop-i-preserved c =
    let v = c.loop-i.invariant in
    (fill_on v.0 (simp (c.put.ensures, c.edge_normal-normal.ensures)) (omega arith), v.1, kept_on v.2 _ c.put.ensures)

pub returns : goal.returns
returns c = fill_all c.loop-i.invariant.0 (omega arith) c.loop-i.invariant.1
