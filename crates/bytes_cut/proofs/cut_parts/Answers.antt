-- The loop's refusals come first, then that of the room; else the loop is cut into a list with room for all of its triangles.
use Rattle.std.proofs.Common.{arith}
use Rattle.std.proofs.lemmas.Result.{err_from_is_err_and}
use Rattle.bytes_cut.proofs.Slices.{parts_refused, few, no_room, roomy, front_blank, triples_size}
use Rattle.bytes_cut.proofs.cut_parts.Goals as goal

pub returns-in_err-cut_fault : goal.returns-in_err-cut_fault
returns-in_err-cut_fault c =
    let p = err_from_is_err_and c.from_residual.result c.from_residual.ensures.1 in
    rw (p.1, p.2) (parts_refused _ _ _ _ _ c.in_err-cut_fault.ensures)

pub triples_of-m-requires : goal.triples_of-m-requires
triples_of-m-requires c = few _ _ _ c.args.out.now c.in_ok-cut_fault.ensures

pub returns-then-out-m : goal.returns-then-out-m
returns-then-out-m c = no_room _ _ _ _ c.in_ok-cut_fault.ensures c.triples_of-m.ensures.value c.if-out-m.true

pub cut_into-requires : goal.cut_into-requires
cut_into-requires c = (
  few _ _ _ c.args.out.now c.in_ok-cut_fault.ensures,
  triples_size 1530 c.triples_of-m.result (omega (arith, c.triples_of-m.ensures.upper_bound)) c.triples_of-m.ensures.value,
  omega (arith, c.triples_of-m.ensures.value, c.if-out-m.false),
)

pub returns : goal.returns
returns c =
    roomy _ _ _ _ c.in_ok-cut_fault.ensures c.triples_of-m.ensures.value c.if-out-m.false
    (front_blank 1530 (omega (arith, c.triples_of-m.ensures.upper_bound))) c.cut_into.ensures
