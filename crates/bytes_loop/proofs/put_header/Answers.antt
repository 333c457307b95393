-- Front, cap and insides are each stored right after the one before: together they are the header.
use Rattle.std.proofs.Common.{arith}
use mathlib.Core.Path.{refl}
use lib.ListN.{length-append}
use Rattle.wire.proofs.Bytes.{three, eight}
use Rattle.bytes_loop.specs.Layout.{state_code, marks_of, front_bytes, cap_bytes, insides_bytes, header_bytes}
use Rattle.bytes_loop.proofs.put_header.Goals as goal

pub returns : goal.returns
unfolding header_bytes
returns c =
    let h = c.args.h in
    three c.args.out.now (front_bytes h.count (state_code h.state) (marks_of h)) (cap_bytes h.cap) (insides_bytes h.insides) 0 8 40
    (simp (c.marks_of.ensures, c.state_code.ensures) at c.put_front.ensures)
    c.put_cap.ensures c.put_insides.ensures refl (simp (length-append, eight)) (omega arith)
