-- Two vectors stored one after the other are the insides.
use Rattle.std.proofs.Common.{arith}
use Rattle.wire.specs.Wire.{vec_bytes}
use Rattle.wire.proofs.Lays.{two, width}
use Rattle.bytes_loop.specs.Layout.{first_inside, second_inside}
use Rattle.bytes_loop.proofs.put_insides.Goals as goal

pub returns : goal.returns
returns c =
    let i = c.args.i in
    two c.args.out.now (vec_bytes (first_inside i)) (vec_bytes (second_inside i)) 40 64
    (simp c.unwrap_or.ensures at c.put_vec.ensures) (simp c.unwrap_or.ensures at c.put_vec-2.ensures)
    (omega (arith, width (first_inside i)))
