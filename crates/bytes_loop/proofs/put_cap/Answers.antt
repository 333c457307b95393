-- A vector and a float stored one after the other are the cap.
use Rattle.std.proofs.Common.{arith}
use Rattle.wire.specs.Wire.{float_bytes, vec_bytes}
use Rattle.wire.proofs.Lays.{two, width}
use Rattle.bytes_loop.proofs.put_cap.Goals as goal

pub returns : goal.returns
returns c =
    let cap = c.args.c in
    two c.args.out.now (vec_bytes cap.centre) (float_bytes cap.radius.0) 8 32
    c.put_vec.ensures c.put_float.ensures
    (omega (arith, width cap.centre))
