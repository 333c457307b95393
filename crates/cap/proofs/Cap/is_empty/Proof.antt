use lib.Ieee.{neg, of_bits}
use mathlib.Core.Path.{refl}
use Rattle.cap.proofs.Cap.is_empty.Statement.{statement}
use Rattle.cap.proofs.Cap.is_empty.Tie as tie

pub is_empty_spec : {M : Type 1} → statement M
unfolding neg of_bits
is_empty_spec =
    tie.close
    (tie.spec
    (λ c. refl))
