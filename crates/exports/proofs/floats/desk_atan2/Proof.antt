-- The bits of both arguments are read, and those of the arctangent are the answer.
use borrow.Author.Rules.{rules}
use Rattle.exports.proofs.floats.desk_atan2.Statement.{statement}
use Rattle.exports.proofs.floats.desk_atan2.Tie as tie

returns : tie.Need-returns
returns c =
    let angle = c.before in
    let x = angle.before in
    simp (c.to_bits.ensures, angle.atan2.ensures, x.of_bits-2.ensures, x.before.of_bits.ensures)

pub desk_atan2_spec : {M : Type 1} → statement M
desk_atan2_spec =
    tie.close
    (tie.spec (λ c κs. search rules) (λ c κs. search rules) (λ c κs. search rules) (λ c κs. search rules) returns)
