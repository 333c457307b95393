-- The bits of a squared chord are read, and those of its radians are the answer.
use borrow.Author.Rules.{rules}
use Rattle.exports_far.proofs.desk_radians.Statement.{statement}
use Rattle.exports_far.proofs.desk_radians.Tie as tie

pub desk_radians_spec : {M : Type 1} → statement M
desk_radians_spec =
    tie.close
    (tie.spec (λ c κs. search rules) (λ c κs. search rules) (λ c κs. search rules)
    (λ c. simp (c.to_bits.ensures, c.before.radians.ensures, c.before.before.of_bits.ensures)))
