-- One more, unless it is settled.
use borrow.Author.Rules.{rules}
use Rattle.loop_distances.proofs.counted.Statement.{statement}
use Rattle.loop_distances.proofs.counted.Tie as tie

pub counted_spec : {M : Type 1} → statement M
counted_spec =
    tie.close
    (tie.spec
    (λ c. search rules) (λ c. simp c.if-settled.true) (λ c. simp c.if-settled.false))
