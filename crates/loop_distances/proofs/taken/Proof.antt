-- The least of both where it is settled, else what there was.
use Rattle.loop_distances.proofs.taken.Statement.{statement}
use Rattle.loop_distances.proofs.taken.Tie as tie

pub taken_spec : {M : Type 1} → statement M
taken_spec =
    tie.close
    (tie.spec
    (λ c κs. tt)
    (λ c. simp c.before.if-settled.true c.least.ensures)
    (λ c. simp c.if-settled.false))
