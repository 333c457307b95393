-- The least of the two ends' squared chords.
use Rattle.loop_distances.proofs.nearer_end.Statement.{statement}
use Rattle.loop_distances.proofs.nearer_end.Tie as tie

pub nearer_end_spec : {M : Type 1} → statement M
nearer_end_spec =
    tie.close
    (tie.spec
    (λ c κs. tt) (λ c κs. tt) (λ c κs. tt)
    (λ c. simp (c.least.ensures, c.before.new-2.ensures, c.before.before.before.new.ensures)))
