-- The three sizes.
use Rattle.loop_distances.proofs.is_tame.Statement.{statement}
use Rattle.loop_distances.proofs.is_tame.Tie as tie

pub is_tame_spec : {M : Type 1} → statement M
is_tame_spec =
    tie.close
    (tie.spec
    (λ c κs. tt) (λ c κs. tt) (λ c κs. tt)
    (λ c. simp (c.abs-3.ensures, c.before.abs-2.ensures, c.before.before.abs.ensures)))
