-- The product's own products with the ends.
use Rattle.sure_sides.specs.Sure.{beyond}
use Rattle.loop_distances.proofs.is_beyond.Statement.{statement}
use Rattle.loop_distances.proofs.is_beyond.Tie as tie

pub is_beyond_spec : {M : Type 1} → statement M
unfolding beyond
is_beyond_spec =
    tie.close
    (tie.spec
    (λ c κs. tt) (λ c κs. tt) (λ c κs. tt)
    (λ c. simp (c.dot_prod-2.ensures, c.before.before.dot_prod.ensures, c.before.before.before.before.stable_cross_prod-r.ensures)))
