-- The normal's products with the ends and with itself.
use Rattle.loop_distances.proofs.is_upright.Statement.{statement}
use Rattle.loop_distances.proofs.is_upright.Tie as tie

pub is_upright_spec : {M : Type 1} → statement M
is_upright_spec =
    tie.close
    (tie.spec
    (λ c κs. tt) (λ c κs. tt) (λ c κs. tt) (λ c κs. tt) (λ c κs. tt)
    (λ c. let end = c.before.before in
    let start = end.before.before.before.before in
    simp (c.squared_norm.ensures, end.abs-end.ensures, end.before.dot_prod-2.ensures, start.abs-start.ensures, start.before.dot_prod.ensures)))
