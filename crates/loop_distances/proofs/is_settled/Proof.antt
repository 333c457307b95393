-- Surely off, or past the end.
use Rattle.loop_distances.proofs.is_settled.Statement.{statement}
use Rattle.loop_distances.proofs.is_settled.Tie as tie

pub is_settled_spec : {M : Type 1} → statement M
is_settled_spec =
    tie.close
    (tie.spec
    (λ c κs. tt)
    (λ c. let h = simp c.before.is_surely_off.ensures at c.if-is_surely_off.true in
    simp (h))
    (λ c κs. tt)
    (λ c. let side = c.before.before.before in
    let h = simp side.before.before.before.before.is_surely_off.ensures at side.before.before.before.if-is_surely_off.false in
    simp (h, side.new-side.ensures)))
