-- The unit vector, unless it is exactly zero.
use Rattle.loop_distances.specs.Blocks.{foot_by}
use Rattle.loop_distances.proofs.foot_by.Statement.{statement}
use Rattle.loop_distances.proofs.foot_by.Tie as tie

pub foot_by_spec : {M : Type 1} → statement M
unfolding foot_by
foot_by_spec =
    tie.close
    (tie.spec
    (λ c κs. tt) (λ c κs. tt)
    (λ c. let h = simp c.before.before.equals.ensures at c.before.if-equals.true in
    simp (h) c.orthogonal.ensures)
    (λ c. let h = simp c.before.equals.ensures at c.if-equals.false in
    simp (h)))
