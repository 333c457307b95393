-- The start's chord at a pole, else by the foot.
use Rattle.loop_distances.specs.Blocks.{far_with}
use Rattle.loop_distances.proofs.far_with.Statement.{statement}
use Rattle.loop_distances.proofs.far_with.Tie as tie

pub far_with_spec : {M : Type 1} → statement M
unfolding far_with
far_with_spec =
    tie.close
    (tie.spec
    (λ c κs. tt) (λ c κs. tt)
    (λ c. let h = simp c.before.before.before.equals.ensures at c.before.before.if-equals.true in
    simp (h) c.new.ensures)
    (λ c κs. tt) (λ c κs. tt)
    (λ c. let foot = c.before in
    let h = simp foot.before.before.before.equals.ensures at foot.before.before.if-equals.false in
    simp (h, c.by_foot.ensures, foot.foot_by.ensures)))
