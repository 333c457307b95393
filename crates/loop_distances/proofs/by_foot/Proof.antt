-- The foot's chord where the foot is on the arc, else that of the nearer end.
use Rattle.loop_distances.specs.Distances.{by_foot}
use Rattle.loop_distances.proofs.by_foot.Statement.{statement}
use Rattle.loop_distances.proofs.by_foot.Tie as tie

pub by_foot_spec : {M : Type 1} → statement M
unfolding by_foot
by_foot_spec =
    tie.close
    (tie.spec
    (λ c κs. tt) (λ c κs. tt) (λ c κs. tt) (λ c κs. tt)
    (λ c. let on = c.before in
    let h = simp (on.before.is_within.ensures, on.before.before.location.ensures) at on.if-is_within.true in
    simp (h) c.new.ensures)
    (λ c. let off = c.before in
    let h = simp (off.before.is_within.ensures, off.before.before.location.ensures) at off.if-is_within.false in
    simp (h) c.nearer_end.ensures))
