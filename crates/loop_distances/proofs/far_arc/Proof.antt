-- The three cases of SCOPE 49, each chord worked out once.
use Rattle.loop_distances.specs.Distances.{far_arc}
use Rattle.loop_distances.proofs.far_arc.Statement.{statement}
use Rattle.loop_distances.proofs.far_arc.Tie as tie

past-end-lem : tie.Need-returns-then-start-end
unfolding far_arc
past-end-lem c =
    let known = c.before.before in
    let side = known.before.before.before in
    let end = side.before.before.before in
    let start = end.before.before in
    let past = simp (side.new-side.ensures, end.new-end.ensures, start.new-start.ensures) at c.before.if-start-end.true in
    simp (past, c.least.ensures, end.new-end.ensures, start.new-start.ensures)

at-pole : tie.Need-returns-then-equals
unfolding far_arc
at-pole c =
    let same = c.before in
    let across = same.before in
    let other = across.before.before in
    let side = other.before.before.before.before in
    let end = side.before.before.before in
    let start = end.before.before in
    let past = simp (side.new-side.ensures, end.new-end.ensures, start.new-start.ensures) at other.if-start-end.false in
    let pole = simp (same.equals.ensures, across.stable_cross_prod_unit-across.ensures) at c.if-equals.true in
    simp (past, pole, start.new-start.ensures)

by-foot : tie.Need-returns
unfolding far_arc
by-foot c =
    let foot = c.before in
    let apart = foot.before.before in
    let same = apart.before in
    let across = same.before in
    let other = across.before.before in
    let side = other.before.before.before.before in
    let end = side.before.before.before in
    let start = end.before.before in
    let past = simp (side.new-side.ensures, end.new-end.ensures, start.new-start.ensures) at other.if-start-end.false in
    let pole = simp (same.equals.ensures, across.stable_cross_prod_unit-across.ensures) at apart.if-equals.false in
    simp (past, pole, c.by_foot.ensures, foot.orthogonal_to.ensures, across.stable_cross_prod_unit-across.ensures)

pub far_arc_spec : {M : Type 1} → statement M
far_arc_spec =
    tie.close
    (tie.spec
    (λ c κs. tt) (λ c κs. tt) (λ c κs. tt) (λ c κs. tt)
    past-end-lem
    (λ c κs. tt) (λ c κs. tt)
    at-pole
    (λ c κs. tt) (λ c κs. tt)
    by-foot)
