use borrow.Author.Rules.{rules}
use Rattle.ring_edges.specs.Blocks.{unit_at}
use Rattle.ring_edges.proofs.unit.Statement.{statement}
use Rattle.ring_edges.proofs.unit.Tie as tie

pub unit_spec : {M : Type 1} → statement M
unfolding unit_at
unit_spec =
    tie.close
    (tie.spec (λ c κs. search rules) (λ c κs. tt)
    (λ c. simp (c.new_unit.ensures, c.before.raw-v.ensures)))
