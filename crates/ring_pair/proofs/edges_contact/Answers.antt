-- Each iteration grades the relation with one edge.
use Rattle.std.proofs.Common.{◌∙◌, arith, refl, sym}
use Rattle.ring_pair.proofs.Grades.{grade_on, grade_hit, grade_end}
use Rattle.ring_pair.proofs.edges_contact.Goals as goal

pub loop-j-init : goal.loop-j-init
loop-j-init c = (record { within = omega arith; rest = refl }, omega arith)

pub returns-then-is_crossed : goal.returns-then-is_crossed
returns-then-is_crossed c =
    grade_hit c.loop-j.invariant.0 c.grade-k.result (simp (c.grade-k.ensures, c.relation_at.ensures)) (omega arith) (sym c.is_crossed.ensures ∙ c.if-is_crossed.true)

pub loop-j-preserved : goal.loop-j-preserved
loop-j-preserved c =
    let inv = c.loop-j.invariant in (
      grade_on inv.0 c.grade-k.result (simp (c.grade-k.ensures, c.relation_at.ensures)) (omega arith) (sym c.is_crossed.ensures ∙ c.if-is_crossed.false)
          (simp c.is_touched-touched.ensures),
      omega (arith, inv.1),
    )

pub returns : goal.returns
returns c = c.uncrossed.ensures ∙ grade_end c.loop-j.invariant.0 (omega arith)
