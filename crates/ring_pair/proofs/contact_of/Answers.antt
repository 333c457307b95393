-- Each iteration grades one edge.
use Rattle.std.proofs.Common.{◌∙◌, arith, refl, sym}
use Rattle.ring_pair.proofs.Grades.{grade, grade_on, grade_hit, grade_end}
use Rattle.ring_pair.specs.Contacts.{contact_of}
use Rattle.ring_pair.proofs.contact_of.Goals as goal

pub loop-i-init : goal.loop-i-init
unfolding contact_of
loop-i-init c = grade refl

pub returns-then-is_crossed : goal.returns-then-is_crossed
returns-then-is_crossed c =
    grade_hit c.loop-i.invariant c.arc_contact-k.result (simp (c.arc_contact-k.ensures, c.edge.ensures)) (omega arith) (sym c.is_crossed.ensures ∙ c.if-is_crossed.true)

pub loop-i-preserved : goal.loop-i-preserved
loop-i-preserved c =
    grade_on c.loop-i.invariant c.arc_contact-k.result (simp (c.arc_contact-k.ensures, c.edge.ensures)) (omega arith)
    (sym c.is_crossed.ensures ∙ c.if-is_crossed.false) (simp c.is_touched-touched.ensures)

pub returns : goal.returns
returns c = c.uncrossed.ensures ∙ grade_end c.loop-i.invariant (omega arith)
