-- Each iteration grades one block of edges.
use Rattle.std.proofs.Common.{◌∙◌, arith, refl, sym}
use Rattle.ring_pair.proofs.Grades.{grade, grade_part, grade_part_hit, grade_end}
use Rattle.ring_pair.specs.Contacts.{any_crosses, any_touches}
use Rattle.ring_pair.proofs.arc_contact.Goals as goal

pub loop-from-init : goal.loop-from-init
unfolding any_crosses any_touches
loop-from-init c = grade refl

pub returns-then-is_crossed : goal.returns-then-is_crossed
returns-then-is_crossed c =
    let block = c.block_end-to.ensures in
    grade_part_hit c.loop-from.invariant c.block_contact-k.result c.block_contact-k.ensures (omega (arith, block.1)) block.3
    (sym c.is_crossed.ensures ∙ c.if-is_crossed.true)

pub loop-from-preserved : goal.loop-from-preserved
loop-from-preserved c =
    let block = c.block_end-to.ensures in
    grade_part c.loop-from.invariant c.block_contact-k.result c.block_contact-k.ensures (omega (arith, block.1)) block.3
    (sym c.is_crossed.ensures ∙ c.if-is_crossed.false) (simp c.is_touched-touched.ensures)

pub returns : goal.returns
returns c = c.uncrossed.ensures ∙ grade_end c.loop-from.invariant (omega arith)
