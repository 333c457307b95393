-- Each iteration cuts the ear that the next triple names and keeps `Following`, that the list is accepted if what is left of it is.
use Rattle.std.proofs.Common.{refl, sym, ◌∙◌, arith}
use Rattle.laws.proofs.Ranges.{found_some, found_none}
use Rattle.ring_check.proofs.Followings.{begin, missing, off, cut, finish}
use Rattle.ring_check.proofs.follow.Goals as goal

pub loop-m-init : goal.loop-m-init
loop-m-init c = begin c.requires.0 c.requires.1 c.requires.2

pub index_at-requires : goal.index_at-requires
index_at-requires c =
    let following = c.loop-m.invariant in
    (following.held.lent.few, omega (arith, following.size, following.count))

pub returns-in_default : goal.returns-in_default
returns-in_default c = missing c.loop-m.invariant c.loop-m-test.true (found_none (sym c.index_at.ensures ∙ c.in_default.is))

pub is_named-requires : goal.is_named-requires
is_named-requires c =
    let following = c.loop-m.invariant in
    let p = found_some (sym c.index_at.ensures ∙ c.in-Some.is) in
    (following.held.lent, omega (arith, p.1), omega (arith, following.size, following.count))

pub returns-then-not-is_named : goal.returns-then-not-is_named
returns-then-not-is_named c =
    let p = found_some (sym c.index_at.ensures ∙ c.in-Some.is) in
    off c.loop-m.invariant c.loop-m-test.true (sym p.0) c.is_named.ensures c.if-not-is_named.true

pub cut_one-requires : goal.cut_one-requires
cut_one-requires c =
    let p = found_some (sym c.index_at.ensures ∙ c.in-Some.is) in
    (c.loop-m.invariant.held.lent, p.1)

pub loop-m-preserved : goal.loop-m-preserved
loop-m-preserved c =
    let p = found_some (sym c.index_at.ensures ∙ c.in-Some.is) in
    let done = c.cut_one in
    cut c.loop-m.invariant c.loop-m-test.true (sym p.0) c.is_named.ensures c.if-not-is_named.false refl done.ensures done.auto.ids done.auto.classes

pub is_last-requires : goal.is_last-requires
is_last-requires c =
    let following = c.loop-m.invariant in
    let held = following.held in
    (omega (arith, held.sized, held.least), omega (arith, following.size, following.count, held.least))

pub returns : goal.returns
returns c = finish c.loop-m.invariant (omega arith) c.is_last.ensures
