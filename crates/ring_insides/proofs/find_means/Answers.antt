-- Each iteration adds the mean of the lowest ear, cuts it and keeps `Seeking`, that what is left to find comes to the means of the whole ring.
use Rattle.std.proofs.Common.{refl, sym, ◌∙◌, arith, rules}
use Rattle.ring_ears.proofs.Indexes.{indexed}
use Rattle.ring_cut.proofs.Lefts.{found, found_convex, lowest_some, lowest_none}
use Rattle.ring_insides.proofs.Seekings.{stuck, both, cut, finish}
use Rattle.ring_insides.proofs.find_means.Goals as goal

pub returns-in_default : goal.returns-in_default
returns-in_default c =
    let seeking = c.loop-m.invariant in
    stuck seeking c.loop-m-test.true (lowest_none seeking.held (sym c.lowest_ear.ensures ∙ c.in_default.is)) refl

pub mean_at-requires : goal.mean_at-requires
mean_at-requires c =
    let held = c.loop-m.invariant.held in
    let s = lowest_some held (sym c.lowest_ear.ensures ∙ c.in-Some.is) in
    (indexed held.lent, rw held.sized (found held s.0 s.1), held.lent.few)

pub returns-then-is_both : goal.returns-then-is_both
returns-then-is_both c =
    let seeking = c.loop-m.invariant in
    let s = lowest_some seeking.held (sym c.lowest_ear.ensures ∙ c.in-Some.is) in
    both seeking c.loop-m-test.true s.0 s.1 (rw c.mean_at.ensures at c.with_mean-f.ensures) (sym c.is_both.ensures ∙ c.if-is_both.true)

pub cut_apart-count-requires : goal.cut_apart-count-requires
cut_apart-count-requires c =
    let seeking = c.loop-m.invariant in
    let held = seeking.held in
    let list = seeking.listing in
    let s = lowest_some held (sym c.lowest_ear.ensures ∙ c.in-Some.is) in
    (held.lent, rw held.sized (found held s.0 s.1), found_convex held s.0 s.1, list.listed, list.few, list.room)

pub loop-m-preserved : goal.loop-m-preserved
loop-m-preserved c =
    let seeking = c.loop-m.invariant in
    let s = lowest_some seeking.held (sym c.lowest_ear.ensures ∙ c.in-Some.is) in
    let done = c.cut_apart-count in
    cut seeking c.loop-m-test.true s.0 s.1 (rw c.mean_at.ensures at c.with_mean-f.ensures) refl done.ensures.0 done.auto.ids done.auto.classes done.ensures.1 done.ensures.2 done.auto.apart

pub mean_at-requires-2 : goal.mean_at-requires-2
mean_at-requires-2 c = let held = c.loop-m.invariant.held in (indexed held.lent, omega arith, held.lent.few)

pub returns : goal.returns
returns c = finish c.loop-m.invariant (search rules) (rw c.mean_at-2.ensures at c.with_mean.ensures)
