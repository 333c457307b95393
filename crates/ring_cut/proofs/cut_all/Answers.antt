-- Each iteration cuts the lowest ear and keeps `Going`, that the ring left and the triangles laid come to the cutting of the whole ring.
use Rattle.std.proofs.Common.{refl, sym, ◌∙◌, arith}
use Rattle.ring_cut.proofs.Lefts.{found, found_convex, lowest_some, lowest_none}
use Rattle.ring_cut.proofs.Goings.{stuck, cut, finish}
use Rattle.ring_cut.proofs.cut_all.Goals as goal

pub returns-in_default : goal.returns-in_default
returns-in_default c =
    let going = c.loop-m.invariant in
    stuck going c.loop-m-test.true (lowest_none going.held (sym c.lowest_ear.ensures ∙ c.in_default.is)) refl

pub cut_apart-k-requires : goal.cut_apart-k-requires
cut_apart-k-requires c =
    let going = c.loop-m.invariant in
    let held = going.held in
    let list = going.listing in
    let s = lowest_some held (sym c.lowest_ear.ensures ∙ c.in-Some.is) in
    (held.lent, rw held.sized (found held s.0 s.1), found_convex held s.0 s.1, list.listed, list.few, list.room)

pub loop-m-preserved : goal.loop-m-preserved
loop-m-preserved c =
    let going = c.loop-m.invariant in
    let s = lowest_some going.held (sym c.lowest_ear.ensures ∙ c.in-Some.is) in
    let done = c.cut_apart-k in
    cut going c.loop-m-test.true s.0 s.1 refl done.ensures.0 c.put_ear.ensures done.auto.ids done.auto.classes done.ensures.1 done.ensures.2 done.auto.apart

pub returns : goal.returns
returns c = finish c.loop-m.invariant (omega arith) c.put_ear-2.ensures
