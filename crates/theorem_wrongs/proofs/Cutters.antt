-- A cutter that finds the neighbours of a cut by the rule cuts as the definition says. Assumes nothing.
use Prim.Native.Nat.{ℕ, zero, suc, ◌+◌, ◌-◌, ◌<◌}
use mathlib.Core.Path.{◌≡◌, refl, ap, ◌∙◌}
use mathlib.Core.Bool.{Bool, true, false, cond}
use mathlib.Core.List.{List}
use native.Mathlib.Nat.{mod-lt}
use native.Mathlib.Omega.{arith}
use lib.Dec.{ltb}
use lib.Ieee.{Float}
use lib.ListN.{length}
use borrow.Author.Tests.{lt-ltb, ltb-true}
use Rattle.ring_theory.specs.Ring.{without, ear_of}
use Rattle.ring_ears.specs.Ears.{reclassify, at_cut, before_cut, reclassify_both, Remaining, cut_at}
use Rattle.ring_cut.specs.Cut.{Cutting, ahead, at_ear, lowest_of, cutting}
use Rattle.theorem_wrongs.specs.Wrongs.{cutting_by, two_afresh, neighbours}

-- both indexes are of the ring left, so neither is passed over
module _ (ps : List Float) (ids : List ℕ) (i : ℕ) (classes : List ℕ) where
  abbrev m : ℕ
  m = length ids

  above_three : (b : Bool) → ltb 3 m ≡ b → cond b (two_afresh at_cut before_cut ps ids i classes) classes ≡ cond b (reclassify ps ids (before_cut m i) (reclassify ps ids (at_cut m i) classes)) classes
  above_three false e = refl
  above_three true e =
      let some : 0 < m = omega (arith, ltb-true 3 m e) in
      rw (lt-ltb (at_cut m i) m (mod-lt i some), lt-ltb (before_cut m i) m (mod-lt (i + m - 1) some))

  step : neighbours at_cut before_cut ps ids i classes ≡ reclassify_both ps ids i classes
  unfolding reclassify_both
  step = above_three (ltb 3 m) refl

-- the ring left by a cut with that step is that of the definition
left_by : (ps : List Float) (s : Remaining) (i : ℕ) → record { ids = without i s.ids; classes = neighbours at_cut before_cut ps (without i s.ids) i s.classes } ≡ cut_at ps s i
unfolding cut_at
left_by ps s i = rw (step ps (without i s.ids) i s.classes)

-- on from the same index with the same cuts
on_alike : (b : Bool) (i : ℕ) (f g : ℕ → Cutting) → f i ≡ g i → at_ear b i f ≡ at_ear b i g
on_alike true i f g e = e
on_alike false i f g e = refl

pub by_the_rule : (ps : List Float) (k : ℕ) (s : Remaining) → cutting_by (neighbours at_cut before_cut) ps k s ≡ cutting ps k s
unfolding cutting_by cutting
by_the_rule ps zero s = refl
by_the_rule ps (suc k) s =
    let i = lowest_of ps s in
    on_alike (ltb i (length s.ids)) i _ _ (ap (ahead (ear_of s.ids i)) (ap (cutting_by (neighbours at_cut before_cut) ps k) (left_by ps s i) ∙ by_the_rule ps k (cut_at ps s i)))
