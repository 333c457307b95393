-- The source's branches and the rule class the same two corners by the same three positions, in an order that does not matter. Assumes nothing.
use Prim.Native.Nat.{ℕ, ◌+◌, ◌-◌, ◌%◌, ◌≤◌, ◌<◌}
use mathlib.Core.Path.{◌≡◌, refl, sym}
use mathlib.Core.Logic.{◌≢◌}
use mathlib.Core.Bool.{Bool, true, false, ◌||◌, cond}
use mathlib.Core.List.{List}
use native.Mathlib.Nat.{mod-lt}
use native.Mathlib.Omega.{arith}
use lib.Dec.{eqb}
use lib.Ieee.{Float}
use lib.ListN.{length, get_or}
use lib.Seq.{set_comm}
use borrow.Author.Tests.{lt-ltb, eqb-true, eqb-false}
use Rattle.ring_index.proofs.Rounds.{under, over}
use Rattle.ring_theory.specs.Cuts.{RingLeft}
use Rattle.ring_theory.proofs.Indexes.{Follows, on, round, prev_follows, apart_at}
use Rattle.ring_theory.proofs.Numbers.{increasing_left}
use Rattle.ring_ears.specs.Ears.{reclassify, at_cut, before_cut, reclassify_both}
use Rattle.ring_ears.specs.Branches.{classify, at_ends, elsewhere, by_branches, OneRule}
use Rattle.ring_ears.proofs.Indexes.{before_at_cut}

-- an index with the two beside it
record Beside (m previous this next : ℕ) : Type 0 where
  pub before : previous ≡ (this + m - 1) % m
  pub after : next ≡ (this + 1) % m

module _ (ps : List Float) (ids classes : List ℕ) (h : 3 < length ids) where
  abbrev m : ℕ
  m = length ids

  -- two corners classed by their indexes and those beside them are those of the cut
  both : (i at p n before q o : ℕ) → at ≡ at_cut m i → Beside m p at n → before ≡ before_cut m i → Beside m q before o
      → classify ps ids q before o (classify ps ids p at n classes) ≡ reclassify_both ps ids i classes
  unfolding reclassify reclassify_both
  both i at p n before q o a x b y = rw (lt-ltb 3 _ h, x.before, x.after, y.before, y.after, a, b)

  by_ends : (i : ℕ) → 0 ≡ at_cut m i → m - 1 ≡ before_cut m i → at_ends ps ids (m - 1) classes ≡ reclassify_both ps ids i classes
  by_ends i a b =
      both i 0 (m - 1) 1 (m - 1) (m - 1 - 1) 0
      a (record { before = under (omega arith) (omega arith); after = under (omega arith) (omega arith) })
      b (record { before = over (omega arith) (omega arith); after = over (omega arith) (omega arith) })

  by_elsewhere : (i : ℕ) → i ≢ 0 → i < m → elsewhere ps ids (m - 1) i classes ≡ reclassify_both ps ids i classes
  by_elsewhere i z l = both i i (i - 1) _ (i - 1) _ i (under refl l) at (over (omega arith) (omega arith)) before
    where
      after_last : (b : Bool) → eqb i (m - 1) ≡ b → cond b 0 (i + 1) ≡ (i + 1) % m
      after_last true e = over (omega (arith, eqb-true i (m - 1) e)) (omega arith)
      after_last false e = under refl (omega (arith, eqb-false i (m - 1) e))

      before_first : (b : Bool) → eqb i 1 ≡ b → cond b (m - 1) (i - 2) ≡ (i - 1 + m - 1) % m
      before_first true e = under (omega (arith, eqb-true i 1 e)) (omega arith)
      before_first false e = over (omega (arith, eqb-false i 1 e)) (omega arith)

      at : Beside m (i - 1) i (cond (eqb i (m - 1)) 0 (i + 1))
      at = record { before = over (omega arith) (omega arith); after = after_last (eqb i (m - 1)) refl }

      before : Beside m (cond (eqb i 1) (m - 1) (i - 2)) (i - 1) i
      before = record { before = before_first (eqb i 1) refl; after = under (omega arith) l }

  same_classes : (i : ℕ) → i ≤ m → by_branches ps ids i classes ≡ reclassify_both ps ids i classes
  unfolding by_branches
  same_classes i l = go (eqb i 0) (eqb i m) refl refl
    where
      go : (a b : Bool) → eqb i 0 ≡ a → eqb i m ≡ b → cond (a || b) (at_ends ps ids (m - 1) classes) (elsewhere ps ids (m - 1) i classes) ≡ reclassify_both ps ids i classes
      go true b e f =
          let z = eqb-true i 0 e in
          by_ends i (under (omega arith) (omega arith)) (under (omega arith) (omega arith))
      go false true e f =
          let z = eqb-true i m f in
          by_ends i (over (omega arith) (omega arith)) (over (omega arith) (omega arith))
      go false false e f = by_elsewhere i (eqb-false i 0 e) (omega (arith, eqb-false i m f))

either_first : (ps : List Float) (ids classes : List ℕ) (j k : ℕ) → get_or ids j 0 ≢ get_or ids k 0
    → reclassify ps ids j (reclassify ps ids k classes) ≡ reclassify ps ids k (reclassify ps ids j classes)
unfolding reclassify
either_first ps ids classes j k h = set_comm classes _ _ _ _ (λ e. h (sym e))

-- an index is not the one before it
not_before : {m i j : ℕ} → 1 < m → Follows m i j → i ≢ j
not_before h (on e f) = omega arith
not_before h (round e f) = omega arith

numbers_differ : (n : ℕ) (ids : List ℕ) (i : ℕ) → RingLeft n ids → 3 < length ids → get_or ids (before_cut (length ids) i) 0 ≢ get_or ids (at_cut (length ids) i) 0
numbers_differ n ids i r h =
    let m = length ids in
    let some : 0 < m = omega arith in
    let below = mod-lt i some in
    let follows : Follows m (before_cut m i) (at_cut m i) = rw (← before_at_cut i some) (prev_follows m (at_cut m i) below) in
    apart_at ids (increasing_left r) (before_cut m i) (at_cut m i) (mod-lt (i + m - 1) some) below (not_before (omega arith) follows)

pub one_rule : OneRule
one_rule = record {
  same_classes = λ ps ids classes i h l. same_classes ps ids classes h i l;
  either_first = either_first;
  numbers_differ = numbers_differ;
}
