-- A cut that leaves its neighbours as convex, or not, as they were: the corners that are not convex are then the same. Assumes nothing.
use Prim.Native.Nat.{ℕ, ◌+◌, ◌-◌, ◌≤◌, ◌<◌}
use mathlib.Core.Path.{◌≡◌, refl, sym, ap, ◌∙◌}
use mathlib.Core.Bool.{Bool, true, false, ◌||◌, cond, true≢false}
use mathlib.Core.List.{List}
use native.Mathlib.Omega.{arith}
use lib.Dec.{eqb, ltb}
use lib.Ieee.{Float}
use lib.ListN.{length, get_or, take, drop, set, length-set}
use lib.Seq.{get_or-set_same, get_or-set_other}
use borrow.Author.Tests.{eqb-true, eqb-false, ltb-true}
use Rattle.laws.proofs.Loops.{wraps}
use Rattle.ring_theory.specs.Ring.{without}
use Rattle.ring_theory.proofs.Withouts.{length_without, taken}
use Rattle.ring_ears.specs.Ears.{Lent, convex, triangle_at, class_of, turn_of, reclassify, at_cut, before_cut, reclassify_both, Remaining, cut_in}
use Rattle.ring_reflex.specs.Apart.{apart_of}
use Rattle.ring_ears.specs.Changes.{differ, changed, one_changed}
use Rattle.ring_ears.proofs.Indexes.{relent, lent_without}
use Rattle.ring_reflex.proofs.Aparts.{Alike, apart_alike, apart_without}

same_one : (a b : Bool) → differ a b ≡ false → b ≡ a
same_one true true e = refl
same_one true false e = absurd (true≢false e)
same_one false b e = e

neither : (a b : Bool) → a || b ≡ false → (a ≡ false) × (b ≡ false)
neither true b e = absurd (true≢false e)
neither false b e = (refl, e)

module _ (ps : List Float) (ids : List ℕ) where
  pub alike_one : (i : ℕ) (classes : List ℕ) → get_or ids i 0 < length classes → changed ps ids i classes ≡ false → Alike classes (reclassify ps ids i classes)
  unfolding changed reclassify
  alike_one i classes h e k = go (eqb k (get_or ids i 0)) refl
    where
      go : (b : Bool) → eqb k (get_or ids i 0) ≡ b → eqb (get_or (set classes (get_or ids i 0) (class_of (turn_of (triangle_at ps ids i)))) k 0) 0 ≡ eqb (get_or classes k 0) 0
      go true q = rw (eqb-true k (get_or ids i 0) q, get_or-set_same classes (get_or ids i 0) (class_of (turn_of (triangle_at ps ids i))) 0 h) (same_one _ _ e)
      go false q = rw (get_or-set_other classes (get_or ids i 0) k (class_of (turn_of (triangle_at ps ids i))) 0 (eqb-false k (get_or ids i 0) q))

size_one : (ps : List Float) (ids : List ℕ) (i : ℕ) (classes : List ℕ) → length (reclassify ps ids i classes) ≡ length classes
unfolding reclassify
size_one ps ids i classes = length-set classes (get_or ids i 0) _

module _ {ps : List Float} {ids classes : List ℕ} (l : Lent ps ids classes) (i : ℕ) where
  abbrev at_cut_lem : ℕ
  at_cut_lem = at_cut (length ids) i

  abbrev before_cut_lem : ℕ
  before_cut_lem = before_cut (length ids) i

  -- the classes with the first of the two neighbours afresh
  abbrev once : List ℕ
  once = reclassify ps ids at_cut_lem classes

  both : 3 < length ids → changed ps ids at_cut_lem classes || changed ps ids before_cut_lem once ≡ false → Alike classes (reclassify ps ids before_cut_lem once)
  both h e k =
      let f = neither (changed ps ids at_cut_lem classes) (changed ps ids before_cut_lem once) e in
      let first = alike_one ps ids at_cut_lem classes (l.below at_cut_lem (wraps i h)) f.0 k in
      let second = alike_one ps ids before_cut_lem once (rw (size_one ps ids at_cut_lem classes) (l.below before_cut_lem (wraps (i + length ids - 1) h))) f.1 k in
      second ∙ first

  pub alike_both : one_changed ps ids i classes ≡ false → Alike classes (reclassify_both ps ids i classes)
  unfolding one_changed reclassify_both
  alike_both e = go (ltb 3 (length ids)) refl e
    where
      go : (b : Bool) → ltb 3 (length ids) ≡ b → cond b (changed ps ids at_cut_lem classes || changed ps ids before_cut_lem once) false ≡ false
          → Alike classes (cond b (reclassify ps ids before_cut_lem once) classes)
      go true q f = both (ltb-true 3 (length ids) q) f
      go false q f = λ k. refl

-- a cut that changes neither neighbour leaves the list as it was
pub apart_kept : {ps : List Float} {ids classes : List ℕ} {i : ℕ} → Lent ps ids classes → i < length ids → convex ids classes i ≡ true
    → one_changed ps (without i ids) i classes ≡ false → apart_of (without i ids) (reclassify_both ps (without i ids) i classes) ≡ apart_of ids classes
apart_kept {ps} {ids} {classes} {i} l h c e =
    apart_alike (without i ids) classes (reclassify_both ps (without i ids) i classes) (alike_both (lent_without l h).0 i e) ∙ apart_without i ids classes h c

-- what a cut at index i leaves in the lent lists
module _ {ps : List Float} {ids classes ids' classes' : List ℕ} {i : ℕ} (l : Lent ps ids classes) (h : i < length ids)
    (e : record { ids = ids'; classes = classes' } ≡ cut_in ps (record { ids = ids; classes = classes }) i) (kept : length ids' ≡ length ids) (also : length classes' ≡ length classes) where
  pub cut_taken : take (length ids - 1) ids' ≡ without i ids
  cut_taken = rw kept at (taken i ids h (drop (length ids - 1) ids) kept (ap (λ (s : Remaining). s.ids) e))

  pub cut_lent : Lent ps (take (length ids - 1) ids') classes'
  cut_lent = rw cut_taken (relent (lent_without l h).0 also)

  cut_size : length (take (length ids - 1) ids') ≡ length ids - 1
  cut_size = rw cut_taken (length_without i ids h)

  pub cut_room : {n : ℕ} → length ids ≤ n → length (take (length ids - 1) ids') ≤ n
  cut_room k = omega (arith, cut_size)

  -- the list as it was, where no neighbour changed
  pub list_kept : {list : List ℕ} → convex ids classes i ≡ true → list ≡ apart_of ids classes → one_changed ps (without i ids) i classes ≡ false
      → list ≡ apart_of (without i ids) classes'
  list_kept c q r = q ∙ sym (apart_kept l h c r) ∙ ap (λ (s : Remaining). apart_of (without i ids) s.classes) (sym e)

  -- and the list made afresh
  pub list_afresh : {r : ℕ} {list : List ℕ} → (list ≡ apart_of (take (length ids - 1) ids') classes') × (r ≤ length (take (length ids - 1) ids'))
      → (list ≡ apart_of (without i ids) classes') × (r ≤ length ids)
  list_afresh q = (rw cut_taken at q.0, omega (arith, q.1, cut_size))
