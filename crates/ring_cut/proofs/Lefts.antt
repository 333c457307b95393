-- What is left of a ring in lent lists: the first m ring numbers, and the classes. Assumes nothing.
use Prim.Native.Nat.{ℕ, ◌-◌, ◌≤◌, ◌<◌}
use mathlib.Core.Path.{◌≡◌, refl, sym, ap, ◌∙◌}
use mathlib.Core.Bool.{Bool, true, false, ◌&&◌}
use mathlib.Core.List.{List, ◌++◌, append_assoc}
use native.Mathlib.Omega.{arith}
use lib.Ieee.{Float}
use lib.ListN.{length, take, drop, length-append, length-drop}
use lib.Seq.{take_at, take-length, length-take-le}
use Rattle.std.specs.Prelude.{Some, None}
use Rattle.laws.specs.Loop as Loop
use Rattle.laws.proofs.Loops.{first_at_le}
use Rattle.laws.proofs.Ranges.{found_some, found_none}
use Rattle.ring_theory.specs.Ring.{without}
use Rattle.ring_theory.proofs.Withouts.{length_without}
use Rattle.ring_ears.specs.Ears.{Lent, convex, ear, Remaining, cut_at, cut_in}
use Rattle.ring_reflex.specs.Lowest.{lowest}
use Rattle.ring_ears.proofs.Indexes.{relent, lent_without}
use Rattle.laws.proofs.Indexes.{first_has}

abbrev pub left : List ℕ → List ℕ → ℕ → Remaining
left ids classes m = record { ids = take m ids; classes = classes }

pub record Held (ps : List Float) (ids₀ classes₀ ids classes : List ℕ) (m : ℕ) : Type 0 where
  pub least : 3 ≤ m
  pub within : m ≤ length ids
  pub ids_size : length ids ≡ length ids₀
  pub classes_size : length classes ≡ length classes₀
  pub sized : length (take m ids) ≡ m
  pub lent : Lent ps (take m ids) classes

pub hold : {ps : List Float} {ids classes : List ℕ} → Lent ps ids classes → 3 ≤ length ids → Held ps ids classes ids classes (length ids)
hold {ids = ids} l h = record { least = h; within = omega arith; ids_size = refl; classes_size = refl; sized = rw take-length; lent = rw take-length l }

both_hold : (b c : Bool) → b && c ≡ true → b ≡ true
both_hold true c e = refl
both_hold false c e = e

is_convex : (ps : List Float) (ids classes : List ℕ) (i : ℕ) → ear ps ids classes i ≡ true → convex ids classes i ≡ true
unfolding ear
is_convex ps ids classes i e = both_hold (convex ids classes i) _ e

module _ {ps : List Float} {ids₀ classes₀ ids classes : List ℕ} {m : ℕ} (g : Held ps ids₀ classes₀ ids classes m) where
  -- an index that is found is at most m, and below it where it is not m
  pub found : {i : ℕ} → i ≡ lowest ps (take m ids) classes → (i ≡ m → ⊥) → i < m
  found e ne = let h = first_at_le (ear ps (take m ids) classes) (length (take m ids)) 0 in omega (arith, e, h, g.sized, ne)

  -- and convex
  pub found_convex : {i : ℕ} → i ≡ lowest ps (take m ids) classes → (i ≡ m → ⊥) → convex (take m ids) classes i ≡ true
  found_convex {i} e ne =
      let h = found e ne in
      is_convex ps (take m ids) classes i (rw e (first_has (ear ps (take m ids) classes) (length (take m ids)) 0 (omega (arith, e, h, g.sized))))

  -- as a search tells it
  pub lowest_some : {i : ℕ} → Loop.found (lowest ps (take m ids) classes) (length (take m ids)) ≡ Some i → (i ≡ lowest ps (take m ids) classes) × (i ≡ m → ⊥)
  lowest_some e = let s = found_some e in (sym s.0, λ q. omega (arith, s.1, g.sized, q))

  pub lowest_none : Loop.found (lowest ps (take m ids) classes) (length (take m ids)) ≡ None → m ≡ lowest ps (take m ids) classes
  lowest_none e = omega (arith, found_none e, first_at_le (ear ps (take m ids) classes) (length (take m ids)) 0, g.sized)

  -- what a cut at index i leaves
  module _ {i : ℕ} (h : i < m) (more : 3 < m) {ids' classes' part : List ℕ} (q : ids' ≡ part ++ drop m ids)
      (e : record { ids = part; classes = classes' } ≡ cut_in ps (left ids classes m) i) (kept : length part ≡ length (take m ids)) (also : length classes' ≡ length classes) where
    index : i < length (take m ids)
    index = rw g.sized h

    pub ids_left : take (m - 1) ids' ≡ without i (take m ids)
    ids_left = rw (q, ap (λ (s : Remaining). s.ids) e, append_assoc (without i (take m ids)) _ _) (take_at (without i (take m ids)) _ (m - 1) (rw (length_without i (take m ids) index, g.sized)))

    pub cut_left : left ids' classes' (m - 1) ≡ cut_at ps (left ids classes m) i
    unfolding cut_at
    cut_left = rw (ids_left, ap (λ (s : Remaining). s.classes) e)

    pub cut_held : Held ps ids₀ classes₀ ids' classes' (m - 1)
    cut_held =
        let k : length ids' ≡ length ids = rw (q, length-append, length-drop, kept, g.sized) (omega (arith, g.within)) in
        record {
          least = omega arith;
          within = omega (arith, g.within);
          ids_size = k ∙ g.ids_size;
          classes_size = also ∙ g.classes_size;
          sized = length-take-le (m - 1) ids' (omega (arith, g.within));
          lent = rw ids_left (relent (lent_without g.lent index).0 also);
        }
