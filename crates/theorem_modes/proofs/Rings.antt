-- Rings as built, in either mode, so that each is computed once: whether it is reversed, and its classes. Assumes nothing.
use Prim.Native.Nat.{ℕ, ◌*◌}
use mathlib.Core.Path.{◌≡◌, refl}
use mathlib.Core.Bool.{Bool, true, false}
use mathlib.Core.List.{List, [], ◌∷◌, ◌++◌}
use lib.Dec.{ltb}
use lib.ListN.{drop}
use lib.Ieee.{Float}
use Rattle.minor_arc.specs.declared.Mode.{Mode}
use Rattle.ring_corners.specs.Corners.{reversal, ring_of, normals_of, classes_of, all_both}
use Rattle.loop_build.specs.Build as Build
use Rattle.theorem_settled.specs.Settled.{blank, blank_classes}
use Rattle.theorem_settled.proofs.Computing as Computing
use Rattle.theorem_modes.specs.Longs.{with_wide, with_down, in_the_other, in_the_one, built_in}

abbrev pub ring : Mode → List Float → ℕ → Bool → List ℕ → Build.Outcome
ring mode l n reversed classes = record {
  answer = Build.loop (Build.ring_header mode l n reversed);
  positions = ring_of l n reversed ++ drop (3 * n) (blank n);
  normals = normals_of l n reversed ++ drop (3 * n) (blank n);
  classes = classes ++ drop n (blank_classes n);
}

-- what has to be computed of a list
pub record Computed (l : List Float) (n : ℕ) (reversed : Bool) (classes : List ℕ) : Type 0 where
  pub fine : Build.refusal l (blank n) (blank n) (blank_classes n) ≡ 0
  pub counted : Build.opened_count l ≡ n
  pub more : ltb n 3 ≡ false
  pub turned : reversal l n ≡ reversed
  pub classed : classes_of l n reversed ≡ classes
  pub other : all_both classes ≡ false

pub as_built : (mode : Mode) (l : List Float) (n : ℕ) (reversed : Bool) (classes : List ℕ) → Computed l n reversed classes
    → Build.build_outcome mode l (blank n) (blank n) (blank_classes n) ≡ ring mode l n reversed classes
unfolding Build.made Build.build_outcome
as_built mode l n reversed classes c = simp (c.fine, c.counted, c.more, c.turned, c.classed, c.other)

pub with_wide_built : (mode : Mode) → built_in mode with_wide ≡ ring mode with_wide 3 false (0 ∷ 0 ∷ 0 ∷ [])
unfolding Computing.of_building
with_wide_built mode = as_built mode with_wide 3 false (0 ∷ 0 ∷ 0 ∷ []) (record { fine = refl; counted = refl; more = refl; turned = refl; classed = refl; other = refl })

pub with_down_built : (mode : Mode) → built_in mode with_down ≡ ring mode with_down 3 false (0 ∷ 0 ∷ 0 ∷ [])
unfolding Computing.of_building
with_down_built mode = as_built mode with_down 3 false (0 ∷ 0 ∷ 0 ∷ []) (record { fine = refl; counted = refl; more = refl; turned = refl; classed = refl; other = refl })

pub in_the_other_built : (mode : Mode) → built_in mode in_the_other ≡ ring mode in_the_other 3 true (0 ∷ 0 ∷ 0 ∷ [])
unfolding Computing.of_building
in_the_other_built mode = as_built mode in_the_other 3 true (0 ∷ 0 ∷ 0 ∷ []) (record { fine = refl; counted = refl; more = refl; turned = refl; classed = refl; other = refl })

pub in_the_one_built : (mode : Mode) → built_in mode in_the_one ≡ ring mode in_the_one 3 false (0 ∷ 0 ∷ 0 ∷ [])
unfolding Computing.of_building
in_the_one_built mode = as_built mode in_the_one 3 false (0 ∷ 0 ∷ 0 ∷ []) (record { fine = refl; counted = refl; more = refl; turned = refl; classed = refl; other = refl })
