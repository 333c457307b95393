-- The theorem of demand 3, of every ring of three corners or more. Assumes nothing.
use Prim.Native.Nat.{ℕ, ◌+◌, ◌-◌, ◌*◌, ◌≤◌}
use mathlib.Core.Path.{◌≡◌, ◌∙◌}
use mathlib.Core.Bool.{true, false}
use mathlib.Core.List.{List}
use native.Mathlib.Omega.{arith}
use lib.Ieee.{Float}
use lib.ListN.{length}
use lib.Dec.{eqb}
use borrow.Author.Tests.{eq-eqb}
use Rattle.ring_theory.specs.Ring.{numbers}
use Rattle.ring_theory.proofs.Theorem.{counted, demand_3}
use Rattle.ring_theory.proofs.Numbers.{size, increasing}
use Rattle.ring_cut.specs.Cut.{whole_ring, cutting_of}
use Rattle.ring_cut.specs.Accepted.{CutBy, Eligible, Lowest}
use Rattle.ring_cut.proofs.Relations.{cuts, weaken, at_lowest}
use Rattle.ring_check.specs.Accepted.{accepted}
use Rattle.ring_check.specs.Demand.{Demand}
use Rattle.ring_check.proofs.Followings.{both}
use Rattle.ring_check.proofs.Accepting.{sound, complete}
use Rattle.ring_check.proofs.Sticking.{meets, sticks}

module _ (ps : List Float) (classes : List ℕ) (three : 3 ≤ length classes) where
  abbrev n : ℕ
  n = length (numbers (length classes))

  left_over : n ≡ n - 3 + 3
  left_over = omega (arith, size (length classes))

  only_ears : (tris : List ℕ) → accepted ps classes tris ≡ true → CutBy ps (Eligible ps) (whole_ring classes) tris
  unfolding accepted
  only_ears tris e = sound ps (n - 3) (whole_ring classes) tris left_over (both (eqb (length tris) (3 * (length classes - 2))) _ e).1

  all_ears : (tris : List ℕ) → CutBy ps (Eligible ps) (whole_ring classes) tris → accepted ps classes tris ≡ true
  unfolding accepted
  all_ears tris c =
      let k : length tris ≡ 3 * (length classes - 2) = counted (cuts c) ∙ rw (size (length classes)) in
      rw (eq-eqb (length tris) (3 * (length classes - 2)) k) (complete c (increasing (length classes)) (n - 3) left_over)

  lowest : (cutting_of ps classes).stuck ≡ false → CutBy ps (Lowest ps) (whole_ring classes) (cutting_of ps classes).triangles
  lowest e = at_lowest ps (n - 3) (whole_ring classes) left_over e

  pub demand : Demand ps classes
  demand = record {
    only_ears = only_ears;
    all_ears = all_ears;
    sides = λ tris e. demand_3 (length classes) three (cuts (only_ears tris e));
    lowest = lowest;
    stuck_meets = λ e. meets ps (n - 3) (whole_ring classes) left_over e;
    meets_stuck = λ m. sticks ps m.reached m.above m.none (n - 3) left_over;
    own_list = λ e. all_ears (cutting_of ps classes).triangles (weaken (λ s i l. l.eligible) (lowest e));
  }
