-- Lists that cut rings of four and five, and what the theorem says of one. Assumes nothing.
use mathlib.Core.Path.{◌≡◌, refl}
use mathlib.Core.List.{[], ◌∷◌}
use native.Mathlib.Omega.{arith}
use Rattle.laws.specs.Loop.{flat}
use Rattle.ring_theory.specs.Ring.{numbers}
use Rattle.ring_theory.specs.Cuts.{Cuts, last, cut}
use Rattle.ring_theory.specs.Demand3.{same, passes, lies, runs, holders, Demand3}
use Rattle.ring_theory.proofs.Theorem.{demand_3}

-- the two lists for four corners in SCOPE 37
at_first : Cuts (numbers 4) (3 ∷ 0 ∷ 1 ∷ 1 ∷ 2 ∷ 3 ∷ [])
unfolding flat
at_first = cut {ids = numbers 4} 0 (omega arith) (omega arith) (last refl)

at_second : Cuts (numbers 4) (0 ∷ 1 ∷ 2 ∷ 0 ∷ 2 ∷ 3 ∷ [])
unfolding flat
at_second = cut {ids = numbers 4} 1 (omega arith) (omega arith) (last refl)

of_five : Cuts (numbers 5) (3 ∷ 4 ∷ 0 ∷ 0 ∷ 1 ∷ 2 ∷ 0 ∷ 2 ∷ 3 ∷ [])
unfolding flat
of_five = cut {ids = numbers 5} 4 (omega arith) (omega arith) (cut {ids = numbers 4} 1 (omega arith) (omega arith) (last refl))

met : Demand3 4 (3 ∷ 0 ∷ 1 ∷ 1 ∷ 2 ∷ 3 ∷ [])
met = demand_3 4 (omega arith) at_first

-- the counts compute: the loop side 3 to 0, the inner side between 1 and 3, and a pair that is no side
counts : (holders 3 0 (3 ∷ 0 ∷ 1 ∷ 1 ∷ 2 ∷ 3 ∷ []) ≡ 1) × (holders 1 3 (3 ∷ 0 ∷ 1 ∷ 1 ∷ 2 ∷ 3 ∷ []) ≡ 2)
    × (runs 3 1 (3 ∷ 0 ∷ 1 ∷ 1 ∷ 2 ∷ 3 ∷ []) ≡ 1) × (holders 0 2 (3 ∷ 0 ∷ 1 ∷ 1 ∷ 2 ∷ 3 ∷ []) ≡ 0)
unfolding same passes lies runs holders
counts = (refl, refl, refl, refl)
