-- SCOPE 44: the pairs of sine and cosine that a list's turn sum is made of. Definitions only.
use Rattle.std.specs.Prelude.{ℕ, zero, suc, List, [], ◌∷◌, Float}
use Rattle.ring_turns.specs.Blocks.{sine_at, cosine_at}
use Rattle.exact_angles.specs.Steady.{Pair}

-- of k edges from edge i on, in the order of the sum; n is how many positions the opened list has
unfoldable pub pairs_from : List Float → ℕ → ℕ → ℕ → List Pair
pairs_from l n zero i = []
pairs_from l n (suc k) i = record { y = sine_at l n i; x = cosine_at l n i } ∷ pairs_from l n k (suc i)

abbrev pub turn_pairs : List Float → ℕ → List Pair
turn_pairs l n = pairs_from l n n 0
