-- SCOPE 17: the lowest eligible ear of what is left of a ring. Definitions only.
use Rattle.std.specs.Prelude.{ℕ, List, length, Float}
use Rattle.laws.specs.Loop.{first_at}
use Rattle.ring_ears.specs.Ears.{ear}

-- its index, or the length of the list if there is none
abbrev pub lowest : List Float → List ℕ → List ℕ → ℕ
lowest ps ids classes = first_at (ear ps ids classes) (length ids) 0
