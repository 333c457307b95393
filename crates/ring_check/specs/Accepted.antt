-- SCOPE 20: a list of triples is accepted if there are n - 2, each but the last an eligible ear of the ring then left, in the order previous, this, next,
-- and the last is that ring's three, from its first. To any other the answer is no. Definitions only.
use Rattle.std.specs.Prelude.{ℕ, zero, suc, ◌-◌, ◌*◌, Bool, true, false, ◌&&◌, List, [], ◌∷◌, length, get_or, eqb, ltb, Float}
use Rattle.laws.specs.Loop.{first_at}
use Rattle.ring_theory.specs.Ring.{prev, next}
use Rattle.ring_ears.specs.Ears.{ear, Remaining, cut_at}
use Rattle.ring_cut.specs.Cut.{whole_ring}

-- the index of the number b, or the length of the list if it is not on the ring left
abbrev pub is_number : List ℕ → ℕ → ℕ → Bool
is_number ids b i = eqb (get_or ids i 0) b

abbrev pub index_of : List ℕ → ℕ → ℕ
index_of ids b = first_at (is_number ids b) (length ids) 0

-- a stands before index i, and c after it
abbrev pub between : List ℕ → ℕ → ℕ → ℕ → Bool
between ids i a c = eqb (get_or ids (prev ids i) 0) a && eqb (get_or ids (next ids i) 0) c

-- index i is one of the ring left, between a and c, and an eligible ear
unfoldable pub fits_at : List Float → Remaining → ℕ → ℕ → ℕ → Bool
fits_at ps s i a c = (ltb i (length s.ids) && between s.ids i a c) && ear ps s.ids s.classes i

-- on from index i, where the triple fits
abbrev pub onward : Bool → ℕ → (ℕ → Bool) → Bool
onward true i on = on i
onward false i on = false

unfoldable pub same_numbers : List ℕ → List ℕ → Bool
same_numbers [] [] = true
same_numbers [] (b ∷ m) = false
same_numbers (a ∷ l) [] = false
same_numbers (a ∷ l) (b ∷ m) = eqb a b && same_numbers l m

-- k cuts along the list, and then the ring left
unfoldable pub accepts : List Float → ℕ → Remaining → List ℕ → Bool
accepts ps zero s tris = same_numbers s.ids tris
accepts ps (suc k) s [] = false
accepts ps (suc k) s (a ∷ []) = false
accepts ps (suc k) s (a ∷ b ∷ []) = false
accepts ps (suc k) s (a ∷ b ∷ c ∷ rest) = onward (fits_at ps s (index_of s.ids b) a c) (index_of s.ids b) (λ i. accepts ps k (cut_at ps s i) rest)

-- of what is left of a ring: three are left after m - 3 cuts
abbrev pub accepts_from : List Float → Remaining → List ℕ → Bool
accepts_from ps s tris = accepts ps (length s.ids - 3) s tris

-- a list for the whole ring
unfoldable pub accepted : List Float → List ℕ → List ℕ → Bool
accepted ps classes tris = eqb (length tris) (3 * (length classes - 2)) && accepts_from ps (whole_ring classes) tris
