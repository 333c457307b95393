-- A ring of corners as the list of its ring numbers, its indexes counted round, and a corner cut off. Definitions only.
use Rattle.std.specs.Prelude.{ℕ, suc, ◌+◌, ◌-◌, ◌%◌, ◌<◌, List, [], ◌∷◌, ◌++◌, length, get_or, take, drop}
use Rattle.laws.specs.Loop.{flat}

abbrev pub one_number : ℕ → List ℕ
one_number i = i ∷ []

-- the whole ring of n corners: 0, 1, .., n - 1
abbrev pub numbers : ℕ → List ℕ
numbers n = flat one_number n 0

-- each number of the list is below n
abbrev pub Below : ℕ → List ℕ → Type 0
Below n ids = (j : ℕ) → j < length ids → get_or ids j 0 < n

-- the indexes before and after i
abbrev pub prev : List ℕ → ℕ → ℕ
prev ids i = (i + length ids - 1) % length ids

abbrev pub next : List ℕ → ℕ → ℕ
next ids i = (i + 1) % length ids

-- a list without its element at i
abbrev pub without {ℓ} : {A : Type ℓ} → ℕ → List A → List A
without i l = take i l ++ drop (suc i) l

-- SCOPE 17: the triple at index i, previous, this, next
abbrev pub ear_of : List ℕ → ℕ → List ℕ
ear_of ids i = get_or ids (prev ids i) 0 ∷ get_or ids i 0 ∷ get_or ids (next ids i) 0 ∷ []
