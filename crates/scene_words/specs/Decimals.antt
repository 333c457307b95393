-- SCOPE 30: what it is for bytes to be a number in decimal, and that the numbers of a scene's lines are. Proved in
-- proofs/Decimals.antt. Definitions only.
use Rattle.std.specs.Prelude.{ℕ, ◌+◌, ◌-◌, ◌*◌, ◌≤◌, ◌<◌, ◌≡◌, List, [], ◌∷◌, length, get_or}
use Rattle.scene_words.specs.Words.{decimal}

-- the value of digits read left to right: ten times what was before, plus the digit, whose byte is 48 for 0
unfoldable pub value_from : ℕ → List ℕ → ℕ
value_from before [] = before
value_from before (byte ∷ rest) = value_from (10 * before + (byte - 48)) rest

-- the bytes are the number n in decimal
pub record Right (n : ℕ) (l : List ℕ) : Type 0 where
  -- one digit or more, and nothing but digits
  pub some : 0 < length l
  pub digits : (i : ℕ) → i < length l → (48 ≤ get_or l i 0) × (get_or l i 0 ≤ 57)
  -- no leading zero, unless it is the one digit
  pub no_leading_zero : 1 < length l → 49 ≤ get_or l 0 0
  pub value : value_from 0 l ≡ n

-- a number of at most five digits is written right; of more, only its last five would be
abbrev pub Decimals : Type 0
Decimals = (n : ℕ) → n < 100000 → Right n (decimal n)
