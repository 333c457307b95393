-- SCOPE 52: what it is for bytes to be 64 bits in hexadecimal, and that those of a scene's `far` lines are. Proved in proofs/Hexadecimals.antt. Definitions only.
use Rattle.std.specs.Prelude.{ℕ, ◌+◌, ◌-◌, ◌*◌, ◌≤◌, ◌<◌, ◌≡◌, cond, List, [], ◌∷◌, ◌⊎◌, length, get_or, ltb}
use Rattle.scene_words.specs.Words.{hex}

-- the digit of a byte: 0 to 9 from 48 on, A to F from 65 on
abbrev pub digit_of : ℕ → ℕ
digit_of byte = cond (ltb byte 58) (byte - 48) (byte - 55)

-- the value of digits read left to right: sixteen times what was before, plus the digit
unfoldable pub hex_value_from : ℕ → List ℕ → ℕ
hex_value_from before [] = before
hex_value_from before (byte ∷ rest) = hex_value_from (16 * before + digit_of byte) rest

-- the bytes are the number n in hexadecimal, as sixteen digits in upper case
pub record RightHex (n : ℕ) (l : List ℕ) : Type 0 where
  pub sixteen : length l ≡ 16
  pub digits : (i : ℕ) → i < 16 → ((48 ≤ get_or l i 0) × (get_or l i 0 ≤ 57)) ⊎ ((65 ≤ get_or l i 0) × (get_or l i 0 ≤ 70))
  pub value : hex_value_from 0 l ≡ n

-- a number below 2^64 is written right
abbrev pub Hexadecimals : Type 0
Hexadecimals = (n : ℕ) → n < 18446744073709551616 → RightHex n (hex n)
