-- SCOPE 30, 52: the words and numbers of a scene's lines, as bytes. Definitions only.
use Rattle.std.specs.Prelude.{ℕ, ◌+◌, ◌-◌, ◌*◌, ◌/◌, ◌%◌, ◌^◌, ◌≡◌, Bool, cond, List, [], ◌∷◌, ◌++◌, length, ltb, eqb}
use Rattle.std.proofs.lemmas.List.Edits.{sets}
use Rattle.laws.specs.Loop.{flat}
use Rattle.loop_header.specs.declared.State.{State}
use Rattle.loop_header.specs.declared.State.TheVariants.{Empty, Full, Ring}
use Rattle.scene_words.specs.Bytes.{bytes}

-- the digit of n at a power of ten; none where n is below it
abbrev pub digit : ℕ → ℕ → List ℕ
digit n power = cond (ltb n power) [] ((48 + n / power % 10) ∷ [])

-- a number in decimal: no number of a scene has more than five digits
unfoldable pub decimal : ℕ → List ℕ
decimal n = digit n 10000 ++ digit n 1000 ++ digit n 100 ++ digit n 10 ++ ((48 + n % 10) ∷ [])

-- SCOPE 52: a hexadecimal digit's byte: 48 is that of 0, 65 that of A
abbrev pub hex_byte : ℕ → ℕ
hex_byte digit = cond (ltb digit 10) (48 + digit) (55 + digit)

-- the digit at an index from the left is four bits, of which 60 are below the first
abbrev pub hex_at : ℕ → ℕ → List ℕ
hex_at bits i = hex_byte (bits / 2 ^ (60 - 4 * i) % 16) ∷ []

-- 64 bits as sixteen digits, the highest first
unfoldable pub hex : ℕ → List ℕ
hex bits = flat (hex_at bits) 16 0

-- the state of an area, whose ring may be mute
abbrev pub ring_word : Bool → List ℕ
ring_word mute = cond mute (bytes " mute") (bytes " ring")

abbrev pub state_word : State → Bool → List ℕ
state_word Empty mute = bytes " empty"
state_word Full mute = bytes " full"
state_word Ring mute = ring_word mute

-- the two marks
abbrev pub turned_word : Bool → List ℕ
turned_word reversed = cond reversed (bytes " reversed") (bytes " kept")

abbrev pub sure_word : Bool → List ℕ
sure_word weak = cond weak (bytes " weak ") (bytes " steady ")

-- where a place lies, by the answer's number
abbrev pub place_word : ℕ → List ℕ
place_word k = cond (eqb k 0) (bytes " outside\n") (cond (eqb k 1) (bytes " inside\n") (bytes " mute\n"))

-- the relation by its number; from 3 on first
abbrev pub later_word : ℕ → List ℕ
later_word k = cond (eqb k 3) (bytes " containing\n") (cond (eqb k 4) (bytes " within\n") (bytes " equal\n"))

abbrev pub relation_word : ℕ → List ℕ
relation_word k =
    cond (eqb k 0) (bytes " disjoint\n")
    (cond (eqb k 1) (bytes " touching\n") (cond (eqb k 2) (bytes " intersecting\n") (later_word k)))

-- a text is written at an offset of a lent slice, and `next` is the offset after it
pub record Wrote (before : List ℕ) (at : ℕ) (text after : List ℕ) (next : ℕ) : Type 0 where
  pub text_there : after ≡ sets before at text
  pub next_offset : next ≡ at + length text
