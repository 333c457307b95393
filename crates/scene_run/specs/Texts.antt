-- SCOPE 30, 52: a scene's text is whole lines, of which the last alone is `end` or `refused`, and every decimal and every hexadecimal in them is right. Proved in
-- proofs/Texts.antt. Definitions only.
use Rattle.std.specs.Prelude.{ℕ, ◌<◌, ◌≡◌, Bool, true, false, List, [], ◌∷◌, ◌++◌, length, get_or}
use Rattle.scene_words.specs.Words.{decimal, hex}
use Rattle.scene_words.specs.Decimals.{Right}
use Rattle.scene_words.specs.Hexadecimals.{RightHex}
use Rattle.scene_lines.specs.declared.Line.{Line}
use Rattle.scene_lines.specs.declared.Line.TheVariants.{Area, Place, Pair, Far, End, Refused, RefusedAt}
use Rattle.scene_lines.specs.Lines.{line_text}
use Rattle.scene_run.specs.Run.{text_of, scene_text}

-- something holds of each entry of a list
abbrev pub Each : {A : Type 0} → (A → Type 0) → List A → Type 0
Each P [] = Unit {0}
Each P (x ∷ l) = P x × Each P l

-- the lines that end a text
abbrev pub is_last : Line → Bool
is_last (Area number h triangles) = false
is_last (Place number answer) = false
is_last (Pair first second relation) = false
is_last (Far number bits) = false
is_last (End records) = true
is_last (Refused number offset field) = true
is_last (RefusedAt number offset field index) = true

-- the numbers that a line prints in decimal, as they come in it
abbrev pub numbers_of : Line → List ℕ
numbers_of (Area number h triangles) = number ∷ h.count ∷ triangles ∷ []
numbers_of (Place number answer) = number ∷ []
numbers_of (Pair first second relation) = first ∷ second ∷ []
numbers_of (Far number bits) = number ∷ []
numbers_of (End records) = records ∷ []
numbers_of (Refused number offset field) = number ∷ offset ∷ field ∷ []
numbers_of (RefusedAt number offset field index) = number ∷ offset ∷ field ∷ index ∷ []

-- the bits that a line prints in hexadecimal
abbrev pub bits_of : Line → List ℕ
bits_of (Area number h triangles) = []
bits_of (Place number answer) = []
bits_of (Pair first second relation) = []
bits_of (Far number bits) = bits ∷ []
bits_of (End records) = []
bits_of (Refused number offset field) = []
bits_of (RefusedAt number offset field index) = []

-- each of them is what its digits say
pub record Printed (line : Line) : Type 0 where
  pub decimals : Each (λ (n : ℕ). Right n (decimal n)) (numbers_of line)
  pub hexadecimals : Each (λ (n : ℕ). RightHex n (hex n)) (bits_of line)

-- the text is these lines and a last one, after which nothing comes; an `end` counts them, one line for each record
pub record Lined (text : List ℕ) : Type 0 where
  pub before : List Line
  pub last : Line
  pub whole : text ≡ text_of before ++ line_text last
  pub ends : is_last last ≡ true
  pub none_before : Each (λ (line : Line). is_last line ≡ false) before
  pub right_before : Each Printed before
  pub right_last : Printed last
  pub counted : (n : ℕ) → last ≡ End n → n ≡ length before

-- for every input, however long; that its entries are bytes is asked since an area's number is read from two of them
abbrev pub Texts : Type 0
Texts = (s : List ℕ) → ((i : ℕ) → i < length s → get_or s i 0 < 256) → Lined (scene_text s)
