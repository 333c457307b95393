-- SCOPE 46: what stayed when the one refusal 10 became nine numbers with a field: for every input the text up to its last line, and on that line the record's
-- offset, are those of the reader with 10 in place of 20 to 28. Proved in proofs/Split.antt. Definitions only.
use Rattle.std.specs.Prelude.{ℕ, ◌≡◌, true, cond, List, [], ◌++◌, leb}
use Rattle.scene_words.specs.Bytes.{bytes}
use Rattle.scene_words.specs.Words.{decimal}
use Rattle.scene_lines.specs.declared.Line.{Line}
use Rattle.scene_lines.specs.declared.Line.TheVariants.{Area, Place, Pair, Far, End, Refused, RefusedAt}
use Rattle.scene_lines.specs.Lines.{end_line, line_text}
use Rattle.scene_run.specs.Texts.{is_last}
use Rattle.scene_run.specs.Run.{Ending, whole, too_long, faulty, refused, refused_at, scene_told, text_of, scene_text}

-- the last line as it was: 10 for every fault and for a scene that is too long, and the offset of the record alone
abbrev pub ten_line : ℕ → ℕ → List ℕ
ten_line number offset = bytes "refused " ++ decimal number ++ bytes " at " ++ decimal offset ++ bytes "\n"

abbrev pub last_with_ten : Ending → List ℕ
last_with_ten (whole records) = end_line records
last_with_ten too_long = ten_line 10 0
last_with_ten (faulty at f field) = ten_line 10 at
last_with_ten (refused at k) = ten_line k at
last_with_ten (refused_at at k index) = ten_line k at

-- the text of the same outcome with that last line
abbrev pub text_with_ten : List ℕ → List ℕ
text_with_ten s = text_of (scene_told s).lines ++ last_with_ten (scene_told s).ending

-- the same read off the last line: 10 in place of 20 to 28, the record's offset as it is, no field and no index
abbrev pub ten_for : ℕ → ℕ
ten_for k = cond (leb 20 k) 10 k

abbrev pub line_with_ten : Line → List ℕ
line_with_ten (Area number h triangles) = []
line_with_ten (Place number answer) = []
line_with_ten (Pair first second relation) = []
line_with_ten (Far number bits) = []
line_with_ten (End records) = end_line records
line_with_ten (Refused k offset field) = ten_line (ten_for k) offset
line_with_ten (RefusedAt k offset field index) = ten_line (ten_for k) offset

-- for every input
pub record Split (s : List ℕ) : Type 0 where
  pub before : List ℕ
  pub last : Line
  pub ends : is_last last ≡ true
  pub text : scene_text s ≡ before ++ line_text last
  pub with_ten : text_with_ten s ≡ before ++ line_with_ten last
