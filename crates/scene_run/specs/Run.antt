-- What the scene program writes: ONE function from the input's bytes to the output's (SCOPE 28 to 30, 46). Definitions only.
use Rattle.std.specs.Prelude.{ℕ, zero, suc, ◌+◌, ◌≤◌, Bool, true, false, cond, List, [], ◌∷◌, ◌++◌, length, replicate, ltb, Float}
use Rattle.numbers.specs.F64 as F
use Rattle.scene_lines.specs.declared.Line.{Line}
use Rattle.scene_lines.specs.declared.Line.TheVariants as Line
use Rattle.scene_lines.specs.Lines.{line_text}
use Rattle.scene_records.specs.declared.Fault.{Fault}
use Rattle.scene_records.specs.Records.{body_field, fault_number}
use Rattle.scene_steps.specs.declared.Report.{Report}
use Rattle.scene_steps.specs.declared.Report.TheVariants as Report
use Rattle.scene_notes.specs.Noted.{Scene}
use Rattle.scene_steps.specs.Steps.{Step, step, Sized, wrote}
use Rattle.scene_steps.specs.Steps as S

-- ---- how a scene ends: whole, after so many records; too long; or at the record of an offset, for its fault at a field's offset, or by a call's own refusal, of
-- a list of positions with the index of one
pub data Ending : Type 0 where
  whole : ℕ → Ending
  too_long : Ending
  faulty : ℕ → Fault → ℕ → Ending
  refused : ℕ → ℕ → Ending
  refused_at : ℕ → ℕ → ℕ → Ending

-- SCOPE 30, 46: the last line is `end` or `refused`. The field of a scene that is too long is 65,536, of a call's own refusal the start of the body
abbrev pub last_line : Ending → Line
last_line (whole records) = Line.End records
last_line too_long = Line.Refused 28 0 65536
last_line (faulty at f field) = Line.Refused (fault_number f) at field
last_line (refused at k) = Line.Refused k at (body_field at)
last_line (refused_at at k index) = Line.RefusedAt k at (body_field at) index

-- ---- what a scene comes to: the lines of its records, and how it ends
pub record Told : Type 0 where
  pub lines : List Line
  pub ending : Ending

abbrev pub ends : Ending → Told
ends e = record { lines = []; ending = e }

abbrev pub goes : Line → Told → Told
goes line t = record { lines = line ∷ t.lines; ending = t.ending }

abbrev pub told_by : Step → Scene → (Scene → Told) → Told
told_by S.ended w rest = ends (whole w.records)
told_by (S.faulty f field) w rest = ends (faulty w.at f field)
told_by (S.refused k) w rest = ends (refused w.at k)
told_by (S.refused_at k index) w rest = ends (refused_at w.at k index)
told_by (wrote line next) w rest = goes line (rest next)

-- from a scene on, of at most k records. That more are never met, so that no scene ends for want of k, is stated in theorem_scene (specs/Endings: Ended)
unfoldable pub told_from : List ℕ → ℕ → Scene → Told
told_from s zero w = ends (whole w.records)
told_from s (suc k) w = told_by (step s w) w (told_from s k)

-- before the first record: a store of 1,024 corners
unfoldable pub blank_floats : List Float
blank_floats = replicate 3072 F.zero

unfoldable pub blank_codes : List ℕ
blank_codes = replicate 1024 0

abbrev pub starting : List Float → List Float → List ℕ → Scene
starting ps ns cs = record { at = 0; records = 0; areas = []; given = 0; used = 0; positions = ps; normals = ns; classes = cs }

-- all records: no input has more of them than bytes
abbrev pub told_of : List ℕ → List Float → List Float → List ℕ → Told
told_of s ps ns cs = told_from s (length s + 1) (starting ps ns cs)

-- SCOPE 46: too many bytes is judged first, with no line before it
unfoldable pub scene_told : List ℕ → Told
scene_told s = cond (ltb 65536 (length s)) (ends too_long) (told_of s blank_floats blank_floats blank_codes)

-- ---- the text: the lines one after the other, and the last one, after which nothing comes
unfoldable pub text_of : List Line → List ℕ
text_of [] = []
text_of (line ∷ rest) = line_text line ++ text_of rest

abbrev pub told_text : Told → List ℕ
told_text t = text_of t.lines ++ line_text (last_line t.ending)

unfoldable pub scene_text : List ℕ → List ℕ
scene_text s = told_text (scene_told s)

-- the line that a report prints, and whether the scene goes on after it
abbrev pub line_of : Report → ℕ → ℕ → Line
line_of Report.End records at = Line.End records
line_of (Report.Bad f field) records at = Line.Refused (fault_number f) at field
line_of (Report.Refused k) records at = Line.Refused k at (body_field at)
line_of (Report.RefusedAt k index) records at = Line.RefusedAt k at (body_field at) index
line_of (Report.Line line) records at = line

abbrev pub goes_on : Report → Bool
goes_on Report.End = false
goes_on (Report.Bad f field) = false
goes_on (Report.Refused k) = false
goes_on (Report.RefusedAt k index) = false
goes_on (Report.Line line) = true

-- room for the longest text: three bytes for each byte read, 21 more for each of 16 areas, and the last line
pub record Running (s : List ℕ) (positions normals classes out : ℕ) : Type 0 where
  pub small : length s ≤ 65536
  pub sized : Sized positions normals classes
  pub room : 196989 ≤ out
