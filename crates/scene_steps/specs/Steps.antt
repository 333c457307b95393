-- What one record comes to (SCOPE 28, 29, 46, 47, 52). Definitions only.
use Rattle.std.specs.Prelude.{ℕ, ◌+◌, ◌*◌, ◌≤◌, ◌<◌, ◌≡◌, ◌||◌, Bool, cond, List, [], ◌∷◌, ◌++◌, length, drop, get_or, eqb, Float}
use Rattle.wire.specs.Wire.{vec_of}
use Rattle.judge.specs.Judge.{first_refused}
use Rattle.loop_build.specs.Build.{Outcome}
use Rattle.loop_build.specs.Build as B
use Rattle.loop_ask.specs.Answers.{Told}
use Rattle.loop_ask.specs.Answers as Ask
use Rattle.scene_lines.specs.declared.Line.{Line}
use Rattle.scene_lines.specs.declared.Line.TheVariants as Line
use Rattle.scene_records.specs.declared.Fault.{Fault}
use Rattle.scene_records.specs.declared.Read.{Read}
use Rattle.scene_records.specs.declared.Read.TheVariants as Read
use Rattle.scene_records.specs.Records.{read_at, floats_at}
use Rattle.scene_store.specs.declared.Area.{Area}
use Rattle.scene_notes.specs.declared.Notes.{Notes}
use Rattle.scene_notes.specs.Judged.{Judged, Fine, Bad}
use Rattle.scene_steps.specs.declared.Stepped.{Stepped}
use Rattle.scene_steps.specs.declared.Report.{Report}
use Rattle.scene_steps.specs.declared.Report.TheVariants as Report
use Rattle.scene_notes.specs.Noted.{Scene, index_of, Kept, view, passed_notes, area_at, judge_area, judge_named}
use Rattle.scene_store.specs.Store.{nobody, built_at, triangle_count, pair_in}
use Rattle.scene_far.specs.Said.{Said}
use Rattle.scene_far.specs.Said as Said
use Rattle.scene_far.specs.Far.{said_in}

-- what a record comes to: there is none; its fault and that field's offset; a call's own refusal, of a list of positions with the index of the first that is
-- refused; or its line and the scene after it
pub data Step : Type 0 where
  ended : Step
  faulty : Fault → ℕ → Step
  refused : ℕ → Step
  refused_at : ℕ → ℕ → Step
  wrote : Line → Scene → Step

-- SCOPE 46: 3 and 4 are of one position in a list, which stands behind the area number of the record at an offset: `count` positions, of a place or a far one
abbrev pub of_positions : ℕ → Bool
of_positions k = eqb k 3 || eqb k 4

abbrev pub refused_index : List ℕ → ℕ → ℕ → ℕ
refused_index s at count = first_refused (floats_at s (at + 8) count) count

-- a call's own refusal: 3 and 4 with the index of that position
unfoldable pub refusal : ℕ → ℕ → Step
refusal k index = cond (of_positions k) (refused_at k index) (refused k)

-- the scene after a record of `size` bytes that brings no area
abbrev pub passed_by : ℕ → Scene → Scene
passed_by size w = record {
  at = w.at + size;
  records = w.records + 1;
  areas = w.areas;
  given = w.given;
  used = w.used;
  positions = w.positions;
  normals = w.normals;
  classes = w.classes;
}

-- ---- kind 1
-- the scene with one area more
abbrev pub with_area : Scene → Area → ℕ → Outcome → Scene
with_area w a count o = record {
  at = w.at + 8 + 24 * count;
  records = w.records + 1;
  areas = w.areas ++ (a ∷ []);
  given = w.given + count;
  used = w.used + a.header.count;
  positions = o.positions;
  normals = o.normals;
  classes = o.classes;
}

-- SCOPE 28: the ring goes into the still unused rest of one lent store
abbrev pub area_told : List ℕ → Scene → ℕ → ℕ → Outcome → B.Told → Step
area_told s w number count o (B.refused k) = refusal k (refused_index s w.at count)
area_told s w number count o (B.loop h) = wrote (Line.Area number h (triangle_count (area_at w.used number h) o.positions o.classes)) (with_area w (area_at w.used number h) count o)

abbrev pub area_out : List ℕ → Scene → ℕ → Outcome
area_out s w count = built_at (floats_at s (w.at + 8) count) w.used w.positions w.normals w.classes

unfoldable pub area_made : List ℕ → Scene → ℕ → ℕ → Step
area_made s w number count = area_told s w number count (area_out s w count) (area_out s w count).answer

-- SCOPE 29: a record's fault comes ahead of a call's own refusal
abbrev pub area_by : Judged → List ℕ → Scene → ℕ → ℕ → Step
area_by (Bad f field) s w number count = faulty f field
area_by Fine s w number count = area_made s w number count

unfoldable pub area_step : List ℕ → Scene → ℕ → ℕ → Step
area_step s w number count = area_by (judge_area w.areas w.given w.at number count) s w number count

-- the area of a number that was met
abbrev pub met : Scene → ℕ → Area
met w number = get_or w.areas (index_of w.areas number) nobody

-- ---- kinds 2 and 4, of an area that was met: where the place lies, or how far it is from the border
abbrev pub place_told : List ℕ → Scene → Said → Step
place_told s w (Said.Refused k) = refusal k (refused_index s w.at 1)
place_told s w (Said.Line line) = wrote line (passed_by 32 w)

abbrev pub said_of : Bool → List ℕ → Scene → ℕ → Said
said_of far s w number = said_in far number (met w number) w.positions w.normals w.classes (vec_of s (w.at + 8))

unfoldable pub place_met : Bool → List ℕ → Scene → ℕ → Step
place_met far s w number = place_told s w (said_of far s w number)

abbrev pub place_by : Judged → Bool → List ℕ → Scene → ℕ → Step
place_by (Bad f field) far s w number = faulty f field
place_by Fine far s w number = place_met far s w number

-- SCOPE 52: the refusals of kind 4 are those of kind 2, at the same fields and in the same order
unfoldable pub place_step : Bool → List ℕ → Scene → ℕ → Step
place_step far s w number = place_by (judge_named w.areas w.at (number ∷ [])) far s w number

-- ---- kind 3, of two areas that were met
abbrev pub pair_told : Scene → ℕ → ℕ → Told → Step
pair_told w number other (Ask.refused k) = refused k
pair_told w number other (Ask.answer n) = wrote (Line.Pair number other n) (passed_by 10 w)

unfoldable pub pair_met : Scene → ℕ → ℕ → Step
pair_met w number other = pair_told w number other (pair_in (met w number) (met w other) w.positions w.normals w.classes)

abbrev pub pair_by : Judged → Scene → ℕ → ℕ → Step
pair_by (Bad f field) w number other = faulty f field
pair_by Fine w number other = pair_met w number other

unfoldable pub pair_step : Scene → ℕ → ℕ → Step
pair_step w number other = pair_by (judge_named w.areas w.at (number ∷ other ∷ [])) w number other

-- ---- a record by its kind
abbrev pub step_by : Read → List ℕ → Scene → Step
step_by Read.End s w = ended
step_by (Read.Bad f field) s w = faulty f field
step_by (Read.Area number count) s w = area_step s w number count
step_by (Read.Place number far) s w = place_step far s w number
step_by (Read.Pair number other) s w = pair_step w number other

unfoldable pub step : List ℕ → Scene → Step
step s w = step_by (read_at s w.at) s w

-- ---- what holds between two records
pub record Good (s : List ℕ) (w : Scene) : Type 0 where
  pub small : length s ≤ 65536
  pub within : w.at ≤ length s
  pub counted : w.records ≤ w.at
  pub few : length w.areas ≤ 16
  pub used_given : w.used ≤ w.given
  pub given_most : w.given ≤ 1024
  pub inside : (i : ℕ) → i < length w.areas → (get_or w.areas i nobody).start + (get_or w.areas i nobody).header.count ≤ w.used

-- the program's answer to a record, with the store as it left it
abbrev pub report_step : Report → Scene → Step
report_step Report.End w = ended
report_step (Report.Bad f field) w = faulty f field
report_step (Report.Refused k) w = refused k
report_step (Report.RefusedAt k index) w = refused_at k index
report_step (Report.Line line) w = wrote line w

abbrev pub told_step : Stepped → List Float → List Float → List ℕ → Step
told_step r ps ns cs = report_step r.report (view r.next ps ns cs)

-- ---- what the program leaves of a record: its report, its notes, and the store
pub record StepOutcome : Type 0 where
  pub stepped : Stepped
  pub positions : List Float
  pub normals : List Float
  pub classes : List ℕ

abbrev pub outcome_with : Report → Notes → List Float → List Float → List ℕ → StepOutcome
outcome_with report next ps ns cs = record { stepped = record { report = report; next = next }; positions = ps; normals = ns; classes = cs }

-- the notes of a scene: its areas stand first in the table, and behind them what stood there before
abbrev pub notes_of : List Area → Scene → Notes
notes_of table w = record {
  at = w.at;
  records = w.records;
  met = length w.areas;
  given = w.given;
  used = w.used;
  areas = w.areas ++ drop (length w.areas) table;
}

-- SCOPE 27: on an end, a fault and a refusal the lent store is as it was, and so are the notes but for those of a refusal, which are `at_refusal`;
-- after a line all are those of the scene after it
abbrev pub outcome_of : Step → Notes → Notes → List Float → List Float → List ℕ → StepOutcome
outcome_of ended c at_refusal ps ns cs = outcome_with Report.End c ps ns cs
outcome_of (faulty f field) c at_refusal ps ns cs = outcome_with (Report.Bad f field) c ps ns cs
outcome_of (refused k) c at_refusal ps ns cs = outcome_with (Report.Refused k) at_refusal ps ns cs
outcome_of (refused_at k index) c at_refusal ps ns cs = outcome_with (Report.RefusedAt k index) at_refusal ps ns cs
outcome_of (wrote line next) c at_refusal ps ns cs = outcome_with (Report.Line line) (notes_of c.areas next) next.positions next.normals next.classes

-- of each kind. An area that is refused is not noted; a place, a pair or a far that is refused counts as read. No record comes after a refusal to read these notes
abbrev pub area_made_outcome : List ℕ → Notes → ℕ → ℕ → List Float → List Float → List ℕ → StepOutcome
area_made_outcome s c number count ps ns cs = outcome_of (area_made s (view c ps ns cs) number count) c c ps ns cs

abbrev pub area_outcome : List ℕ → Notes → ℕ → ℕ → List Float → List Float → List ℕ → StepOutcome
area_outcome s c number count ps ns cs = outcome_of (area_step s (view c ps ns cs) number count) c c ps ns cs

abbrev pub place_met_outcome : Bool → List ℕ → Notes → ℕ → List Float → List Float → List ℕ → StepOutcome
place_met_outcome far s c number ps ns cs = outcome_of (place_met far s (view c ps ns cs) number) c (passed_notes c 32) ps ns cs

abbrev pub place_outcome : Bool → List ℕ → Notes → ℕ → List Float → List Float → List ℕ → StepOutcome
place_outcome far s c number ps ns cs = outcome_of (place_step far s (view c ps ns cs) number) c (passed_notes c 32) ps ns cs

abbrev pub pair_met_outcome : Notes → ℕ → ℕ → List Float → List Float → List ℕ → StepOutcome
pair_met_outcome c number other ps ns cs = outcome_of (pair_met (view c ps ns cs) number other) c (passed_notes c 10) ps ns cs

abbrev pub pair_outcome : Notes → ℕ → ℕ → List Float → List Float → List ℕ → StepOutcome
pair_outcome c number other ps ns cs = outcome_of (pair_step (view c ps ns cs) number other) c (passed_notes c 10) ps ns cs

-- the notes at a refusal, by the record that was read
abbrev pub refused_notes : Read → Notes → Notes
refused_notes Read.End c = c
refused_notes (Read.Bad f field) c = c
refused_notes (Read.Area number count) c = c
refused_notes (Read.Place number far) c = passed_notes c 32
refused_notes (Read.Pair number other) c = passed_notes c 10

unfoldable pub step_outcome : List ℕ → Notes → List Float → List Float → List ℕ → StepOutcome
step_outcome s c ps ns cs = outcome_of (step s (view c ps ns cs)) c (refused_notes (read_at s c.at) c) ps ns cs

-- an answer told, as the program's report
unfoldable pub refusal_report : ℕ → ℕ → Report
refusal_report k index = cond (of_positions k) (Report.RefusedAt k index) (Report.Refused k)

abbrev pub place_report : Said → ℕ → Report
place_report (Said.Refused k) index = refusal_report k index
place_report (Said.Line line) index = Report.Line line

abbrev pub pair_report : Told → ℕ → ℕ → Report
pair_report (Ask.refused k) number other = Report.Refused k
pair_report (Ask.answer n) number other = Report.Line (Line.Pair number other n)

-- the store has 1,024 corners
pub record Sized (positions normals classes : ℕ) : Type 0 where
  pub of_positions_lem : positions ≡ 3072
  pub of_normals : normals ≡ 3072
  pub of_classes : classes ≡ 1024

-- what the taking of a record is handed: its bytes are all there
pub record Ready (s : List ℕ) (c : Notes) (size : ℕ) (ps ns : List Float) (cs : List ℕ) : Type 0 where
  pub good : Good s (view c ps ns cs)
  pub kept : Kept c
  pub sized : Sized (length ps) (length ns) (length cs)
  pub whole : c.at + size ≤ length s
