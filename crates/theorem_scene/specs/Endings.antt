-- SCOPE 30, 46, 52: how a scene ends is what its last record reached comes to; its last line has the nine numbers 20 to 28 and the calls' own 2, 3, 4 and 7, and no
-- other; the index of 3 and 4 is that of the first position refused. Proved in proofs/Endings.antt. Definitions only.
use Rattle.std.specs.Prelude.{ℕ, ◌+◌, ◌≤◌, ◌≡◌, List, [], ◌∷◌, ◌++◌, length}
use Rattle.judge.specs.Why.{Stands}
use Rattle.scene_lines.specs.declared.Line.{Line}
use Rattle.scene_lines.specs.declared.Line.TheVariants.{End, Refused, RefusedAt}
use Rattle.scene_records.specs.declared.Fault.{Fault}
use Rattle.scene_records.specs.declared.Fault.TheVariants.{NoNumber, NotMet}
use Rattle.scene_records.specs.Records.{floats_at}
use Rattle.scene_notes.specs.Noted.{Scene}
use Rattle.scene_steps.specs.Steps as S
use Rattle.scene_steps.specs.Steps.{Step, step, wrote}
use Rattle.scene_run.specs.Run.{Ending, whole, faulty, refused, refused_at, last_line, blank_floats, blank_codes, starting, scene_told}
use Rattle.theorem_scene.specs.Why.{IsArea, IsPlace}

-- ---- the record reached: all before it came to these lines
pub data Reached (s : List ℕ) : List Line → Scene → Type 0 where
  start : Reached s [] (starting blank_floats blank_floats blank_codes)
  on : {lines : List Line} {w v : Scene} {line : Line} → Reached s lines w → step s w ≡ wrote line v → Reached s (lines ++ (line ∷ [])) v

-- what a record comes to that ends a scene, and how that ends it
pub data Stops (w : Scene) : Step → Ending → Type 0 where
  at_end : Stops w S.ended (whole w.records)
  at_fault : (f : Fault) (field : ℕ) → Stops w (S.faulty f field) (faulty w.at f field)
  at_refusal : (k : ℕ) → Stops w (S.refused k) (refused w.at k)
  at_position : (k index : ℕ) → Stops w (S.refused_at k index) (refused_at w.at k index)

-- a scene that is not too long ends at the record that its lines lead to
pub record Ended (s : List ℕ) : Type 0 where
  pub last : Scene
  pub reached : Reached s (scene_told s).lines last
  pub stops : Stops last (step s last) (scene_told s).ending

-- ---- the numbers of a last line: 10 is none of them, nor 1, 5, 6, 8 or 9; nor 11, as all areas are built in one mode (SCOPE 54)
pub data Numbered : Line → Type 0 where
  none : (records : ℕ) → Numbered (End records)
  of_scene : (k offset field : ℕ) → 20 ≤ k → k ≤ 28 → Numbered (Refused k offset field)
  two : (offset field : ℕ) → Numbered (Refused 2 offset field)
  seven : (offset field : ℕ) → Numbered (Refused 7 offset field)
  three : (offset field index : ℕ) → Numbered (RefusedAt 3 offset field index)
  four : (offset field index : ℕ) → Numbered (RefusedAt 4 offset field index)

-- ---- the index of 3 and 4, in the list as given: an area's, closing position counted, or that of a place or a far, which has one position
pub data Listed (s : List ℕ) (at : ℕ) : ℕ → Type 0 where
  area : (count : ℕ) → IsArea s at count → Listed s at count
  place : IsPlace s at → Listed s at 1

pub record Indexed (s : List ℕ) (at k index : ℕ) : Type 0 where
  pub count : ℕ
  pub listed : Listed s at count
  -- the index is below the list's length, every earlier position is refused by neither, the one there by k
  pub stands : Stands (floats_at s (at + 8) count) count k index

-- ---- SCOPE 52: what a place or a far comes to: 23 or 25, its own 3 or 4 with index 0, or its line; the areas are loops as built, so that no other refusal is met
pub data PlaceStep : Step → Type 0 where
  no_number : (field : ℕ) → PlaceStep (S.faulty NoNumber field)
  not_met : (field : ℕ) → PlaceStep (S.faulty NotMet field)
  not_finite : PlaceStep (S.refused_at 3 0)
  off_range : PlaceStep (S.refused_at 4 0)
  answered : (line : Line) (v : Scene) → PlaceStep (wrote line v)

-- for every input
pub record Endings : Type 0 where
  pub ended : (s : List ℕ) → length s ≤ 65536 → Ended s
  pub numbers : (s : List ℕ) → Numbered (last_line (scene_told s).ending)
  pub index : (s : List ℕ) (at k i : ℕ) → (scene_told s).ending ≡ refused_at at k i → Indexed s at k i
  pub places : (s : List ℕ) → length s ≤ 65536 → (lines : List Line) (w : Scene) → Reached s lines w → IsPlace s w.at → PlaceStep (step s w)
