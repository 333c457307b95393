-- Wrong readers of scenes (SCOPE 46, 47, 52): each writes, at one scene, a last line or comes to a fault that the definition does not have there, or writes the line
-- of a far otherwise. Proved in proofs/Scenes.antt. Definitions only.
use Rattle.std.specs.Prelude.{ℕ, ◌<◌, ◌≡◌, List, [], ◌∷◌, ◌++◌, length, replicate}
use Rattle.minor_arc.specs.declared.Mode.TheVariants.{Plain}
use Rattle.loop_header.specs.Loops.{empty_header}
use Rattle.scene_store.specs.declared.Area.{Area}
use Rattle.scene_records.specs.declared.Fault.TheVariants.{ManyAreas, ManyPositions}
use Rattle.scene_words.specs.Bytes.{bytes}
use Rattle.scene_lines.specs.declared.Line.TheVariants.{Far}
use Rattle.scene_lines.specs.Lines.{refused_line, refused_at_line, line_text}
use Rattle.scene_notes.specs.Noted.{Scene}
use Rattle.scene_steps.specs.Steps.{faulty, step}
use Rattle.scene_run.specs.Run.{scene_text}

-- ---- the records, as bytes
-- the pair of two numbers below 256
abbrev pub pair_of : ℕ → ℕ → List ℕ
pair_of first second = 4 ∷ 0 ∷ 0 ∷ 0 ∷ 3 ∷ 0 ∷ first ∷ 0 ∷ second ∷ 0 ∷ []

-- area 1 with no position
abbrev pub empty_area : List ℕ
empty_area = 2 ∷ 0 ∷ 0 ∷ 0 ∷ 1 ∷ 0 ∷ 1 ∷ 0 ∷ []

-- area 1 with one position, whatever it is
abbrev pub area_of_one : List ℕ
area_of_one = 26 ∷ 0 ∷ 0 ∷ 0 ∷ 1 ∷ 0 ∷ 1 ∷ 0 ∷ replicate 24 0

-- X, and a position whose first component is NaN
abbrev pub x_bytes : List ℕ
x_bytes = 0 ∷ 0 ∷ 0 ∷ 0 ∷ 0 ∷ 0 ∷ 240 ∷ 63 ∷ replicate 16 0

abbrev pub nan_bytes : List ℕ
nan_bytes = 0 ∷ 0 ∷ 0 ∷ 0 ∷ 0 ∷ 0 ∷ 248 ∷ 127 ∷ replicate 16 0

-- area 1 with two positions
abbrev pub area_of_two : List ℕ → List ℕ → List ℕ
area_of_two p q = 50 ∷ 0 ∷ 0 ∷ 0 ∷ 1 ∷ 0 ∷ 1 ∷ 0 ∷ p ++ q

-- a far of area 1 at X; and one that has the position alone
abbrev pub far_of_x : List ℕ
far_of_x = 26 ∷ 0 ∷ 0 ∷ 0 ∷ 4 ∷ 0 ∷ 1 ∷ 0 ∷ x_bytes

abbrev pub far_of24 : List ℕ
far_of24 = 24 ∷ 0 ∷ 0 ∷ 0 ∷ 4 ∷ 0 ∷ replicate 24 1

-- six bytes of a record of kind 9, whose body is missing
abbrev pub short_of_kind9 : List ℕ
short_of_kind9 = 4 ∷ 0 ∷ 0 ∷ 0 ∷ 9 ∷ 0 ∷ []

-- ---- what was met: sixteen areas, all of number 1; or none, and 1,024 positions given
abbrev pub area_one : Area
area_one = record { number = 1; start = 0; header = empty_header Plain }

abbrev pub sixteen : Scene
sixteen = record { at = 0; records = 16; areas = replicate 16 area_one; given = 0; used = 0; positions = []; normals = []; classes = [] }

abbrev pub all_given : Scene
all_given = record { at = 0; records = 0; areas = []; given = 1024; used = 0; positions = []; normals = []; classes = [] }

pub record OfScenes : Type 0 where
  -- 25 ahead of 23: the pair 9 0 has its second number zero, and neither was met
  pub unmet_before_zero : scene_text (pair_of 9 0) ≡ refused_line 25 0 6 → ⊥
  -- the second number of a pair looked at first, of two that were not met
  pub second_number_first : scene_text (pair_of 9 8) ≡ refused_line 25 0 8 → ⊥
  -- 26 ahead of 24: a 17th area whose number was used
  pub many_before_repeated : step empty_area sixteen ≡ faulty ManyAreas 6 → ⊥
  -- 27's field the number, and not the length
  pub positions_at_the_number : step area_of_one all_given ≡ faulty ManyPositions 6 → ⊥
  -- 20's field the record, and not the input's end
  pub short_at_the_record : scene_text (0 ∷ []) ≡ refused_line 20 0 0 → ⊥
  -- a kind looked at in a record that is cut short
  pub kind_of_a_short_record : scene_text short_of_kind9 ≡ refused_line 21 0 4 → ⊥
  -- 28's field 0
  pub too_long_at_0 : (s : List ℕ) → 65536 < length s → scene_text s ≡ refused_line 28 0 0 → ⊥
  -- an index counted from 1: the second of two positions is the first refused
  pub index_from_1 : scene_text (area_of_two x_bytes nan_bytes) ≡ refused_at_line 3 0 6 2 → ⊥
  -- the index of the last faulty position
  pub last_faulty : scene_text (area_of_two nan_bytes nan_bytes) ≡ refused_at_line 3 0 6 1 → ⊥
  -- one refusal 10 for every fault
  pub ten_for_all : scene_text short_of_kind9 ≡ refused_line 10 0 6 → ⊥
  -- kind 4 not known, where its area was not met
  pub far_unknown : scene_text far_of_x ≡ refused_line 21 0 4 → ⊥
  -- kind 4 with a body of 24 bytes, of which the first two are taken for a number that was not met
  pub far_of_24_bytes : scene_text far_of24 ≡ refused_line 25 0 6 → ⊥
  -- the digits of a far in lower case
  pub far_in_lower_case : line_text (Far 1 0x3fcf_6b55_1652_38b9) ≡ bytes "far 1 3fcf6b55165238b9\n" → ⊥
  -- its digits with the lowest first
  pub far_lowest_first : line_text (Far 1 0x3fcf_6b55_1652_38b9) ≡ bytes "far 1 9B83256155B6FCF3\n" → ⊥
