-- What a scene knows between two records, what the program notes of it, and which faults of a record these tell (SCOPE 28, 29, 46, 47). Definitions only.
use Rattle.std.specs.Prelude.{ℕ, ◌+◌, ◌*◌, ◌≤◌, ◌<◌, ◌≡◌, Bool, cond, List, length, take, get_or, set, replicate, ltb, leb, eqb, Float}
use Rattle.laws.specs.Loop.{first_at}
use Rattle.loop_header.specs.declared.Header.{Header}
use Rattle.scene_records.specs.declared.Fault.TheVariants.{NoNumber, Repeated, NotMet, ManyAreas, ManyPositions}
use Rattle.scene_records.specs.Records.{length_field, body_field, number_field}
use Rattle.scene_store.specs.declared.Area.{Area}
use Rattle.scene_notes.specs.declared.Notes.{Notes}
use Rattle.scene_notes.specs.Judged.{Judged, Fine, Bad}
use Rattle.scene_store.specs.Store.{nobody}

-- the offset of the next record, how many were read, the areas met, the positions given, and the store with the corners used of it
pub record Scene : Type 0 where
  pub at : ℕ
  pub records : ℕ
  pub areas : List Area
  pub given : ℕ
  pub used : ℕ
  pub positions : List Float
  pub normals : List Float
  pub classes : List ℕ

-- the index of a number among the areas met, or how many there are
unfoldable pub index_of : List Area → ℕ → ℕ
index_of areas number = first_at (λ (i : ℕ). eqb (get_or areas i nobody).number number) (length areas) 0

-- the table of areas: sixteen entries, of which the first `met` are taken
pub record Kept (c : Notes) : Type 0 where
  pub few : c.met ≤ 16
  pub size : length c.areas ≡ 16

-- what the program notes, as a scene: the first `met` areas of its table are those met
abbrev pub areas_of : Notes → List Area
areas_of c = take c.met c.areas

abbrev pub view : Notes → List Float → List Float → List ℕ → Scene
view c ps ns cs = record {
  at = c.at;
  records = c.records;
  areas = areas_of c;
  given = c.given;
  used = c.used;
  positions = ps;
  normals = ns;
  classes = cs;
}

-- nothing is noted yet: no area stands in the table
unfoldable pub no_areas : List Area
no_areas = replicate 16 nobody

abbrev pub fresh_notes : Notes
fresh_notes = record { at = 0; records = 0; met = 0; given = 0; used = 0; areas = no_areas }

abbrev pub passed_notes : Notes → ℕ → Notes
passed_notes c size = record { at = c.at + size; records = c.records + 1; met = c.met; given = c.given; used = c.used; areas = c.areas }

-- an area may be noted
pub record Addable (c : Notes) (a : Area) (count : ℕ) : Type 0 where
  pub room : c.met < 16
  pub end : c.at + (8 + 24 * count) ≤ 65536
  pub few : c.records ≤ 65536
  pub given : c.given + count ≤ 1024
  pub corners : c.used + a.header.count ≤ 1024

-- the area that a header comes in as, its ring in the store from the corner `start` on
abbrev pub area_at : ℕ → ℕ → Header → Area
area_at start number h = record { number = number; start = start; header = h }

abbrev pub added_notes : Notes → Area → ℕ → Notes
added_notes c a count = record {
  at = c.at + 8 + 24 * count;
  records = c.records + 1;
  met = c.met + 1;
  given = c.given + count;
  used = c.used + a.header.count;
  areas = set c.areas c.met a;
}

-- SCOPE 46: whether an area may come in: not with number 0, a number that was met, as the 17th area, or with positions above 1,024 in all. Its number stands
-- where the body starts
unfoldable pub judge_area : List Area → ℕ → ℕ → ℕ → ℕ → Judged
judge_area areas given at number count =
    cond (eqb number 0) (Bad NoNumber (body_field at))
    (cond (ltb (index_of areas number) (length areas)) (Bad Repeated (body_field at))
    (cond (leb 16 (length areas)) (Bad ManyAreas (body_field at))
    (cond (ltb 1024 (given + count)) (Bad ManyPositions (length_field at)) Fine)))

-- the index of the first of a record's numbers that is zero, or how many there are
abbrev pub is_zero : List ℕ → ℕ → Bool
is_zero numbers i = eqb (get_or numbers i 0) 0

unfoldable pub first_zero : List ℕ → ℕ
first_zero numbers = first_at (is_zero numbers) (length numbers) 0

-- whether the number at an index was not met: no area has it; and as the program knows it, by the index of each number among the areas met
abbrev pub is_unmet : List Area → List ℕ → ℕ → Bool
is_unmet areas numbers i = leb (length areas) (index_of areas (get_or numbers i 0))

abbrev pub is_past : ℕ → List ℕ → ℕ → Bool
is_past met indexes i = leb met (get_or indexes i 0)

unfoldable pub first_past : ℕ → List ℕ → ℕ
first_past met indexes = first_at (is_past met indexes) (length indexes) 0

-- SCOPE 47: the numbers that a place or a pair names: the first that is zero, else the first that was not met
unfoldable pub judge_numbers : (ℕ → Bool) → ℕ → List ℕ → Judged
judge_numbers unmet at numbers =
    cond (ltb (first_zero numbers) (length numbers)) (Bad NoNumber (number_field at (first_zero numbers)))
    (cond (ltb (first_at unmet (length numbers) 0) (length numbers)) (Bad NotMet (number_field at (first_at unmet (length numbers) 0))) Fine)

abbrev pub judge_named : List Area → ℕ → List ℕ → Judged
judge_named areas at numbers = judge_numbers (is_unmet areas numbers) at numbers
