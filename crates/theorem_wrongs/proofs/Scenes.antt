-- Wrong readers of scenes: what the definition says of each scene is computed, and is not what they say. Assumes nothing.
use Prim.Native.Nat.{ℕ, ◌<◌}
use mathlib.Core.Path.{◌≡◌, refl, sym, ap, ◌∙◌}
use mathlib.Core.List.{List, [], ◌∷◌}
use native.Mathlib.Omega.{arith}
use lib.ListN.{length, get_or}
use lib.Ieee.{of_bits, add, mul, le}
use borrow.Author.Tests.{lt-ltb}
use Rattle.laws.specs.Loop.{first_of, first_at, flat}
use Rattle.judge.specs.Judge.{vector_fault, fault_of, first_refused}
use Rattle.wire.specs.Wire.{u64_of, floats_at}
use Rattle.loop_build.specs.Build.{list_fault, build_outcome}
use Rattle.loop_build.specs.Build as Build
use Rattle.scene_words.specs.Bytes.{bytes}
use Rattle.scene_words.specs.Words.{decimal, hex}
use Rattle.scene_lines.specs.declared.Line.TheVariants.{Far}
use Rattle.scene_lines.specs.Lines.{refused_line, refused_at_line, far_line, line_text}
use Rattle.scene_records.specs.declared.Fault.TheVariants.{Repeated, ManyPositions}
use Rattle.scene_records.specs.Records.{fault_number, area_at, place_at, pair_at, kind_at, read_at}
use Rattle.scene_store.specs.Store.{built_at}
use Rattle.scene_notes.specs.Noted.{index_of, judge_area, first_zero, judge_numbers}
use Rattle.scene_steps.specs.Steps.{Step, ended, faulty, refused, refused_at, wrote, refusal, area_made, area_step, place_step, pair_step, step}
use Rattle.scene_run.specs.Run.{told_from, scene_told, text_of, scene_text}
use Rattle.theorem_wrongs.specs.Scenes.{pair_of, empty_area, area_of_one, x_bytes, nan_bytes, area_of_two, far_of_x, far_of24, short_of_kind9, sixteen, all_given, OfScenes}

-- ---- two texts with another byte at an index are not the same, nor two faults with another number or field
differ : (i a b : ℕ) (l m : List ℕ) → get_or l i 0 ≡ a → get_or m i 0 ≡ b → (a ≡ b → ⊥) → l ≡ m → ⊥
differ i a b l m p q n e = n (sym p ∙ ap (λ (x : List ℕ). get_or x i 0) e ∙ q)

abbrev number_of : Step → ℕ
number_of ended = 0
number_of (faulty f field) = fault_number f
number_of (refused k) = k
number_of (refused_at k index) = k
number_of (wrote line next) = 0

abbrev field_of : Step → ℕ
field_of ended = 0
field_of (faulty f field) = field
field_of (refused k) = 0
field_of (refused_at k index) = 0
field_of (wrote line next) = 0

-- ---- what a scene is computed with: a record as it is read, the numbers that one names, an area as it is judged, and a list that is refused
unfoldable of_reading : ℕ
unfolding scene_text scene_told told_from text_of step read_at kind_at
of_reading = 0

unfoldable of_naming : ℕ
unfolding of_reading place_at place_step pair_at pair_step judge_numbers first_zero first_at index_of
of_naming = 0

unfoldable of_areas : ℕ
unfolding of_reading area_at area_step judge_area first_at index_of
of_areas = 0

unfoldable of_lists : ℕ
unfolding of_areas area_made built_at build_outcome Build.refusal list_fault first_of fault_of vector_fault refusal first_refused floats_at flat u64_of of_bits add mul le
of_lists = 0

-- ---- what each scene comes to
pair_9_0 : scene_text (pair_of 9 0) ≡ refused_line 23 0 8
unfolding of_naming
pair_9_0 = refl

pair_9_8 : scene_text (pair_of 9 8) ≡ refused_line 25 0 6
unfolding of_naming
pair_9_8 = refl

one_byte : scene_text (0 ∷ []) ≡ refused_line 20 0 1
unfolding of_reading
one_byte = refl

short_9 : scene_text short_of_kind9 ≡ refused_line 20 0 6
unfolding of_reading
short_9 = refl

seventeenth : step empty_area sixteen ≡ faulty Repeated 6
unfolding of_areas
seventeenth = refl

one_more : step area_of_one all_given ≡ faulty ManyPositions 0
unfolding of_areas
one_more = refl

x_nan : scene_text (area_of_two x_bytes nan_bytes) ≡ refused_at_line 3 0 6 1
unfolding of_lists
x_nan = refl

nan_nan : scene_text (area_of_two nan_bytes nan_bytes) ≡ refused_at_line 3 0 6 0
unfolding of_lists
nan_nan = refl

far_x : scene_text far_of_x ≡ refused_line 25 0 6
unfolding of_naming
far_x = refl

far_24 : scene_text far_of24 ≡ refused_line 22 0 0
unfolding of_naming
far_24 = refl

-- the line of the rule's own example
far_line_lem : line_text (Far 1 0x3fcf_6b55_1652_38b9) ≡ bytes "far 1 3FCF6B55165238B9\n"
unfolding far_line decimal hex flat
far_line_lem = refl

too_long_lem : (s : List ℕ) → 65536 < length s → scene_text s ≡ refused_line 28 0 65536
unfolding scene_text scene_told text_of
too_long_lem s h = rw (lt-ltb _ _ h)

pub of_scenes : OfScenes
unfolding refused_line refused_at_line decimal
of_scenes = record {
  unmet_before_zero = λ e. differ 9 51 53 _ _ refl refl (λ n. omega (arith, n)) (sym pair_9_0 ∙ e);
  second_number_first = λ e. differ 16 54 56 _ _ refl refl (λ n. omega (arith, n)) (sym pair_9_8 ∙ e);
  many_before_repeated = λ e. let n : ◌≡◌ {A = ℕ} 24 26 = ap number_of (sym seventeenth ∙ e) in omega arith;
  positions_at_the_number = λ e. let n : ◌≡◌ {A = ℕ} 0 6 = ap field_of (sym one_more ∙ e) in omega arith;
  short_at_the_record = λ e. differ 16 49 48 _ _ refl refl (λ n. omega (arith, n)) (sym one_byte ∙ e);
  kind_of_a_short_record = λ e. differ 9 48 49 _ _ refl refl (λ n. omega (arith, n)) (sym short_9 ∙ e);
  too_long_at_0 = λ s h e. differ 16 54 48 _ _ refl refl (λ n. omega (arith, n)) (sym (too_long_lem s h) ∙ e);
  index_from_1 = λ e. differ 17 49 50 _ _ refl refl (λ n. omega (arith, n)) (sym x_nan ∙ e);
  last_faulty = λ e. differ 17 48 49 _ _ refl refl (λ n. omega (arith, n)) (sym nan_nan ∙ e);
  ten_for_all = λ e. differ 8 50 49 _ _ refl refl (λ n. omega (arith, n)) (sym short_9 ∙ e);
  far_unknown = λ e. differ 9 53 49 _ _ refl refl (λ n. omega (arith, n)) (sym far_x ∙ e);
  far_of_24_bytes = λ e. differ 9 50 53 _ _ refl refl (λ n. omega (arith, n)) (sym far_24 ∙ e);
  far_in_lower_case = λ e. differ 7 70 102 _ _ refl refl (λ n. omega (arith, n)) (sym far_line_lem ∙ e);
  far_lowest_first = λ e. differ 6 51 57 _ _ refl refl (λ n. omega (arith, n)) (sym far_line_lem ∙ e);
}
