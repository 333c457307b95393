-- Up to its last line a scene's text is that of the reader with 10 in place of 20 to 28, and so is the record's offset on it: the calls' own numbers are below 20.
-- Assumes nothing.
use Prim.Native.Nat.{ℕ}
use mathlib.Core.Path.{◌≡◌, refl, sym, ap}
use mathlib.Core.List.{List, ◌++◌}
use mathlib.Core.Logic.{◌⊎◌, inl, inr}
use Rattle.scene_records.specs.declared.Fault.{Fault}
use Rattle.scene_records.specs.declared.Fault.TheVariants.{CutShort, UnknownKind, WrongLength, NoNumber, Repeated, NotMet, ManyAreas, ManyPositions}
use Rattle.scene_records.specs.Records.{fault_number}
use Rattle.scene_run.specs.Run.{Ending, whole, too_long, faulty, refused, refused_at, last_line, scene_told, text_of, scene_text}
use Rattle.scene_run.proofs.Texts.{is_last_lem}
use Rattle.theorem_scene.specs.Split.{ten_line, last_with_ten, ten_for, line_with_ten, Split}
use Rattle.theorem_scene.proofs.Endings.{EndWhy, end_why}

ten_for_lem : (f : Fault) → ten_for (fault_number f) ≡ 10
ten_for_lem CutShort = refl
ten_for_lem UnknownKind = refl
ten_for_lem WrongLength = refl
ten_for_lem NoNumber = refl
ten_for_lem Repeated = refl
ten_for_lem NotMet = refl
ten_for_lem ManyAreas = refl
ten_for_lem ManyPositions = refl

-- one of two numbers below 20 stays
stays : {a b : ℕ} (k : ℕ) → ten_for a ≡ a → ten_for b ≡ b → (k ≡ a) ⊎ (k ≡ b) → ten_for k ≡ k
stays k p q (inl e) = rw e p
stays k p q (inr e) = rw e q

last_split : (e : Ending) → EndWhy e → last_with_ten e ≡ line_with_ten (last_line e)
last_split (whole records) y = refl
last_split too_long y = refl
last_split (faulty at f field) y = ap (λ (k : ℕ). ten_line k at) (sym (ten_for_lem f))
last_split (refused at k) y = ap (λ (n : ℕ). ten_line n at) (sym (stays k refl refl y))
last_split (refused_at at k index) y = ap (λ (n : ℕ). ten_line n at) (sym (stays k refl refl y))

pub split : (s : List ℕ) → Split s
unfolding scene_text
split s = record {
  before = text_of (scene_told s).lines;
  last = last_line (scene_told s).ending;
  ends = is_last_lem (scene_told s).ending;
  text = refl;
  with_ten = ap (λ (l : List ℕ). text_of (scene_told s).lines ++ l) (last_split (scene_told s).ending (end_why s));
}
