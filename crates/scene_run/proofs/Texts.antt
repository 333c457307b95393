-- A scene's text goes on line by line to one that ends it: each record has eight bytes or more, so that no text breaks off, and each number at most five digits,
-- or in hexadecimal sixteen. Assumes nothing.
use Prim.Native.Nat.{ℕ, zero, suc, ◌+◌, ◌≤◌, ◌<◌}
use mathlib.Core.Path.{◌≡◌, refl, subst}
use mathlib.Core.Bool.{Bool, true, false, cond}
use mathlib.Core.List.{List, [], ◌∷◌}
use native.Mathlib.Nat.{not-suc-le-zero}
use native.Mathlib.Omega.{arith}
use lib.ListN.{length, get_or}
use lib.Dec.{ltb}
use borrow.Author.Tests.{ltb-false}
use Rattle.scene_words.specs.Words.{decimal, hex}
use Rattle.scene_words.specs.Decimals.{Right}
use Rattle.scene_words.specs.Hexadecimals.{RightHex}
use Rattle.scene_words.proofs.Decimals.{decimals}
use Rattle.scene_words.proofs.Hexadecimals.{hexadecimals}
use Rattle.scene_lines.specs.declared.Line.{Line}
use Rattle.scene_lines.specs.declared.Line.TheVariants.{End}
use Rattle.scene_records.specs.declared.Fault.{Fault}
use Rattle.scene_records.specs.declared.Fault.TheVariants.{CutShort, UnknownKind, WrongLength, NoNumber, Repeated, NotMet, ManyAreas, ManyPositions}
use Rattle.scene_records.specs.Records.{fault_number}
use Rattle.scene_notes.specs.Noted.{Scene}
use Rattle.scene_steps.specs.Steps.{Step, ended, faulty, refused, refused_at, wrote, step, Good}
use Rattle.scene_steps.proofs.Goods.{onward}
use Rattle.scene_run.specs.Run.{Ending, whole, too_long, Told, last_line, ends, goes, told_by, told_from, starting, told_of, blank_floats, blank_codes, scene_told, scene_text}
use Rattle.scene_run.specs.Run as Run
use Rattle.scene_run.specs.Texts.{Each, is_last, numbers_of, bits_of, Printed, Texts}
use Rattle.scene_run.proofs.Numbers.{Small, StepSmall, step_small}

-- ---- numbers of at most five digits
printed : (l : List ℕ) → Each (λ (n : ℕ). n < 100000) l → Each (λ (n : ℕ). Right n (decimal n)) l
printed [] h = tt
printed (n ∷ l) h = (decimals n h.0, printed l h.1)

-- bits of at most sixteen
shown : (l : List ℕ) → Each (λ (n : ℕ). n < 18446744073709551616) l → Each (λ (n : ℕ). RightHex n (hex n)) l
shown [] h = tt
shown (n ∷ l) h = (hexadecimals n h.0, shown l h.1)

-- no last line has bits
no_bits : (e : Ending) → Each (λ (n : ℕ). RightHex n (hex n)) (bits_of (last_line e))
no_bits (whole records) = tt
no_bits too_long = tt
no_bits (Run.faulty at f field) = tt
no_bits (Run.refused at k) = tt
no_bits (Run.refused_at at k index) = tt

-- ---- what is told from a record on, of which `records` were read before
record LinedFrom (records : ℕ) (t : Told) : Type 0 where
  none_before : Each (λ (line : Line). is_last line ≡ false) t.lines
  right_before : Each Printed t.lines
  right_last : Printed (last_line t.ending)
  counted : (n : ℕ) → last_line t.ending ≡ End n → n ≡ records + length t.lines

-- every ending is a last line
pub is_last_lem : (e : Ending) → is_last (last_line e) ≡ true
is_last_lem (whole records) = refl
is_last_lem too_long = refl
is_last_lem (Run.faulty at f field) = refl
is_last_lem (Run.refused at k) = refl
is_last_lem (Run.refused_at at k index) = refl

-- the last line alone
whole_alone : (records : ℕ) → records < 100000 → LinedFrom records (ends (whole records))
whole_alone records h = record {
  none_before = tt;
  right_before = tt;
  right_last = record { decimals = (decimals records h, tt); hexadecimals = tt };
  counted = λ n e. let q : records ≡ n = cc in omega arith;
}

-- one that no `end` is
refused_alone : (records : ℕ) (e : Ending) → Each (λ (n : ℕ). n < 100000) (numbers_of (last_line e)) → ((n : ℕ) → last_line e ≡ End n → ⊥) → LinedFrom records (ends e)
refused_alone records e h other = record {
  none_before = tt;
  right_before = tt;
  right_last = record { decimals = printed (numbers_of (last_line e)) h; hexadecimals = no_bits e };
  counted = λ n q. absurd (other n q);
}

-- a line ahead of the others
line_ahead : (records : ℕ) (line : Line) (t : Told) → Small line → LinedFrom (records + 1) t → LinedFrom records (goes line t)
line_ahead records line t f r = record {
  none_before = (f.not_last, r.none_before);
  right_before = (record { decimals = printed (numbers_of line) f.numbers; hexadecimals = shown (bits_of line) f.bits }, r.right_before);
  right_last = r.right_last;
  counted = λ n e. omega (arith, r.counted n e);
}

-- a fault's number has two digits
fault_small : (f : Fault) → fault_number f < 100000
fault_small CutShort = omega arith
fault_small UnknownKind = omega arith
fault_small WrongLength = omega arith
fault_small NoNumber = omega arith
fault_small Repeated = omega arith
fault_small NotMet = omega arith
fault_small ManyAreas = omega arith
fault_small ManyPositions = omega arith

-- what holds ahead of the first record
pub good_start : (s : List ℕ) → length s ≤ 65536 → Good s (starting blank_floats blank_floats blank_codes)
good_start s h = record {
  small = h;
  within = omega arith;
  counted = omega arith;
  few = omega arith;
  used_given = omega arith;
  given_most = omega arith;
  inside = λ i q. absurd (not-suc-le-zero q);
}

module _ (s : List ℕ) (bytes : (i : ℕ) → i < length s → get_or s i 0 < 256) where
  -- one record, and what is told after it
  module _ (w : Scene) (g : Good s w) (rest : Scene → Told) (after : (v : Scene) → Good s v → w.at + 8 ≤ v.at → LinedFrom v.records (rest v)) where
    here : w.at + 6 < 100000
    here = omega (arith, g.within, g.small)

    by_step : (x : Step) → step s w ≡ x → StepSmall x → LinedFrom w.records (told_by x w rest)
    by_step ended e f = whole_alone w.records (omega (arith, g.counted, g.within, g.small))
    by_step (faulty fault field) e f =
        refused_alone w.records (Run.faulty w.at fault field) (fault_small fault, (omega (arith, here), (f, tt))) (λ n q. let z : ◌≡◌ {A = ℕ} 0 1 = cc in omega arith)
    by_step (refused k) e f =
        refused_alone w.records (Run.refused w.at k) (omega (arith, f), (omega (arith, here), (omega (arith, here), tt))) (λ n q. let z : ◌≡◌ {A = ℕ} 0 1 = cc in omega arith)
    by_step (refused_at k index) e f =
        refused_alone w.records (Run.refused_at w.at k index) (omega (arith, f.0), (omega (arith, here), (omega (arith, here), (omega (arith, f.1), tt))))
        (λ n q. let z : ◌≡◌ {A = ℕ} 0 1 = cc in omega arith)
    by_step (wrote line next) e f =
        let o = onward g e in
        line_ahead w.records line (rest next) f (subst (λ (n : ℕ). LinedFrom n (rest next)) o.one_more (after next o.good o.forth))

  -- there is always fuel left: more of it than bytes
  from : (k : ℕ) (w : Scene) → Good s w → length s < w.at + k → LinedFrom w.records (told_from s k w)
  unfolding told_from
  from zero w g h = absurd (let z : 1 ≤ 0 = omega (arith, g.within) in not-suc-le-zero z)
  from (suc k) w g h = by_step w g (told_from s k) (λ v q f. from k v q (omega arith)) (step s w) refl (step_small s w bytes g)

  by_length : (b : Bool) → ltb 65536 (length s) ≡ b → LinedFrom 0 (cond b (ends too_long) (told_of s blank_floats blank_floats blank_codes))
  by_length true e = refused_alone 0 too_long (omega arith, (omega arith, (omega arith, tt))) (λ n q. let z : ◌≡◌ {A = ℕ} 0 1 = cc in omega arith)
  by_length false e = from (length s + 1) (starting blank_floats blank_floats blank_codes) (good_start s (ltb-false _ _ e)) (omega arith)

  lined : LinedFrom 0 (scene_told s)
  unfolding scene_told
  lined = by_length (ltb 65536 (length s)) refl

pub texts : Texts
unfolding scene_text
texts s bytes =
    let r = lined s bytes in
    record {
      before = (scene_told s).lines;
      last = last_line (scene_told s).ending;
      whole = refl;
      ends = is_last_lem (scene_told s).ending;
      none_before = r.none_before;
      right_before = r.right_before;
      right_last = r.right_last;
      counted = λ n e. omega (arith, r.counted n e);
    }
