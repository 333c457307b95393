-- A scene taken record by record: what holds between two records, with what is written so far. Assumes nothing.
use Prim.Native.Nat.{ℕ, suc, ◌+◌, ◌-◌, ◌*◌, ◌≤◌, ◌<◌}
use mathlib.Core.Path.{◌≡◌, refl, sym, ap, ◌∙◌}
use mathlib.Core.Bool.{Bool, true, false, false≢true}
use mathlib.Core.List.{List, ◌++◌, append_assoc}
use native.Mathlib.Nat.{not-suc-le-zero}
use native.Mathlib.Omega.{arith}
use lib.ListN.{length}
use lib.Ieee.{Float}
use borrow.Author.Tests.{lt-ltb, le-ltb}
use Rattle.laws.proofs.Loops.{left}
use Rattle.scene_lines.specs.declared.Line.{Line}
use Rattle.scene_lines.specs.Lines.{line_text, refused_line, room_of}
use Rattle.scene_words.specs.Words.{Wrote}
use Rattle.scene_words.proofs.Writes.{then}
use Rattle.scene_records.proofs.Sizes.{within}
use Rattle.scene_notes.specs.declared.Notes.{Notes}
use Rattle.scene_steps.specs.declared.Report.{Report}
use Rattle.scene_steps.specs.declared.Report.TheVariants as Report
use Rattle.scene_steps.specs.declared.Stepped.{Stepped}
use Rattle.scene_notes.specs.Noted.{Scene, Kept, areas_of, view, fresh_notes}
use Rattle.scene_steps.specs.Steps.{Step, wrote, step, report_step, told_step, Ready}
use Rattle.scene_run.specs.Run.{Told, last_line, told_by, told_from, starting, told_of, text_of, told_text, line_of, goes_on, Running, blank_floats, blank_codes, scene_told, scene_text}
use Rattle.scene_notes.proofs.Tables.{kept_fresh}
use Rattle.scene_steps.proofs.Goods.{Onward, onward}

-- ---- the text of a report
module _ (v w : Scene) (rest : Scene → Told) where
  text_stop : (o : Report) → goes_on o ≡ false → told_text (told_by (report_step o v) w rest) ≡ line_text (line_of o w.records w.at)
  unfolding text_of
  text_stop Report.End h = refl
  text_stop (Report.Bad f field) h = refl
  text_stop (Report.Refused k) h = refl
  text_stop (Report.RefusedAt k index) h = refl
  text_stop (Report.Line l) h = absurd (false≢true (sym h))

  text_on : (o : Report) → goes_on o ≡ true → told_text (told_by (report_step o v) w rest) ≡ line_text (line_of o w.records w.at) ++ told_text (rest v)
  unfolding text_of
  text_on Report.End h = absurd (false≢true h)
  text_on (Report.Bad f field) h = absurd (false≢true h)
  text_on (Report.Refused k) h = absurd (false≢true h)
  text_on (Report.RefusedAt k index) h = absurd (false≢true h)
  text_on (Report.Line l) h = append_assoc (line_text l) (text_of (rest v).lines) (line_text (last_line (rest v).ending))

wrote_on : (v : Scene) (o : Report) (records at : ℕ) → goes_on o ≡ true → report_step o v ≡ wrote (line_of o records at) v
wrote_on v Report.End records at h = absurd (false≢true h)
wrote_on v (Report.Bad f field) records at h = absurd (false≢true h)
wrote_on v (Report.Refused k) records at h = absurd (false≢true h)
wrote_on v (Report.RefusedAt k index) records at h = absurd (false≢true h)
wrote_on v (Report.Line l) records at h = refl

one_record : (s : List ℕ) (k : ℕ) (w : Scene) → told_from s (suc k) w ≡ told_by (step s w) w (told_from s k)
unfolding told_from
one_record s k w = refl

-- ---- the loop's invariant: what is written from here on ends the whole text
pub record Going (s out₀ : List ℕ) (ps₀ ns₀ : List Float) (cs₀ : List ℕ) (c : Notes) (written : ℕ) (ps ns : List Float) (cs out : List ℕ) : Type 0 where
  pub ready : Ready s c 0 ps ns cs
  pub room : 196989 ≤ length out
  pub bound : written ≤ 3 * c.at + 21 * length (areas_of c)
  pub same_out : length out ≡ length out₀
  pub same_positions : length ps ≡ length ps₀
  pub same_normals : length ns ≡ length ns₀
  pub same_classes : length cs ≡ length cs₀
  pub goes : (o : List ℕ) (r : ℕ) → Wrote out written (told_text (told_from s (length s + 1 - c.records) (view c ps ns cs))) o r → Wrote out₀ 0 (told_text (told_of s ps₀ ns₀ cs₀)) o r

first : {c : Notes} (ps ns : List Float) (cs : List ℕ) → c ≡ fresh_notes → view c ps ns cs ≡ starting ps ns cs
first ps ns cs f = rw f

pub begin : (s out : List ℕ) (ps ns : List Float) (cs : List ℕ) {c : Notes} → Running s (length ps) (length ns) (length cs) (length out) → c ≡ fresh_notes → Going s out ps ns cs c 0 ps ns cs out
begin s out ps ns cs {c} q f =
    let none : c.records ≡ 0 = ap (λ (n : Notes). n.records) f in
    let e : length s + 1 - c.records ≡ length s + 1 = omega arith in
    record {
      ready = record {
        good = rw (first ps ns cs f) record {
          small = q.small;
          within = omega arith;
          counted = omega arith;
          few = omega arith;
          used_given = omega arith;
          given_most = omega arith;
          inside = λ i h. absurd (not-suc-le-zero h);
        };
        kept = rw f kept_fresh;
        sized = q.sized;
        whole = let start : c.at ≡ 0 = ap (λ (n : Notes). n.at) f in omega arith;
      };
      room = q.room;
      bound = omega arith;
      same_out = refl;
      same_positions = refl;
      same_normals = refl;
      same_classes = refl;
      goes = λ o r h. rw (e, first ps ns cs f) at h;
    }

module _ {s out₀ : List ℕ} {ps₀ ns₀ : List Float} {cs₀ : List ℕ} {c : Notes} {written : ℕ} {ps ns : List Float} {cs out : List ℕ} (g : Going s out₀ ps₀ ns₀ cs₀ c written ps ns cs out)
    (r : Stepped) (ps' ns' : List Float) (cs' : List ℕ) (e : told_step r ps' ns' cs' ≡ step s (view c ps ns cs))
    {line : Line} (el : line ≡ line_of r.report c.records c.at)
    {out' : List ℕ} {next : ℕ} (w : Wrote out written (line_text line) out' next) where
  text : told_from s (length s + 1 - c.records) (view c ps ns cs) ≡ told_by (told_step r ps' ns' cs') (view c ps ns cs) (told_from s (length s + 1 - suc c.records))
  text =
      ap (λ (k : ℕ). told_from s k (view c ps ns cs)) (left (length s + 1) c.records (omega (arith, g.ready.good.counted, g.ready.good.within)))
      ∙ one_record s (length s + 1 - suc c.records) (view c ps ns cs)
      ∙ ap (λ (x : Step). told_by x (view c ps ns cs) (told_from s (length s + 1 - suc c.records))) (sym e)

  pub ends : {b : Bool} → b ≡ goes_on r.report → b ≡ false → Wrote out₀ 0 (told_text (told_of s ps₀ ns₀ cs₀)) out' next
  ends p z = g.goes out' next (rw (ap told_text text ∙ text_stop (view r.next ps' ns' cs') (view c ps ns cs) (told_from s (length s + 1 - suc c.records)) r.report (sym p ∙ z)) (rw el at w))

  module _ {b : Bool} (p : b ≡ goes_on r.report) (z : b ≡ true) where
    pub after : Onward s (line_of r.report c.records c.at) (view c ps ns cs) (view r.next ps' ns' cs')
    after = onward g.ready.good (sym e ∙ wrote_on (view r.next ps' ns' cs') r.report c.records c.at (sym p ∙ z))

    module _ (k : Kept r.next) (m : next ≤ written + room_of line) (q : length out' ≡ length out) (qp : length ps' ≡ length ps) (qn : length ns' ≡ length ns) (qc : length cs' ≡ length cs) where
      onto : (o : List ℕ) (d : ℕ) → Wrote out' next (told_text (told_from s (length s + 1 - r.next.records) (view r.next ps' ns' cs'))) o d → Wrote out₀ 0 (told_text (told_of s ps₀ ns₀ cs₀)) o d
      onto o d h =
          let n : length s + 1 - r.next.records ≡ (length s + 1 - suc c.records) = omega (arith, after.one_more) in
          g.goes o d (rw (ap told_text text ∙ text_on (view r.next ps' ns' cs') (view c ps ns cs) (told_from s (length s + 1 - suc c.records)) r.report (sym p ∙ z)) (then (rw el at w) (rw n at h)))

      pub on : Going s out₀ ps₀ ns₀ cs₀ r.next next ps' ns' cs' out'
      on = record {
        ready = record {
          good = after.good;
          kept = k;
          sized = record {
            of_positions_lem = qp ∙ g.ready.sized.of_positions_lem;
            of_normals = qn ∙ g.ready.sized.of_normals;
            of_classes = qc ∙ g.ready.sized.of_classes;
          };
          whole = omega (arith, after.good.within);
        };
        room = rw q g.room;
        bound = omega (arith, rw el at m, g.bound, after.spare);
        same_out = q ∙ g.same_out;
        same_positions = qp ∙ g.same_positions;
        same_normals = qn ∙ g.same_normals;
        same_classes = qc ∙ g.same_classes;
        goes = onto;
      }

-- ---- the whole text, by the input's length
module _ (s : List ℕ) {o o' : List ℕ} {r : ℕ} where
  pub too_many : 65536 < length s → Wrote o 0 (refused_line 28 0 65536) o' r → Wrote o 0 (scene_text s) o' r
  unfolding scene_text scene_told text_of
  too_many h w = rw (lt-ltb _ _ h) w

  pub whole : length s ≤ 65536 → Wrote o 0 (told_text (told_of s blank_floats blank_floats blank_codes)) o' r → Wrote o 0 (scene_text s) o' r
  unfolding scene_text scene_told
  whole h w = rw (le-ltb _ _ h) w
