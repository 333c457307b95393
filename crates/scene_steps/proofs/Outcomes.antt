-- What a step leaves tells the step itself, its notes seen as a scene, and the table of areas keeps its size. Assumes nothing.
use Prim.Native.Nat.{ℕ, ◌≤◌}
use mathlib.Core.Path.{◌≡◌, refl, ap, ◌∙◌}
use mathlib.Core.List.{List}
use native.Mathlib.Omega.{arith}
use lib.ListN.{length, drop, length-append, length-drop}
use lib.Seq.{take-append_seam}
use lib.Ieee.{Float}
use Rattle.scene_lines.specs.declared.Line.{Line}
use Rattle.scene_records.specs.declared.Read.{Read}
use Rattle.scene_records.specs.declared.Read.TheVariants as Read
use Rattle.scene_records.specs.Records.{read_at}
use Rattle.scene_notes.specs.declared.Notes.{Notes}
use Rattle.scene_notes.specs.Noted.{Scene, Kept, view}
use Rattle.scene_notes.proofs.Tables.{kept_passed}
use Rattle.scene_steps.specs.declared.Stepped.{Stepped}
use Rattle.scene_steps.specs.Steps.{Step, ended, faulty, refused, refused_at, wrote, step, told_step, StepOutcome, outcome_of, refused_notes, step_outcome, Ready}
use Rattle.scene_steps.proofs.Goods.{onward}

refused_kept : (x : Read) {c : Notes} → Kept c → Kept (refused_notes x c)
refused_kept Read.End k = k
refused_kept (Read.Bad f field) k = k
refused_kept (Read.Area number count) k = k
refused_kept (Read.Place number far) k = kept_passed 32 k refl
refused_kept (Read.Pair number other) k = kept_passed 10 k refl

module _ (c at_refusal : Notes) (ps ns : List Float) (cs : List ℕ) where
  told_by_lem : (x : Step) → told_step (outcome_of x c at_refusal ps ns cs).stepped (outcome_of x c at_refusal ps ns cs).positions (outcome_of x c at_refusal ps ns cs).normals (outcome_of x c at_refusal ps ns cs).classes ≡ x
  told_by_lem ended = refl
  told_by_lem (faulty f field) = refl
  told_by_lem (refused k) = refl
  told_by_lem (refused_at k index) = refl
  told_by_lem (wrote line next) = rw (take-append_seam next.areas (drop (length next.areas) c.areas))

  kept_by : Kept c → Kept at_refusal → (x : Step) → ((line : Line) (next : Scene) → x ≡ wrote line next → length next.areas ≤ 16) → Kept (outcome_of x c at_refusal ps ns cs).stepped.next
  kept_by k q ended f = k
  kept_by k q (faulty fault field) f = k
  kept_by k q (refused n) f = q
  kept_by k q (refused_at n index) f = q
  kept_by k q (wrote line next) f =
      let few = f line next refl in
      record { few = few; size = rw (length-append next.areas (drop (length next.areas) c.areas), length-drop) (omega (arith, few, k.size)) }

module _ (s : List ℕ) (c : Notes) (ps ns : List Float) (cs : List ℕ) {r : Stepped} {ps' ns' : List Float} {cs' : List ℕ}
    (e : record { stepped = r; positions = ps'; normals = ns'; classes = cs' } ≡ step_outcome s c ps ns cs) where
  pub told_step_lem : told_step r ps' ns' cs' ≡ step s (view c ps ns cs)
  unfolding step_outcome
  told_step_lem =
      ap (λ (o : StepOutcome). told_step o.stepped o.positions o.normals o.classes) e
      ∙ told_by_lem c (refused_notes (read_at s c.at) c) ps ns cs (step s (view c ps ns cs))

  pub kept_step : Ready s c 0 ps ns cs → Kept r.next
  unfolding step_outcome
  kept_step y =
      rw (ap (λ (o : StepOutcome). o.stepped.next) e)
      (kept_by c (refused_notes (read_at s c.at) c) ps ns cs y.kept (refused_kept (read_at s c.at) y.kept) (step s (view c ps ns cs))
      (λ line next q. (onward y.good q).good.few))
