-- A record's step, as the program takes it. Assumes nothing.
use Prim.Native.Nat.{ℕ, zero, suc, ◌+◌, ◌*◌, ◌≤◌, ◌<◌}
use mathlib.Core.Path.{◌≡◌, refl, sym, ap, ◌∙◌}
use mathlib.Core.Bool.{Bool, true, false, cond}
use mathlib.Core.List.{List, [], ◌∷◌, ◌++◌, append_assoc}
use native.Mathlib.Numerals.{add-one}
use native.Mathlib.Omega.{arith}
use lib.ListN.{length, drop, get_or, length-append, take-append-drop}
use lib.Seq.{set_split}
use lib.Dec.{ltb}
use lib.Ieee.{Float}
use Rattle.std.specs.Prelude.{Result, Ok, Err}
use Rattle.vec3.specs.declared.Vec3.{Vec3}
use Rattle.wire.specs.Wire.{vec_of}
use Rattle.judge.specs.declared.Refusal.{Refusal}
use Rattle.judge.specs.Refusals.{number as number_of_refusal}
use Rattle.minor_arc.specs.declared.Mode.TheVariants.{Plain}
use Rattle.loop_header.specs.declared.Header.{Header}
use Rattle.loop_build.specs.Build as B
use Rattle.loop_ask.specs.Answers.{Told}
use Rattle.loop_ask.specs.Answers as Ask
use Rattle.scene_lines.specs.declared.Line.TheVariants as Line
use Rattle.scene_records.specs.declared.Fault.{Fault}
use Rattle.scene_records.specs.Records.{floats_at}
use Rattle.scene_store.specs.declared.Area.{Area}
use Rattle.scene_notes.specs.declared.Notes.{Notes}
use Rattle.scene_notes.specs.Judged.{Judged, Fine, Bad}
use Rattle.scene_steps.specs.declared.Report.{Report}
use Rattle.scene_steps.specs.declared.Report.TheVariants as Report
use Rattle.scene_steps.specs.declared.Stepped.{Stepped}
use Rattle.scene_notes.specs.Noted.{Scene, index_of, areas_of, view, passed_notes, Addable, area_at, added_notes, judge_area, is_past, judge_numbers, judge_named}
use Rattle.scene_notes.proofs.Tables.{met_count, Allowed, allowed, all_met, one_judged, two_judged}
use Rattle.scene_store.specs.Store.{nobody, after, built_at, triangle_count, pair_in, Lies, Room}
use Rattle.scene_far.specs.Said.{Said}
use Rattle.scene_far.specs.Said as Said
use Rattle.scene_far.specs.Far.{said_in}
use Rattle.scene_steps.specs.Steps.{refused, refused_at, of_positions, refusal, refused_index, passed_by, with_area, area_made, area_step, place_told, place_met, place_step, pair_told, pair_met, pair_step, Good}
use Rattle.scene_steps.specs.Steps.{refusal_report, place_report, pair_report, Sized, Ready}
use Rattle.scene_steps.specs.Steps.{StepOutcome, outcome_with, notes_of, outcome_of, area_made_outcome, area_outcome, place_met_outcome, place_outcome, pair_met_outcome, pair_outcome}
use Rattle.scene_store.proofs.Counts.{built_count}

-- a call's own refusal, as the program reports it, leaves all as it was
module _ (c at_refusal : Notes) (ps ns : List Float) (cs : List ℕ) (k index : ℕ) where
  refusal_by : (b : Bool) → outcome_with (cond b (Report.RefusedAt k index) (Report.Refused k)) at_refusal ps ns cs ≡ outcome_of (cond b (refused_at k index) (refused k)) c at_refusal ps ns cs
  refusal_by true = refl
  refusal_by false = refl

  pub refusal_same : outcome_with (refusal_report k index) at_refusal ps ns cs ≡ outcome_of (refusal k index) c at_refusal ps ns cs
  unfolding refusal_report refusal
  refusal_same = refusal_by (of_positions k)

-- an area that was met lies in the store
pub lies : {s : List ℕ} {w : Scene} → Good s w → Sized (length w.positions) (length w.normals) (length w.classes) → (i : ℕ) → i < length w.areas
    → Lies (get_or w.areas i nobody) w.positions w.normals w.classes
lies g z i h = record {
  ends = omega (arith, g.inside i h, g.used_given, g.given_most);
  positions_size = z.of_positions_lem;
  normals_size = z.of_normals;
  classes_size = z.of_classes;
}

module _ {s : List ℕ} {c : Notes} {size : ℕ} {ps ns : List Float} {cs : List ℕ} (r : Ready s c size ps ns cs) where
  abbrev pub here : Scene
  here = view c ps ns cs

  pub area_lies : {i : ℕ} {a : Area} → i < c.met → a ≡ get_or (areas_of c) i nobody → Lies a ps ns cs
  area_lies {i} h e = rw e (lies r.good r.sized i (rw (met_count c r.kept) h))

  pub passable : (c.at + size ≤ 65536) × (c.records ≤ 65536)
  passable = (omega (arith, r.whole, r.good.small), omega (arith, r.good.counted, r.good.within, r.good.small))

  -- the notes after a record that brought no area are those of the scene after it
  passed_notes_lem : (n : ℕ) → passed_notes c n ≡ notes_of c.areas (passed_by n here)
  passed_notes_lem n = rw (met_count c r.kept, take-append-drop c.met c.areas)

  -- ---- a place
  place_same : (t : Said) → outcome_with (place_report t (refused_index s c.at 1)) (passed_notes c 32) ps ns cs ≡ outcome_of (place_told s here t) c (passed_notes c 32) ps ns cs
  place_same (Said.Refused k) = refusal_same c (passed_notes c 32) ps ns cs k (refused_index s c.at 1)
  place_same (Said.Line line) = ap (λ (x : Notes). outcome_with (Report.Line line) x ps ns cs) (passed_notes_lem 32)

  pub place_told_met : (far : Bool) (number : ℕ) {i : ℕ} {a : Area} {p : Vec3} {t : Said} {o : Report} {n : Notes} → i ≡ index_of (areas_of c) number
      → a ≡ get_or (areas_of c) i nobody → p ≡ vec_of s (c.at + 8) → t ≡ said_in far number a ps ns cs p → o ≡ place_report t (refused_index s c.at 1) → n ≡ passed_notes c 32
      → outcome_with o n ps ns cs ≡ place_met_outcome far s c number ps ns cs
  unfolding place_met
  place_told_met far number {t = t} e ea ep et eo en = rw (en, eo, ← e, ← ea, ← ep, ← et) (place_same t)

  -- ---- a pair
  pair_same : (t : Told) (number other : ℕ) → outcome_with (pair_report t number other) (passed_notes c 10) ps ns cs ≡ outcome_of (pair_told here number other t) c (passed_notes c 10) ps ns cs
  pair_same (Ask.refused k) number other = refl
  pair_same (Ask.answer n) number other = ap (λ (x : Notes). outcome_with (Report.Line (Line.Pair number other n)) x ps ns cs) (passed_notes_lem 10)

  pub pair_told_met : (number other : ℕ) {i j : ℕ} {a b : Area} {t : Told} {o : Report} {n : Notes} → i ≡ index_of (areas_of c) number → j ≡ index_of (areas_of c) other
      → a ≡ get_or (areas_of c) i nobody → b ≡ get_or (areas_of c) j nobody → t ≡ pair_in a b ps ns cs → o ≡ pair_report t number other → n ≡ passed_notes c 10
      → outcome_with o n ps ns cs ≡ pair_met_outcome c number other ps ns cs
  unfolding pair_met
  pair_told_met number other {t = t} e f ea eb et eo en = rw (en, eo, ← e, ← f, ← ea, ← eb, ← et) (pair_same t number other)

  -- ---- the numbers that a record names, as they were judged by their indexes: a fault ends the step, and where they are fine each was met
  met_below : (numbers : List ℕ) → Fine ≡ judge_named (areas_of c) c.at numbers → (k : ℕ) → k < length numbers → {i : ℕ} → i ≡ index_of (areas_of c) (get_or numbers k 0) → i < c.met
  met_below numbers f k h e = omega (arith, e, all_met (areas_of c) c.at numbers f k h, met_count c r.kept)

  module _ (number : ℕ) {i : ℕ} {j : Judged} (e : i ≡ index_of (areas_of c) number) (h : j ≡ judge_numbers (is_past c.met (i ∷ [])) c.at (number ∷ [])) where
    one : j ≡ judge_named (areas_of c) c.at (number ∷ [])
    one = h ∙ one_judged (areas_of c) c.at number (met_count c r.kept) e

    pub place_bad : (far : Bool) {f : Fault} {field : ℕ} → j ≡ Bad f field → outcome_with (Report.Bad f field) c ps ns cs ≡ place_outcome far s c number ps ns cs
    unfolding place_step
    place_bad far q = rw (← one, q)

    pub place_below : j ≡ Fine → i < c.met
    place_below q = met_below (number ∷ []) (sym q ∙ one) 0 (omega arith) e

    pub place_fine : (far : Bool) {o : StepOutcome} → j ≡ Fine → o ≡ place_met_outcome far s c number ps ns cs → o ≡ place_outcome far s c number ps ns cs
    unfolding place_step
    place_fine far q g = rw (← one, q) g

  module _ (number other : ℕ) {i k : ℕ} {j : Judged} (e : i ≡ index_of (areas_of c) number) (f : k ≡ index_of (areas_of c) other)
      (h : j ≡ judge_numbers (is_past c.met (i ∷ k ∷ [])) c.at (number ∷ other ∷ [])) where
    two : j ≡ judge_named (areas_of c) c.at (number ∷ other ∷ [])
    two = h ∙ two_judged (areas_of c) c.at number other (met_count c r.kept) e f

    pub pair_bad : {x : Fault} {field : ℕ} → j ≡ Bad x field → outcome_with (Report.Bad x field) c ps ns cs ≡ pair_outcome c number other ps ns cs
    unfolding pair_step
    pair_bad q = rw (← two, q)

    pub first_below : j ≡ Fine → i < c.met
    first_below q = met_below (number ∷ other ∷ []) (sym q ∙ two) 0 (omega arith) e

    pub second_below : j ≡ Fine → k < c.met
    second_below q = met_below (number ∷ other ∷ []) (sym q ∙ two) 1 (omega arith) f

    pub pair_fine : {o : StepOutcome} → j ≡ Fine → o ≡ pair_met_outcome c number other ps ns cs → o ≡ pair_outcome c number other ps ns cs
    unfolding pair_step
    pair_fine q g = rw (← two, q) g

-- ---- a build that is refused leaves the store as it was
module _ (l qs ms : List Float) (ds : List ℕ) {k : ℕ} where
  kept_if : (b : Bool) (n : ℕ) → B.refused k ≡ (B.outcome_if b Plain l n qs ms ds).answer → B.outcome_if b Plain l n qs ms ds ≡ B.kept (B.refused k) qs ms ds
  kept_if true n e = absurd (let z : ◌≡◌ {A = ℕ} 0 1 = cc in omega arith)
  kept_if false n e = absurd (let z : ◌≡◌ {A = ℕ} 0 1 = cc in omega arith)

  kept_by : (i : ℕ) → B.refused k ≡ (B.outcome_by i Plain l qs ms ds).answer → B.outcome_by i Plain l qs ms ds ≡ B.kept (B.refused k) qs ms ds
  kept_by zero e = kept_if (ltb (B.opened_count l) 3) (B.opened_count l) e
  kept_by (suc i) e = ap (λ (t : B.Told). B.kept t qs ms ds) (sym e)

store_kept : (l : List Float) (used : ℕ) (ps ns : List Float) (cs : List ℕ) {k : ℕ} → B.refused k ≡ (built_at l used ps ns cs).answer → built_at l used ps ns cs ≡ B.kept (B.refused k) ps ns cs
unfolding built_at B.build_outcome
store_kept l used ps ns cs {k} e =
    let q = kept_by l (drop (3 * used) ps) (drop (3 * used) ns) (drop used cs) (B.refusal l (drop (3 * used) ps) (drop (3 * used) ns) (drop used cs)) e in
    ap (after used ps ns cs) q ∙ rw (take-append-drop (3 * used) ps, take-append-drop (3 * used) ns, take-append-drop used cs)

-- ---- an area that may come in
module _ {s : List ℕ} {c : Notes} {ps ns : List Float} {cs : List ℕ} (number count : ℕ) (r : Ready s c (8 + 24 * count) ps ns cs) (f : Fine ≡ judge_area (areas_of c) c.given c.at number count) where
  may : Allowed c.met c.given count
  may = rw (met_count c r.kept) at (allowed (areas_of c) c.given c.at number count f)

  pub room : (count ≤ 1024) × Room s (c.at + 8) count c.used (3 * count) (length ps) (length ns) (length cs)
  room = (
    omega (arith, may.few),
    record {
      small = r.good.small;
      within = omega (arith, r.whole);
      exact = refl;
      unused = omega (arith, r.good.used_given, r.good.given_most);
      positions_size = r.sized.of_positions_lem;
      normals_size = r.sized.of_normals;
      classes_size = r.sized.of_classes;
    },
  )

  -- what the build answered and left
  module _ {b : Result Header Refusal} {ps' ns' : List Float} {cs' : List ℕ} (e : record { answer = B.told b; positions = ps'; normals = ns'; classes = cs' } ≡ built_at (floats_at s (c.at + 8) count) c.used ps ns cs) where
    pub area_refused : {k : Refusal} → b ≡ Err k → {o : Report} → o ≡ refusal_report (number_of_refusal k) (refused_index s c.at count)
        → outcome_with o c ps' ns' cs' ≡ area_made_outcome s c number count ps ns cs
    unfolding area_made
    area_refused {k} q {o} v =
        let l = floats_at s (c.at + 8) count in
        let z = store_kept l c.used ps ns cs (sym (ap B.told q) ∙ ap (λ (o : B.Outcome). o.answer) e) in
        ap (λ (x : B.Outcome). outcome_with o c x.positions x.normals x.classes) (e ∙ z)
        ∙ rw (v, z) (refusal_same c c ps ns cs (number_of_refusal k) (refused_index s c.at count))

    module _ {h : Header} (q : b ≡ Ok h) where
      fits : h.count ≤ count
      fits = built_count s (c.at + 8) count c.used ps ns cs (sym (ap B.told q) ∙ ap (λ (o : B.Outcome). o.answer) e)

      pub addable : Addable c (area_at c.used number h) count
      addable = record {
        room = may.room;
        end = omega (arith, r.whole, r.good.small);
        few = omega (arith, r.good.counted, r.good.within, r.good.small);
        given = may.few;
        corners = omega (arith, fits, may.few, r.good.used_given);
      }

      pub new_lies : length ps' ≡ length ps → length ns' ≡ length ns → length cs' ≡ length cs → Lies (area_at c.used number h) ps' ns' cs'
      new_lies p n k = record { ends = addable.corners; positions_size = p ∙ r.sized.of_positions_lem; normals_size = n ∙ r.sized.of_normals; classes_size = k ∙ r.sized.of_classes }

      -- the notes with one area more are those of the scene with it
      added_notes_lem : (o : B.Outcome) → added_notes c (area_at c.used number h) count ≡ notes_of c.areas (with_area (view c ps ns cs) (area_at c.used number h) count o)
      added_notes_lem o =
          let a = area_at c.used number h in
          let g : c.met < length c.areas = omega (arith, may.room, r.kept.size) in
          let n : length (areas_of c ++ (a ∷ [])) ≡ c.met + 1 = length-append (areas_of c) (a ∷ []) ∙ ap (λ (k : ℕ). k + 1) (met_count c r.kept) in
          rw (n, add-one c.met, set_split c.areas c.met a g, append_assoc)

      pub area_looped : {n : Stepped} → n ≡ record { report = Report.Line (Line.Area number h (triangle_count (area_at c.used number h) ps' cs')); next = added_notes c (area_at c.used number h) count }
          → record { stepped = n; positions = ps'; normals = ns'; classes = cs' } ≡ area_made_outcome s c number count ps ns cs
      unfolding area_made
      area_looped v =
          rw (v, ← e, q)
          (ap (λ (x : Notes). outcome_with (Report.Line (Line.Area number h (triangle_count (area_at c.used number h) ps' cs'))) x ps' ns' cs')
          (added_notes_lem (record { answer = B.loop h; positions = ps'; normals = ns'; classes = cs' })))

-- ---- an area as it was judged
module _ {s : List ℕ} {c : Notes} {ps ns : List Float} {cs : List ℕ} (number count : ℕ) (r : Ready s c (8 + 24 * count) ps ns cs) {j : Judged} (e : j ≡ judge_area (areas_of c) c.given c.at number count) where
  pub area_bad : {f : Fault} {field : ℕ} → j ≡ Bad f field → outcome_with (Report.Bad f field) c ps ns cs ≡ area_outcome s c number count ps ns cs
  unfolding area_step
  area_bad q = rw (← e, q)

  pub area_fine : {o : StepOutcome} → j ≡ Fine → o ≡ area_made_outcome s c number count ps ns cs → o ≡ area_outcome s c number count ps ns cs
  unfolding area_step
  area_fine q h = rw (← e, q) h
