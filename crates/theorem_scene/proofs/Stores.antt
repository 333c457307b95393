-- Between two records every area met is a loop as built, in plain mode and in its own part of the store, and the store keeps its size. Assumes nothing.
use Prim.Native.Nat.{ℕ, zero, suc, ◌+◌, ◌*◌, ◌≤◌, ◌<◌}
use mathlib.Core.Path.{◌≡◌, refl, sym, ap, subst, ◌∙◌}
use mathlib.Core.Bool.{Bool, true, false}
use mathlib.Core.List.{List, [], ◌∷◌, ◌++◌}
use mathlib.Core.Logic.{⊎_elim}
use native.Mathlib.Nat.{eq-or-lt_of_le, not-suc-le-zero}
use native.Mathlib.Omega.{arith}
use lib.ListN.{length, take, drop, get_or, length-append, length-drop, take-append-drop, length-replicate, get_or-append}
use lib.Seq.{get_or-append-add, length-take-le, drop-append_seam, take-append-le, drop-append-le}
use lib.Dec.{ltb}
use lib.Ieee.{Float}
use borrow.Author.Tests.{ltb-false}
use Rattle.vec3.proofs.Arrays.{size}
use Rattle.ring_corners.specs.Corners.{reversal, corner_at, normal_at, ring_of, normals_of, classes_of, all_both}
use Rattle.minor_arc.specs.declared.Mode.TheVariants.{Plain}
use Rattle.loop_header.specs.declared.Header.{Header}
use Rattle.loop_build.specs.Build as B
use Rattle.loop_build.specs.Build.{opened_count, made_if, made, outcome_if, outcome_by, build_outcome}
use Rattle.loop_build.proofs.Rooms.{fine, room}
use Rattle.loop_build.proofs.Builts.{codes_count}
use Rattle.loop_build.proofs.Modes.{modes}
use Rattle.loop_ask.specs.Answers as Ask
use Rattle.scene_lines.specs.declared.Line.{Line}
use Rattle.scene_records.specs.declared.Read.{Read}
use Rattle.scene_records.specs.declared.Read.TheVariants as Read
use Rattle.scene_records.specs.Records.{read_at, floats_at}
use Rattle.scene_store.specs.declared.Area.{Area}
use Rattle.scene_store.specs.Store.{nobody, corners, codes, after, built_at, pair_in}
use Rattle.scene_far.specs.Said.{Said}
use Rattle.scene_far.specs.Said as Said
use Rattle.scene_notes.specs.Judged.{Judged, Fine, Bad}
use Rattle.scene_notes.specs.Noted.{Scene, area_at, judge_area, judge_named}
use Rattle.scene_steps.specs.Steps.{wrote, passed_by, with_area, area_told, area_out, area_made, area_by, area_step, met, Good}
use Rattle.scene_steps.specs.Steps.{place_told, said_of, place_met, place_by, place_step, pair_told, pair_met, pair_by, pair_step, step_by, step}
use Rattle.scene_steps.proofs.Goods.{no_line, onward}
use Rattle.scene_run.specs.Run.{blank_floats, blank_codes, starting}
use Rattle.scene_run.proofs.Floats.{read_doubles}
use Rattle.scene_run.proofs.Texts.{good_start}
use Rattle.theorem_built.specs.Built.{Loop, AsBuilt, as_built}
use Rattle.theorem_scene.specs.Endings.{Reached, start, on}

-- ---- a build leaves slices of the same sizes
record Same (o : B.Outcome) (ps ns : List Float) (cs : List ℕ) : Type 0 where
  positions : length o.positions ≡ length ps
  normals : length o.normals ≡ length ns
  classes : length o.classes ≡ length cs

replaced : {A : Type 0} (n : ℕ) (front l : List A) → length front ≡ n → n ≤ length l → length (front ++ drop n l) ≡ length l
replaced n front l e h = length-append front (drop n l) ∙ rw (e, length-drop) (omega arith)

module _ (l ps ns : List Float) (cs : List ℕ) where
  of_made : (b r : Bool) (n : ℕ) → 3 * n ≤ length ps → 3 * n ≤ length ns → n ≤ length cs → Same (B.outcome_of (made_if b Plain l n r ps ns cs)) ps ns cs
  of_made true r n p q c = record { positions = refl; normals = refl; classes = refl }
  of_made false r n p q c = record {
    positions = replaced (3 * n) (ring_of l n r) ps (size (corner_at l n r) n) p;
    normals = replaced (3 * n) (normals_of l n r) ns (size (normal_at l n r) n) q;
    classes = replaced n (classes_of l n r) cs (codes_count l n r) c;
  }

  of_count : (b : Bool) → ltb (opened_count l) 3 ≡ b → B.refusal l ps ns cs ≡ 0 → Same (outcome_if b Plain l (opened_count l) ps ns cs) ps ns cs
  unfolding made
  of_count true t z = record { positions = refl; normals = refl; classes = refl }
  of_count false t z =
      let n = opened_count l in
      let r = room n (length ps) (length ns) (length cs) (fine l ps ns cs z).1 (ltb-false _ _ t) in
      of_made (all_both (classes_of l n (reversal l n))) (reversal l n) n r.for_positions r.for_normals r.for_classes

  of_refusal : (k : ℕ) → B.refusal l ps ns cs ≡ k → Same (outcome_by k Plain l ps ns cs) ps ns cs
  of_refusal zero z = of_count (ltb (opened_count l) 3) refl z
  of_refusal (suc k) z = record { positions = refl; normals = refl; classes = refl }

  same_sizes : Same (build_outcome Plain l ps ns cs) ps ns cs
  unfolding build_outcome
  same_sizes = of_refusal (B.refusal l ps ns cs) refl

-- ---- parts of a store: one that ends ahead of what is written is as it was, and what is written is the part from there on
front : {A : Type 0} (m n : ℕ) (l more : List A) → m + n ≤ length l → take n (drop m (l ++ more)) ≡ take n (drop m l)
front m n l more h =
    let fits : n ≤ length (drop m l) = rw length-drop (omega arith) in
    ap (take n) (drop-append-le m l more (omega arith)) ∙ take-append-le n (drop m l) more fits

earlier : {A : Type 0} (m n k : ℕ) (l more : List A) → m + n ≤ k → k ≤ length l → take n (drop m (take k l ++ more)) ≡ take n (drop m l)
earlier m n k l more h g =
    let fits : m + n ≤ length (take k l) = rw (length-take-le k l g) h in
    front m n (take k l) more fits ∙ sym (front m n (take k l) (drop k l) fits) ∙ ap (λ x. take n (drop m x)) (take-append-drop k l)

later : {A : Type 0} (k n : ℕ) (l more : List A) → k ≤ length l → take n (drop k (take k l ++ more)) ≡ take n more
later k n l more g =
    let e = length-take-le k l g in
    ap (take n) (ap (λ (i : ℕ). drop i (take k l ++ more)) (sym e) ∙ drop-append_seam (take k l) more)

-- ---- an area's loop in a store
abbrev pub loop_in : Area → List Float → List Float → List ℕ → Loop
loop_in a ps ns cs = record { header = a.header; positions = corners a ps; normals = corners a ns; classes = codes a cs }

pub record Stored (w : Scene) : Type 0 where
  pub positions_size : length w.positions ≡ 3072
  pub normals_size : length w.normals ≡ 3072
  pub classes_size : length w.classes ≡ 1024
  pub built : (i : ℕ) → i < length w.areas → AsBuilt (loop_in (get_or w.areas i nobody) w.positions w.normals w.classes)
  pub plain : (i : ℕ) → i < length w.areas → (get_or w.areas i nobody).header.mode ≡ Plain

-- ---- what a record that comes to a line leaves: the store as it was, or one area more in it
data Went (s : List ℕ) (w : Scene) : Scene → Type 0 where
  passed : (n : ℕ) → Went s w (passed_by n w)
  added : (number count : ℕ) (h : Header) → B.loop h ≡ (area_out s w count).answer → Went s w (with_area w (area_at w.used number h) count (area_out s w count))

module _ {s : List ℕ} {w : Scene} {line : Line} {v : Scene} where
  area_went : (number count : ℕ) (t : B.Told) → t ≡ (area_out s w count).answer → area_told s w number count (area_out s w count) t ≡ wrote line v → Went s w v
  area_went number count (B.refused k) q e = absurd (no_line k _ e)
  area_went number count (B.loop h) q e =
      let d : with_area w (area_at w.used number h) count (area_out s w count) ≡ v = cc in
      subst (Went s w) d (added number count h q)

  place_went : (t : Said) → place_told s w t ≡ wrote line v → Went s w v
  place_went (Said.Refused k) e = absurd (no_line k _ e)
  place_went (Said.Line l) e = let d : passed_by 32 w ≡ v = cc in subst (Went s w) d (passed 32)

  pair_went : (number other : ℕ) (t : Ask.Told) → pair_told w number other t ≡ wrote line v → Went s w v
  pair_went number other (Ask.refused k) e = absurd (let z : ◌≡◌ {A = ℕ} 0 1 = cc in omega arith)
  pair_went number other (Ask.answer n) e = let d : passed_by 10 w ≡ v = cc in subst (Went s w) d (passed 10)

  area_by_lem : (number count : ℕ) (j : Judged) → area_by j s w number count ≡ wrote line v → Went s w v
  unfolding area_made
  area_by_lem number count (Bad f field) e = absurd (let z : ◌≡◌ {A = ℕ} 0 1 = cc in omega arith)
  area_by_lem number count Fine e = area_went number count (area_out s w count).answer refl e

  place_by_lem : (far : Bool) (number : ℕ) (j : Judged) → place_by j far s w number ≡ wrote line v → Went s w v
  unfolding place_met
  place_by_lem far number (Bad f field) e = absurd (let z : ◌≡◌ {A = ℕ} 0 1 = cc in omega arith)
  place_by_lem far number Fine e = place_went (said_of far s w number) e

  pair_by_lem : (number other : ℕ) (j : Judged) → pair_by j w number other ≡ wrote line v → Went s w v
  unfolding pair_met
  pair_by_lem number other (Bad f field) e = absurd (let z : ◌≡◌ {A = ℕ} 0 1 = cc in omega arith)
  pair_by_lem number other Fine e = pair_went number other (pair_in (met w number) (met w other) w.positions w.normals w.classes) e

  by_read : (r : Read) → step_by r s w ≡ wrote line v → Went s w v
  unfolding area_step place_step pair_step
  by_read Read.End e = absurd (let z : ◌≡◌ {A = ℕ} 0 1 = cc in omega arith)
  by_read (Read.Bad f field) e = absurd (let z : ◌≡◌ {A = ℕ} 0 1 = cc in omega arith)
  by_read (Read.Area number count) e = area_by_lem number count (judge_area w.areas w.given w.at number count) e
  by_read (Read.Place number far) e = place_by_lem far number (judge_named w.areas w.at (number ∷ [])) e
  by_read (Read.Pair number other) e = pair_by_lem number other (judge_named w.areas w.at (number ∷ other ∷ [])) e

  went : step s w ≡ wrote line v → Went s w v
  unfolding step
  went e = by_read (read_at s w.at) e

-- ---- one area more
module _ (s : List ℕ) (w : Scene) (g : Good s w) (z : Stored w) (number count : ℕ) (h : Header) (e : B.loop h ≡ (area_out s w count).answer) where
  -- the build that this was, into the rest of the store
  abbrev rested : B.Outcome
  rested = build_outcome Plain (floats_at s (w.at + 8) count) (drop (3 * w.used) w.positions) (drop (3 * w.used) w.normals) (drop w.used w.classes)

  outcome_is : area_out s w count ≡ after w.used w.positions w.normals w.classes rested
  unfolding built_at
  outcome_is = refl

  most : w.used ≤ 1024
  most = omega (arith, g.used_given, g.given_most)

  p_fits : 3 * w.used ≤ length w.positions
  p_fits = omega (arith, most, z.positions_size)

  n_fits : 3 * w.used ≤ length w.normals
  n_fits = omega (arith, most, z.normals_size)

  c_fits : w.used ≤ length w.classes
  c_fits = omega (arith, most, z.classes_size)

  grown : {A : Type 0} (k : ℕ) (xs more : List A) → k ≤ length xs → length more ≡ length (drop k xs) → length (take k xs ++ more) ≡ length xs
  grown k xs more f q = length-append (take k xs) more ∙ rw (length-take-le k xs f, q, length-drop) (omega arith)

  abbrev new : Area
  new = area_at w.used number h

  answered : rested.answer ≡ B.loop h
  answered = sym (e ∙ ap (λ (o : B.Outcome). o.answer) outcome_is)

  new_plain : h.mode ≡ Plain
  new_plain = (modes (floats_at s (w.at + 8) count) _ _ _).stored Plain h answered

  new_built : AsBuilt (loop_in new (area_out s w count).positions (area_out s w count).normals (area_out s w count).classes)
  new_built =
      rw (
        outcome_is,
        later (3 * w.used) (3 * h.count) w.positions rested.positions p_fits,
        later (3 * w.used) (3 * h.count) w.normals rested.normals n_fits,
        later w.used h.count w.classes rested.classes c_fits,
      )
      (as_built Plain (floats_at s (w.at + 8) count) _ _ _ h (read_doubles s (w.at + 8) count) answered)

  old_built : (a : Area) → a.start + a.header.count ≤ w.used → AsBuilt (loop_in a w.positions w.normals w.classes)
      → AsBuilt (loop_in a (area_out s w count).positions (area_out s w count).normals (area_out s w count).classes)
  old_built a f b =
      rw (
        outcome_is,
        earlier (3 * a.start) (3 * a.header.count) (3 * w.used) w.positions rested.positions (omega arith) p_fits,
        earlier (3 * a.start) (3 * a.header.count) (3 * w.used) w.normals rested.normals (omega arith) n_fits,
        earlier a.start a.header.count w.used w.classes rested.classes f c_fits,
      ) b

  -- what holds of the new area and of each that was met holds of all
  each : (P : Area → Type 0) → P new → ((i : ℕ) → i < length w.areas → P (get_or w.areas i nobody)) → (i : ℕ) → i < length (w.areas ++ (new ∷ []))
      → P (get_or (w.areas ++ (new ∷ [])) i nobody)
  each P last first i k =
      let within : i ≤ length w.areas = omega (arith, simp length-append at k) in
      ⊎_elim
      (λ q. let p : i ≡ length w.areas + 0 = omega arith in rw (p, get_or-append-add w.areas (new ∷ []) 0 nobody) last)
      (λ q. rw (get_or-append w.areas (new ∷ []) nobody i q) (first i q))
      (eq-or-lt_of_le within)

  added_stored : Stored (with_area w new count (area_out s w count))
  added_stored =
      let kept = same_sizes (floats_at s (w.at + 8) count) (drop (3 * w.used) w.positions) (drop (3 * w.used) w.normals) (drop w.used w.classes) in
      record {
        positions_size = ap (λ (o : B.Outcome). length o.positions) outcome_is ∙ grown (3 * w.used) w.positions rested.positions p_fits kept.positions ∙ z.positions_size;
        normals_size = ap (λ (o : B.Outcome). length o.normals) outcome_is ∙ grown (3 * w.used) w.normals rested.normals n_fits kept.normals ∙ z.normals_size;
        classes_size = ap (λ (o : B.Outcome). length o.classes) outcome_is ∙ grown w.used w.classes rested.classes c_fits kept.classes ∙ z.classes_size;
        built =
            each (λ a. AsBuilt (loop_in a (area_out s w count).positions (area_out s w count).normals (area_out s w count).classes)) new_built
            (λ i q. old_built (get_or w.areas i nobody) (g.inside i q) (z.built i q));
        plain = each (λ a. a.header.mode ≡ Plain) new_plain z.plain;
      }

went_stored : (s : List ℕ) (w v : Scene) → Good s w → Stored w → Went s w v → Stored v
went_stored s w _ g z (passed n) = record { positions_size = z.positions_size; normals_size = z.normals_size; classes_size = z.classes_size; built = z.built; plain = z.plain }
went_stored s w _ g z (added number count h e) = added_stored s w g z number count h e

-- ---- so it is at every record reached
pub record Kept (s : List ℕ) (w : Scene) : Type 0 where
  pub good : Good s w
  pub stored : Stored w

blank_stored : Stored (starting blank_floats blank_floats blank_codes)
unfolding blank_floats blank_codes
blank_stored = record {
  positions_size = rw length-replicate refl;
  normals_size = rw length-replicate refl;
  classes_size = rw length-replicate refl;
  built = λ i h. absurd (not-suc-le-zero h);
  plain = λ i h. absurd (not-suc-le-zero h);
}

pub reached_kept : (s : List ℕ) → length s ≤ 65536 → (lines : List Line) (w : Scene) → Reached s lines w → Kept s w
reached_kept s h _ _ start = record { good = good_start s h; stored = blank_stored }
reached_kept s h _ v (on {lines} {w} r e) =
    let k = reached_kept s h lines w r in
    record { good = (onward k.good e).good; stored = went_stored s w v k.good k.stored (went e) }
