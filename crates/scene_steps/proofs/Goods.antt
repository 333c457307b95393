-- What holds between two records holds after the next, which brings the scene on by eight bytes or more. Assumes nothing.
use Prim.Native.Nat.{ℕ, ◌+◌, ◌*◌, ◌≤◌, ◌<◌}
use mathlib.Core.Path.{◌≡◌, refl}
use mathlib.Core.Bool.{Bool, true, false, cond}
use mathlib.Core.List.{List, [], ◌∷◌, ◌++◌}
use mathlib.Core.Logic.{⊎_elim}
use native.Mathlib.Nat.{eq-or-lt_of_le}
use native.Mathlib.Omega.{arith}
use lib.ListN.{length, get_or, length-append, get_or-append}
use lib.Seq.{get_or-append-add}
use Rattle.loop_build.specs.Build as B
use Rattle.loop_ask.specs.Answers.{Told}
use Rattle.loop_ask.specs.Answers as Ask
use Rattle.scene_lines.specs.declared.Line.{Line}
use Rattle.scene_lines.specs.declared.Line.TheVariants as Line
use Rattle.scene_lines.specs.Lines.{room_of}
use Rattle.scene_lines.proofs.Rooms.{longest}
use Rattle.scene_records.specs.declared.Read.{Read}
use Rattle.scene_records.specs.declared.Read.TheVariants as Read
use Rattle.scene_records.specs.Records.{read_at, size_of}
use Rattle.scene_records.proofs.Sizes.{within}
use Rattle.scene_store.specs.declared.Area.{Area}
use Rattle.scene_notes.specs.Judged.{Judged, Fine, Bad}
use Rattle.scene_notes.specs.Noted.{Scene, area_at, judge_area, judge_named}
use Rattle.scene_store.specs.Store.{nobody, triangle_count, pair_in}
use Rattle.scene_far.specs.Said.{Said}
use Rattle.scene_far.specs.Said as Said
use Rattle.scene_steps.specs.Steps.{refused, refused_at, wrote, of_positions, refusal, passed_by, with_area, area_told, area_out, area_made, area_by, area_step, met, Good}
use Rattle.scene_steps.specs.Steps.{place_told, said_of, place_met, place_by, place_step, pair_told, pair_met, pair_by, pair_step, step_by, step}
use Rattle.scene_store.proofs.Counts.{built_count}
use Rattle.scene_notes.proofs.Tables.{allowed}

-- the scene after a record. Its line is short for what was read: three bytes for each, and 21 more for an area
pub record Onward (s : List ℕ) (l : Line) (w v : Scene) : Type 0 where
  pub good : Good s v
  pub forth : w.at + 8 ≤ v.at
  pub spare : room_of l + 3 * w.at + 21 * length w.areas ≤ 3 * v.at + 21 * length v.areas
  pub one_more : v.records ≡ w.records + 1

-- an area's end, at each index
abbrev end : List Area → ℕ → ℕ
end areas i = (get_or areas i nobody).start + (get_or areas i nobody).header.count

module _ (areas : List Area) (a : Area) (used more : ℕ) (old : (i : ℕ) → i < length areas → end areas i ≤ used) (new : a.start + a.header.count ≤ used + more) where
  one_more_end : (i : ℕ) → i < length (areas ++ (a ∷ [])) → end (areas ++ (a ∷ [])) i ≤ used + more
  one_more_end i h =
      let k : i ≤ length areas = omega (arith, simp length-append at h) in
      ⊎_elim
      (λ g. let e : i ≡ length areas + 0 = omega arith in rw (e, get_or-append-add areas (a ∷ []) 0 nobody) new)
      (λ g. rw (get_or-append areas (a ∷ []) nobody i g) (omega (arith, old i g)))
      (eq-or-lt_of_le k)

-- a refusal is no line
module _ {l : Line} {v : Scene} where
  refusal_line : (b : Bool) (k index : ℕ) → cond b (refused_at k index) (refused k) ≡ wrote l v → ⊥
  refusal_line true k index e = let z : ◌≡◌ {A = ℕ} 0 1 = cc in omega arith
  refusal_line false k index e = let z : ◌≡◌ {A = ℕ} 0 1 = cc in omega arith

  pub no_line : (k index : ℕ) → refusal k index ≡ wrote l v → ⊥
  unfolding refusal
  no_line k index e = refusal_line (of_positions k) k index e

module _ {s : List ℕ} {w : Scene} (g : Good s w) where
  passed_on : {l : Line} {v : Scene} (size : ℕ) → 8 ≤ size → room_of l ≤ 3 * size → w.at + size ≤ length s → passed_by size w ≡ v → Onward s l w v
  passed_on size h f k e = rw (← e) record {
    good = record {
      small = g.small;
      within = k;
      counted = omega (arith, g.counted);
      few = g.few;
      used_given = g.used_given;
      given_most = g.given_most;
      inside = g.inside;
    };
    forth = omega arith;
    spare = omega (arith, f);
    one_more = refl;
  }

  module _ {l : Line} {v : Scene} where
    place_on : (t : Said) → w.at + 32 ≤ length s → place_told s w t ≡ wrote l v → Onward s l w v
    place_on (Said.Refused k) h e = absurd (no_line k _ e)
    place_on (Said.Line line) h e = passed_on 32 (omega arith) (omega (arith, longest l)) h (cc)

    pair_on : (t : Told) (number other : ℕ) → w.at + 10 ≤ length s → pair_told w number other t ≡ wrote l v → Onward s l w v
    unfolding room_of
    pair_on (Ask.refused k) number other h e = absurd (let z : ◌≡◌ {A = ℕ} 0 1 = cc in omega arith)
    pair_on (Ask.answer n) number other h e = passed_on 10 (omega arith) (let q : Line.Pair number other n ≡ l = cc in rw (← q) (omega arith)) h (cc)

    area_on : (number count : ℕ) → Fine ≡ judge_area w.areas w.given w.at number count → w.at + (8 + 24 * count) ≤ length s
        → (t : B.Told) → t ≡ (area_out s w count).answer → area_told s w number count (area_out s w count) t ≡ wrote l v → Onward s l w v
    unfolding room_of
    area_on number count f h (B.refused k) q e = absurd (no_line k _ e)
    area_on number count f h (B.loop k) q e =
        let a = area_at w.used number k in
        let m = allowed w.areas w.given w.at number count f in
        let c : k.count ≤ count = built_count s (w.at + 8) count w.used w.positions w.normals w.classes q in
        let d : with_area w a count (area_out s w count) ≡ v = cc in
        let q : Line.Area number k (triangle_count a (area_out s w count).positions (area_out s w count).classes) ≡ l = cc in
        rw (← d, ← q) record {
          good = record {
            small = g.small;
            within = omega (arith, h);
            counted = omega (arith, g.counted);
            few = simp length-append (omega (arith, m.room));
            used_given = omega (arith, g.used_given, c);
            given_most = m.few;
            inside = one_more_end w.areas a w.used k.count g.inside (omega arith);
          };
          forth = omega arith;
          spare = simp length-append (omega arith);
          one_more = refl;
        }

    judged_on : (number count : ℕ) → w.at + (8 + 24 * count) ≤ length s → (j : Judged) → j ≡ judge_area w.areas w.given w.at number count → area_by j s w number count ≡ wrote l v → Onward s l w v
    unfolding area_made
    judged_on number count h (Bad f field) q e = absurd (let z : ◌≡◌ {A = ℕ} 0 1 = cc in omega arith)
    judged_on number count h Fine q e = area_on number count q h (area_out s w count).answer refl e

    place_judged : (far : Bool) (number : ℕ) → w.at + 32 ≤ length s → (j : Judged) → place_by j far s w number ≡ wrote l v → Onward s l w v
    unfolding place_met
    place_judged far number h (Bad f field) e = absurd (let z : ◌≡◌ {A = ℕ} 0 1 = cc in omega arith)
    place_judged far number h Fine e = place_on (said_of far s w number) h e

    pair_judged : (number other : ℕ) → w.at + 10 ≤ length s → (j : Judged) → pair_by j w number other ≡ wrote l v → Onward s l w v
    unfolding pair_met
    pair_judged number other h (Bad f field) e = absurd (let z : ◌≡◌ {A = ℕ} 0 1 = cc in omega arith)
    pair_judged number other h Fine e = pair_on (pair_in (met w number) (met w other) w.positions w.normals w.classes) number other h e

    by_read : (r : Read) → w.at + size_of r ≤ length s → step_by r s w ≡ wrote l v → Onward s l w v
    unfolding area_step place_step pair_step
    by_read Read.End h e = absurd (let z : ◌≡◌ {A = ℕ} 0 1 = cc in omega arith)
    by_read (Read.Bad f field) h e = absurd (let z : ◌≡◌ {A = ℕ} 0 1 = cc in omega arith)
    by_read (Read.Area number count) h e = judged_on number count h (judge_area w.areas w.given w.at number count) refl e
    by_read (Read.Place number far) h e = place_judged far number h (judge_named w.areas w.at (number ∷ [])) e
    by_read (Read.Pair number other) h e = pair_judged number other h (judge_named w.areas w.at (number ∷ other ∷ [])) e

    pub onward : step s w ≡ wrote l v → Onward s l w v
    unfolding step
    onward e = by_read (read_at s w.at) (within s w.at g.within) e
