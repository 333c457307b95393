-- A scene ends at the record that its lines lead to, with one of the nine numbers or a call's own 2, 3, 4 or 7, and 3 and 4 with the index of the first position
-- refused. Assumes nothing.
use Prim.Native.Nat.{ℕ, zero, suc, ◌+◌, ◌≤◌, ◌<◌}
use mathlib.Core.Path.{◌≡◌, refl, sym, subst, ◌∙◌}
use mathlib.Core.Bool.{Bool, true, false}
use mathlib.Core.List.{List, [], ◌∷◌, ◌++◌, append-nil}
use mathlib.Core.Logic.{◌⊎◌, inl, inr}
use native.Mathlib.Nat.{not-suc-le-zero}
use native.Mathlib.Omega.{arith}
use lib.ListN.{length}
use lib.Seq.{append_snoc}
use lib.Dec.{ltb}
use borrow.Author.Tests.{le-ltb, ltb-true, ltb-false, lt-ltb}
use Rattle.scene_lines.specs.declared.Line.{Line}
use Rattle.scene_lines.specs.declared.Line.TheVariants.{Refused, RefusedAt}
use Rattle.scene_records.specs.declared.Fault.{Fault}
use Rattle.scene_records.specs.declared.Fault.TheVariants.{CutShort, UnknownKind, WrongLength, NoNumber, Repeated, NotMet, ManyAreas, ManyPositions}
use Rattle.scene_records.specs.Records.{body_field, fault_number}
use Rattle.scene_notes.specs.Noted.{Scene}
use Rattle.scene_steps.specs.Steps as S
use Rattle.scene_steps.specs.Steps.{Step, step, wrote, Good}
use Rattle.scene_steps.proofs.Goods.{onward}
use Rattle.scene_run.specs.Run.{Ending, whole, too_long, faulty, refused, refused_at, last_line, Told, ends, told_by, told_from, told_of, blank_floats, blank_codes, starting, scene_told}
use Rattle.scene_run.proofs.Texts.{good_start}
use Rattle.theorem_scene.specs.Endings.{Reached, start, on, Stops, at_end, at_fault, at_refusal, at_position, Ended, Numbered, none, of_scene, two, seven, three, four, Indexed, Endings}
use Rattle.theorem_scene.proofs.Stores.{reached_kept}
use Rattle.theorem_scene.proofs.Owns.{OwnWhy, own, place_step_lem}

-- ---- where a scene ends
record EndedFrom (s : List ℕ) (before : List Line) (t : Told) : Type 0 where
  last : Scene
  reached : Reached s (before ++ t.lines) last
  stops : Stops last (step s last) t.ending

module _ (s : List ℕ) where
  module _ (before : List Line) (w : Scene) (r : Reached s before w) (rest : Scene → Told)
      (after : (line : Line) (v : Scene) → step s w ≡ wrote line v → EndedFrom s (before ++ (line ∷ [])) (rest v)) where
    here : (x : Step) (e : Ending) → step s w ≡ x → Stops w x e → EndedFrom s before (ends e)
    here x e q h = record { last = w; reached = rw append-nil r; stops = subst (λ (y : Step). Stops w y e) (sym q) h }

    by_step : (x : Step) → step s w ≡ x → EndedFrom s before (told_by x w rest)
    by_step S.ended e = here S.ended (whole w.records) e at_end
    by_step (S.faulty f field) e = here (S.faulty f field) (faulty w.at f field) e (at_fault f field)
    by_step (S.refused k) e = here (S.refused k) (refused w.at k) e (at_refusal k)
    by_step (S.refused_at k index) e = here (S.refused_at k index) (refused_at w.at k index) e (at_position k index)
    by_step (wrote line next) e =
        let o = after line next e in
        record { last = o.last; reached = subst (λ (l : List Line). Reached s l o.last) (append_snoc before line (rest next).lines) o.reached; stops = o.stops }

  -- there is always fuel left: more of it than bytes
  from : (k : ℕ) (w : Scene) → Good s w → length s < w.at + k → (before : List Line) → Reached s before w → EndedFrom s before (told_from s k w)
  unfolding told_from
  from zero w g h before r = absurd (let z : 1 ≤ 0 = omega (arith, g.within) in not-suc-le-zero z)
  from (suc k) w g h before r =
      by_step before w r (told_from s k) (λ line v e. let o = onward g e in from k v o.good (omega (arith, o.forth)) (before ++ (line ∷ [])) (on r e)) (step s w) refl

  told_is : length s ≤ 65536 → scene_told s ≡ told_of s blank_floats blank_floats blank_codes
  unfolding scene_told
  told_is h = rw (le-ltb _ _ h)

  ended : length s ≤ 65536 → Ended s
  ended h =
      let o = from (length s + 1) (starting blank_floats blank_floats blank_codes) (good_start s h) (omega arith) [] start in
      let e = subst (EndedFrom s []) (sym (told_is h)) o in
      record { last = e.last; reached = e.reached; stops = e.stops }

-- ---- its number
fault_numbered : (f : Fault) (at field : ℕ) → Numbered (Refused (fault_number f) at field)
fault_numbered CutShort at field = of_scene 20 at field (omega arith) (omega arith)
fault_numbered UnknownKind at field = of_scene 21 at field (omega arith) (omega arith)
fault_numbered WrongLength at field = of_scene 22 at field (omega arith) (omega arith)
fault_numbered NoNumber at field = of_scene 23 at field (omega arith) (omega arith)
fault_numbered Repeated at field = of_scene 24 at field (omega arith) (omega arith)
fault_numbered NotMet at field = of_scene 25 at field (omega arith) (omega arith)
fault_numbered ManyAreas at field = of_scene 26 at field (omega arith) (omega arith)
fault_numbered ManyPositions at field = of_scene 27 at field (omega arith) (omega arith)

refused_numbered : (k at : ℕ) → (k ≡ 2) ⊎ (k ≡ 7) → Numbered (Refused k at (body_field at))
refused_numbered k at (inl e) = subst (λ (n : ℕ). Numbered (Refused n at (body_field at))) (sym e) (two at (body_field at))
refused_numbered k at (inr e) = subst (λ (n : ℕ). Numbered (Refused n at (body_field at))) (sym e) (seven at (body_field at))

position_numbered : (k at index : ℕ) → (k ≡ 3) ⊎ (k ≡ 4) → Numbered (RefusedAt k at (body_field at) index)
position_numbered k at index (inl e) = subst (λ (n : ℕ). Numbered (RefusedAt n at (body_field at) index)) (sym e) (three at (body_field at) index)
position_numbered k at index (inr e) = subst (λ (n : ℕ). Numbered (RefusedAt n at (body_field at) index)) (sym e) (four at (body_field at) index)

-- the calls' own numbers among the endings
abbrev pub EndWhy : Ending → Type 0
EndWhy (whole records) = Unit {0}
EndWhy too_long = Unit {0}
EndWhy (faulty at f field) = Unit {0}
EndWhy (refused at k) = (k ≡ 2) ⊎ (k ≡ 7)
EndWhy (refused_at at k index) = (k ≡ 3) ⊎ (k ≡ 4)

numbered : (e : Ending) → EndWhy e → Numbered (last_line e)
numbered (whole records) y = none records
numbered too_long y = of_scene 28 0 65536 (omega arith) (omega arith)
numbered (faulty at f field) y = fault_numbered f at field
numbered (refused at k) y = refused_numbered k at y
numbered (refused_at at k index) y = position_numbered k at index y

stopped : (s : List ℕ) (w : Scene) (x : Step) (e : Ending) → Stops w x e → OwnWhy s w x → EndWhy e
stopped s w _ _ at_end o = tt
stopped s w _ _ (at_fault f field) o = tt
stopped s w _ _ (at_refusal k) o = o
stopped s w _ _ (at_position k index) o = o.0

module _ (s : List ℕ) where
  -- at the last record
  last_own : (h : length s ≤ 65536) → OwnWhy s (ended s h).last (step s (ended s h).last)
  last_own h =
      let e = ended s h in
      own s e.last (reached_kept s h (scene_told s).lines e.last e.reached)

  long : 65536 < length s → (scene_told s).ending ≡ too_long
  unfolding scene_told
  long h = rw (lt-ltb _ _ h) refl

  end_by : (b : Bool) → ltb 65536 (length s) ≡ b → EndWhy (scene_told s).ending
  end_by true t = rw (long (ltb-true _ _ t)) tt
  end_by false t =
      let h = ltb-false 65536 (length s) t in
      let e = ended s h in
      stopped s e.last (step s e.last) (scene_told s).ending e.stops (last_own h)

  pub end_why : EndWhy (scene_told s).ending
  end_why = end_by (ltb 65536 (length s)) refl

  -- ---- its index
  indexed : (w : Scene) (x : Step) (e : Ending) → Stops w x e → OwnWhy s w x → (at k i : ℕ) → e ≡ refused_at at k i → Indexed s at k i
  indexed w _ _ at_end o at k i q = absurd (let z : ◌≡◌ {A = ℕ} 0 1 = cc in omega arith)
  indexed w _ _ (at_fault f field) o at k i q = absurd (let z : ◌≡◌ {A = ℕ} 0 1 = cc in omega arith)
  indexed w _ _ (at_refusal n) o at k i q = absurd (let z : ◌≡◌ {A = ℕ} 0 1 = cc in omega arith)
  indexed w _ _ (at_position n index) o at k i q =
      let a : w.at ≡ at = cc in
      let b : n ≡ k = cc in
      let c : index ≡ i = cc in
      rw (← a, ← b, ← c) o.1

  index_by : (b : Bool) → ltb 65536 (length s) ≡ b → (at k i : ℕ) → (scene_told s).ending ≡ refused_at at k i → Indexed s at k i
  index_by true t at k i e =
      let z : too_long ≡ refused_at at k i = sym (long (ltb-true _ _ t)) ∙ e in
      absurd (let y : ◌≡◌ {A = ℕ} 0 1 = cc in omega arith)
  index_by false t at k i q =
      let h = ltb-false 65536 (length s) t in
      let e = ended s h in
      indexed e.last (step s e.last) (scene_told s).ending e.stops (last_own h) at k i q

pub endings : Endings
endings = record {
  ended = ended;
  numbers = λ s. numbered (scene_told s).ending (end_why s);
  index = λ s. index_by s (ltb 65536 (length s)) refl;
  places = λ s h lines w r f. place_step_lem s w (reached_kept s h lines w r) f;
}
