-- A line that a record comes to is none that ends a text, its numbers have at most five digits, its bits are below 2^64; and so few digits have the numbers of a
-- fault and of a refusal. Assumes nothing.
use Prim.Native.Nat.{ℕ, zero, suc, ◌+◌, ◌-◌, ◌*◌, ◌/◌, ◌%◌, ◌≤◌, ◌<◌}
use mathlib.Core.Path.{◌≡◌, refl, subst}
use mathlib.Core.Bool.{Bool, true, false, cond}
use mathlib.Core.List.{List, [], ◌∷◌}
use native.Mathlib.Omega.{arith}
use lib.ListN.{length, get_or, length-take}
use lib.Dec.{ltb, leb, eqb}
use lib.Ieee.{Float}
use Rattle.vec3.specs.declared.Vec3.{Vec3}
use Rattle.loop_header.specs.declared.State.{State}
use Rattle.loop_header.specs.declared.State.TheVariants.{Empty, Full, Ring}
use Rattle.loop_header.specs.Loops.{cut_fault}
use Rattle.loop_build.specs.Build as B
use Rattle.loop_ask.specs.Answers.{Told, refused, answer}
use Rattle.ring_cut.specs.Cut as C
use Rattle.loop_triangles.specs.Triangles.{Outcome, outcome, roomy, full_outcome, cut_told, laid, ring_outcome, state_outcome, outcome_by, triangulate_outcome}
use Rattle.scene_lines.specs.declared.Line.{Line}
use Rattle.scene_records.specs.declared.Fault.TheVariants.{CutShort, UnknownKind, WrongLength, NoNumber, Repeated, ManyAreas, ManyPositions}
use Rattle.scene_records.specs.declared.Read.{Read}
use Rattle.scene_records.specs.declared.Read.TheVariants as Read
use Rattle.scene_records.specs.Records.{u16_of, u32_of, kind_field, body_field, area_at, place_at, pair_at, kind_at, read_at, floats_at}
use Rattle.scene_store.specs.declared.Area.{Area}
use Rattle.scene_store.specs.Store.{corners, codes, blank, counted, triangle_count, place_in, pair_in}
use Rattle.scene_far.specs.Said.{Said}
use Rattle.scene_far.specs.Said as Said
use Rattle.scene_far.specs.Far.{far_in, place_said, far_said, said_in}
use Rattle.scene_far.proofs.Refusals.{same_refusals}
use Rattle.scene_far.proofs.Chords.{Bits, far_bits}
use Rattle.loop_distances.specs.Distances as Far
use Rattle.scene_store.proofs.Counts.{built_count}
use Rattle.scene_notes.specs.Judged.{Judged, Fine, Bad}
use Rattle.scene_notes.specs.Noted as N
use Rattle.scene_notes.specs.Noted.{Scene, index_of, judge_area, is_zero, first_zero, is_unmet, judge_numbers, judge_named}
use Rattle.scene_notes.proofs.Tables.{allowed}
use Rattle.judge.specs.Judge.{is_refused, first_refused}
use Rattle.laws.specs.Loop.{first_at}
use Rattle.laws.proofs.Loops.{first_at_le}
use Rattle.scene_steps.specs.Steps.{Step, ended, faulty, refused_at, wrote, of_positions, refusal, area_told, area_out, area_made, area_by, area_step, met, Good}
use Rattle.scene_steps.specs.Steps.{place_told, said_of, place_met, place_by, place_step, pair_told, pair_met, pair_by, pair_step, step_by, step}
use Rattle.scene_steps.specs.Steps as S
use Rattle.scene_run.specs.Texts.{Each, is_last, numbers_of, bits_of}
use Rattle.scene_run.proofs.Refusals.{Few, place_few, pair_few, BuiltFew, built_few}

-- ---- numbers as they are read: two bytes
all_bytes : (s : List ℕ) → ((i : ℕ) → i < length s → get_or s i 0 < 256) → (i : ℕ) → get_or s i 0 < 256
all_bytes [] h i = omega arith
all_bytes (x ∷ s) h zero = h 0 (omega arith)
all_bytes (x ∷ s) h (suc i) = all_bytes s (λ j g. h (suc j) (omega (arith, g))) i

abbrev ReadSmall : Read → Type 0
ReadSmall Read.End = Unit {0}
ReadSmall (Read.Bad f field) = field < 100000
ReadSmall (Read.Area number count) = number < 65536
ReadSmall (Read.Place number far) = number < 65536
ReadSmall (Read.Pair number other) = (number < 65536) × (other < 65536)

either : (b : Bool) (x y : Read) → ReadSmall x → ReadSmall y → ReadSmall (cond b x y)
either true x y f g = f
either false x y f g = g

module _ (s : List ℕ) (bytes : (i : ℕ) → i < length s → get_or s i 0 < 256) (at : ℕ) (small : length s ≤ 65536) (within : at ≤ length s) where
  two_bytes : (k : ℕ) → u16_of s k < 65536
  two_bytes k = omega (arith, all_bytes s bytes k, all_bytes s bytes (k + 1))

  area_read : (len : ℕ) → ReadSmall (area_at s at len)
  unfolding area_at
  area_read len = either (eqb (len % 24) 2) (Read.Area (u16_of s (at + 6)) (len / 24)) (Read.Bad WrongLength at) (two_bytes (at + 6)) (omega arith)

  place_read : (far : Bool) (len : ℕ) → ReadSmall (place_at far s at len)
  unfolding place_at
  place_read far len = either (eqb len 26) (Read.Place (u16_of s (at + 6)) far) (Read.Bad WrongLength at) (two_bytes (at + 6)) (omega arith)

  pair_read : (len : ℕ) → ReadSmall (pair_at s at len)
  unfolding pair_at
  pair_read len = either (eqb len 4) (Read.Pair (u16_of s (at + 6)) (u16_of s (at + 8))) (Read.Bad WrongLength at) (two_bytes (at + 6), two_bytes (at + 8)) (omega arith)

  kind_read : (len : ℕ) → ReadSmall (kind_at s at len)
  unfolding kind_at
  kind_read len =
      let k = u16_of s (at + 4) in
      let fars = cond (eqb k 4) (place_at true s at len) (Read.Bad UnknownKind (kind_field at)) in
      let pairs = cond (eqb k 3) (pair_at s at len) fars in
      either (eqb k 1) (area_at s at len) (cond (eqb k 2) (place_at false s at len) pairs) (area_read len)
      (either (eqb k 2) (place_at false s at len) pairs (place_read false len)
      (either (eqb k 3) (pair_at s at len) fars (pair_read len)
      (either (eqb k 4) (place_at true s at len) (Read.Bad UnknownKind (kind_field at)) (place_read true len) (omega arith))))

  read_small : ReadSmall (read_at s at)
  unfolding read_at
  read_small =
      let k = kind_at s at (u32_of s at) in
      let r = cond (ltb (length s) (at + 6 + u32_of s at)) (Read.Bad CutShort (length s)) k in
      either (leb (length s) at) Read.End (cond (ltb (length s) (at + 6)) (Read.Bad CutShort (length s)) r) tt
      (either (ltb (length s) (at + 6)) (Read.Bad CutShort (length s)) r (omega arith)
      (either (ltb (length s) (at + 6 + u32_of s at)) (Read.Bad CutShort (length s)) k (omega arith) (kind_read (u32_of s at))))

-- ---- triangles: no more than corners, or 20
module _ (m : ℕ) where
  room_few : (b : Bool) (tris : List ℕ) (o : Outcome) → counted o.answer ≤ m → counted (roomy b tris o).answer ≤ m
  room_few true tris o h = omega arith
  room_few false tris o h = h

  told_few : (b : Bool) (n : ℕ) → n ≤ m → counted (cut_told b n) ≤ m
  told_few true n h = h
  told_few false n h = omega arith

  by_few : (k : ℕ) (tris : List ℕ) (o : Outcome) → counted o.answer ≤ m → counted (outcome_by k tris o).answer ≤ m
  by_few zero tris o h = h
  by_few (suc k) tris o h = omega arith

module _ (ps : List Float) (cs tris : List ℕ) where
  ring_few : counted (ring_outcome ps cs tris).answer ≤ length cs + 20
  unfolding ring_outcome
  ring_few =
      let o = C.cut_ring_outcome ps cs tris in
      room_few (length cs + 20) (ltb (length tris) (3 * (length cs - 2))) tris (laid o (length cs - 2)) (told_few (length cs + 20) o.answer (length cs - 2) (omega arith))

  full_few : counted (full_outcome tris).answer ≤ length cs + 20
  unfolding full_outcome
  full_few = room_few (length cs + 20) (ltb (length tris) 60) tris (outcome (answer 20) _) (omega arith)

  state_few : (state : State) → counted (state_outcome state ps cs tris).answer ≤ length cs + 20
  state_few Empty = omega arith
  state_few Full = full_few
  state_few Ring = ring_few

triangles_few : (a : Area) (ps : List Float) (cs : List ℕ) → triangle_count a ps cs ≤ a.header.count + 20
unfolding triangle_count triangulate_outcome
triangles_few a ps cs =
    let few : length (codes a cs) ≤ a.header.count = rw length-take (omega arith) in
    let h = by_few (length (codes a cs) + 20) (cut_fault a.header (corners a ps) (codes a cs)) blank (state_outcome a.header.state (corners a ps) (codes a cs) blank)
    (state_few (corners a ps) (codes a cs) blank a.header.state) in
    omega (arith, h, few)

-- ---- what a record comes to
pub record Small (line : Line) : Type 0 where
  pub not_last : is_last line ≡ false
  pub numbers : Each (λ (n : ℕ). n < 100000) (numbers_of line)
  pub bits : Each (λ (n : ℕ). n < 18446744073709551616) (bits_of line)

abbrev pub StepSmall : Step → Type 0
StepSmall ended = Unit {0}
StepSmall (faulty f field) = field < 100000
StepSmall (S.refused k) = k ≤ 11
StepSmall (refused_at k index) = (k ≤ 11) × (index ≤ 1024)
StepSmall (wrote line next) = Small line

-- a call's own refusal, with the index of a position where it has one
refusal_by : (b : Bool) (k index : ℕ) → k ≤ 11 → index ≤ 1024 → StepSmall (cond b (refused_at k index) (S.refused k))
refusal_by true k index h g = (h, g)
refusal_by false k index h g = h

index_small : (s : List ℕ) (at count : ℕ) → count ≤ 1024 → first_refused (floats_at s at count) count ≤ 1024
unfolding first_refused
index_small s at count h = omega (arith, first_at_le (is_refused (floats_at s at count)) count 0)

refusal_small : (s : List ℕ) (at count k : ℕ) → count ≤ 1024 → k ≤ 11 → StepSmall (refusal k (first_refused (floats_at s at count) count))
unfolding refusal
refusal_small s at count k h g = refusal_by (of_positions k) k _ g (index_small s at count h)

-- what is said of a place
abbrev SaidSmall : Said → Type 0
SaidSmall (Said.Refused k) = k ≤ 11
SaidSmall (Said.Line line) = Small line

place_small : (s : List ℕ) (w : Scene) (t : Said) → SaidSmall t → StepSmall (place_told s w t)
place_small s w (Said.Refused k) f = refusal_small s (w.at + 8) 1 k (omega arith) f
place_small s w (Said.Line line) f = f

module _ (number : ℕ) (h : number < 65536) (a : Area) (ps ns : List Float) (cs : List ℕ) (p : Vec3) where
  place_line_lem : (t : Told) → place_in a ps ns cs p ≡ t → SaidSmall (place_said number t)
  place_line_lem (refused k) e = subst Few e (place_few a ps ns cs p)
  place_line_lem (answer n) e = record { not_last = refl; numbers = (omega arith, tt); bits = tt }

  far_line_lem : (t : Far.Told) → far_in a ps ns cs p ≡ t → SaidSmall (far_said number t)
  far_line_lem (Far.refused k) e = subst Few (same_refusals.far_place a ps ns cs p k e) (place_few a ps ns cs p)
  far_line_lem (Far.chord c) e = record { not_last = refl; numbers = (omega arith, tt); bits = (subst Bits e (far_bits a ps ns cs p), tt) }

  said_small : (far : Bool) → SaidSmall (said_in far number a ps ns cs p)
  unfolding said_in
  said_small true = far_line_lem (far_in a ps ns cs p) refl
  said_small false = place_line_lem (place_in a ps ns cs p) refl

pair_small : (w : Scene) (number other : ℕ) → (number < 65536) × (other < 65536) → (t : Told) → Few t → StepSmall (pair_told w number other t)
pair_small w number other h (refused k) f = f
pair_small w number other h (answer n) f = record { not_last = refl; numbers = (omega (arith, h.0), (omega (arith, h.1), tt)); bits = tt }

-- ---- what a record is judged for
abbrev JudgedSmall : Judged → Type 0
JudgedSmall Fine = Unit {0}
JudgedSmall (Bad f field) = field < 100000

judged_either : (b : Bool) (x y : Judged) → JudgedSmall x → JudgedSmall y → JudgedSmall (cond b x y)
judged_either true x y f g = f
judged_either false x y f g = g

module _ (w : Scene) (h : w.at ≤ 65536) where
  area_judged : (number count : ℕ) → JudgedSmall (judge_area w.areas w.given w.at number count)
  unfolding judge_area
  area_judged number count =
      let field = body_field w.at in
      let many = cond (ltb 1024 (w.given + count)) (Bad ManyPositions w.at) Fine in
      let areas = cond (leb 16 (length w.areas)) (Bad ManyAreas field) many in
      let repeated = cond (ltb (index_of w.areas number) (length w.areas)) (Bad Repeated field) areas in
      judged_either (eqb number 0) (Bad NoNumber field) repeated (omega arith)
      (judged_either (ltb (index_of w.areas number) (length w.areas)) (Bad Repeated field) areas (omega arith)
      (judged_either (leb 16 (length w.areas)) (Bad ManyAreas field) many (omega arith)
      (judged_either (ltb 1024 (w.given + count)) (Bad ManyPositions w.at) Fine (omega arith) tt)))

  numbers_judged : (numbers : List ℕ) → length numbers ≤ 2 → JudgedSmall (judge_named w.areas w.at numbers)
  unfolding judge_numbers first_zero
  numbers_judged numbers g =
      let zeros = first_at (is_zero numbers) (length numbers) 0 in
      let unmets = first_at (is_unmet w.areas numbers) (length numbers) 0 in
      judged_either (ltb zeros (length numbers)) _ _ (omega (arith, first_at_le (is_zero numbers) (length numbers) 0))
      (judged_either (ltb unmets (length numbers)) _ Fine (omega (arith, first_at_le (is_unmet w.areas numbers) (length numbers) 0)) tt)

module _ (s : List ℕ) (w : Scene) where
  area_small : (number count : ℕ) → number < 65536 → Fine ≡ judge_area w.areas w.given w.at number count → (t : B.Told) → t ≡ (area_out s w count).answer → BuiltFew t
      → StepSmall (area_told s w number count (area_out s w count) t)
  area_small number count h g (B.refused k) q f =
      let m = (allowed w.areas w.given w.at number count g).few in
      refusal_small s (w.at + 8) count k (omega (arith, m)) f
  area_small number count h g (B.loop k) q f =
      let c : k.count ≤ count = built_count s (w.at + 8) count w.used w.positions w.normals w.classes q in
      let m = (allowed w.areas w.given w.at number count g).few in
      let o = area_out s w count in
      let d = triangles_few (N.area_at w.used number k) o.positions o.classes in
      record { not_last = refl; numbers = (omega arith, (omega (arith, c, m), (omega (arith, c, m, d), tt))); bits = tt }

  judged_small : (number count : ℕ) → number < 65536 → (j : Judged) → j ≡ judge_area w.areas w.given w.at number count → JudgedSmall j → StepSmall (area_by j s w number count)
  unfolding area_made
  judged_small number count h (Bad f field) q z = z
  judged_small number count h Fine q z =
      area_small number count h q (area_out s w count).answer refl (built_few _ w.used w.positions w.normals w.classes)

  place_by_lem : (far : Bool) (number : ℕ) → number < 65536 → (j : Judged) → JudgedSmall j → StepSmall (place_by j far s w number)
  unfolding place_met
  place_by_lem far number h (Bad f field) z = z
  place_by_lem far number h Fine z = place_small s w (said_of far s w number) (said_small number h (met w number) w.positions w.normals w.classes _ far)

  pair_by_lem : (number other : ℕ) → (number < 65536) × (other < 65536) → (j : Judged) → JudgedSmall j → StepSmall (pair_by j w number other)
  unfolding pair_met
  pair_by_lem number other h (Bad f field) z = z
  pair_by_lem number other h Fine z =
      let t = pair_in (met w number) (met w other) w.positions w.normals w.classes in
      pair_small w number other h t (pair_few (met w number) (met w other) w.positions w.normals w.classes)

  module _ (g : w.at ≤ 65536) where
    by_read : (r : Read) → ReadSmall r → StepSmall (step_by r s w)
    unfolding area_step place_step pair_step
    by_read Read.End h = tt
    by_read (Read.Bad f field) h = h
    by_read (Read.Area number count) h = judged_small number count h (judge_area w.areas w.given w.at number count) refl (area_judged w g number count)
    by_read (Read.Place number far) h = place_by_lem far number h (judge_named w.areas w.at (number ∷ [])) (numbers_judged w g (number ∷ []) (omega arith))
    by_read (Read.Pair number other) h = pair_by_lem number other h (judge_named w.areas w.at (number ∷ other ∷ [])) (numbers_judged w g (number ∷ other ∷ []) (omega arith))

  pub step_small : ((i : ℕ) → i < length s → get_or s i 0 < 256) → Good s w → StepSmall (step s w)
  unfolding step
  step_small bytes g = by_read (omega (arith, g.within, g.small)) (read_at s w.at) (read_small s bytes w.at g.small g.within)
