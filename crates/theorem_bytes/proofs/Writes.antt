-- What `desk_build` or `desk_build_long` wrote is the bytes of a loop as built in its mode, and read again it is that loop. Assumes nothing.
use Prim.Native.Nat.{ℕ, zero, suc, ◌*◌, ◌/◌, ◌%◌, ◌≤◌, ◌<◌}
use mathlib.Core.Path.{◌≡◌, refl, sym, ap, ◌∙◌, subst}
use mathlib.Core.Bool.{Bool, true, false, cond}
use mathlib.Core.List.{List}
use native.Mathlib.Omega.{arith}
use lib.ListN.{length, take, replicate, length-replicate}
use lib.Seq.{sets, sets-eq, take_at}
use lib.Dec.{ltb, eqb}
use lib.Ieee.{Float, nan}
use borrow.Author.Tests.{ltb-false, le-ltb, eq-eqb}
use Rattle.laws.specs.Loop.{first}
use Rattle.laws.proofs.Firsts.{first_zero_lem, test_none}
use Rattle.minor_arc.specs.declared.Mode.{Mode}
use Rattle.loop_header.specs.declared.State.{State}
use Rattle.loop_header.specs.declared.State.TheVariants.{Empty, Full, Ring}
use Rattle.loop_header.specs.Loops.{state_code}
use Rattle.loop_header.proofs.Sounds.{Sound, sound, sound_most, sound_positions, sound_classes}
use Rattle.loop_build.specs.Build as B
use Rattle.loop_build.specs.Build.{Doubles, Made, list_fault, opened_count, refusal}
use Rattle.loop_build.proofs.Modes.{modes}
use Rattle.wire.specs.Wire.{vec_size}
use Rattle.bytes_loop.specs.Outcome.{Outcome, outcome_by}
use Rattle.bytes_loop.specs.Layout.{loop_size, header_at, state_byte, state_fault, frame_fault, corners_for}
use Rattle.bytes_loop.proofs.Faults.{frame_state}
use Rattle.bytes_build.specs.Build.{made_if, made_of, made_bytes, corners, need_fault, built_outcome, list_at, build_outcome, Roomy}
use Rattle.bytes_build.proofs.Builds.{header_is, front_is, count_most}
use Rattle.bytes_build.proofs.Rooms.{same_refusal}
use Rattle.theorem_built.specs.Built.{Loop, AsBuilt, as_built}
use Rattle.theorem_built.proofs.Whole.{whole}
use Rattle.theorem_bytes.specs.Returned.{bytes_of, loop_at, bytes_out, Written, written}
use Rattle.theorem_bytes.proofs.Floats.{read_doubles}
use Rattle.theorem_bytes.proofs.Kept.{kept}
use Rattle.theorem_bytes.proofs.Loops.{state_code_lem, count_same, loop_same, loop_width}

-- ---- a loop as built, in bytes
state_small : (t : State) → state_code t ≤ 2
state_small Empty = omega arith
state_small Full = omega arith
state_small Ring = omega arith

pub state_fine : (s : List ℕ) (t : State) → state_byte s ≡ state_code t → state_fault s ≡ 0
unfolding state_fault
state_fine s t e = rw (e, le-ltb 2 (state_code t) (state_small t))

module _ (a : Loop) (b : AsBuilt a) where
  abbrev known : Sound a.header a.positions a.normals a.classes
  known = sound a.header a.positions a.normals a.classes (whole a b)

  pub same : loop_at (bytes_of a) ≡ a
  same = loop_same a (kept a b) (sound_most known) (sound_positions known) known.normals

  width : length (bytes_of a) ≡ loop_size a.header.count
  width = loop_width a (kept a b) (sound_most known) (sound_positions known) known.normals (sound_classes known)

  pub framed : frame_fault (bytes_of a) ≡ 0
  framed =
      let c = count_same a (kept a b) (sound_most known) (sound_positions known) known.normals in
      let t = state_code_lem a (kept a b) (sound_most known) (sound_positions known) known.normals in
      sym (frame_state (bytes_of a) (rw c width) (sym (state_fine (bytes_of a) a.header.state t)))

-- ---- what was made of a list
abbrev as_loop : Made → Loop
as_loop m = record { header = m.header; positions = m.positions; normals = m.normals; classes = m.classes }

module _ (mode : Mode) (l : List Float) (d : Doubles l) (out : List ℕ) (z : first (list_fault l) (need_fault (length out) (opened_count l)) ≡ 0) where
  floats : List Float
  floats = replicate (3 * corners_for (length out)) nan

  codes : List ℕ
  codes = replicate (corners_for (length out)) 0

  roomy : Roomy (length out) (length floats) (length floats) (length codes)
  unfolding floats codes
  roomy = record { for_positions = length-replicate _ _; for_normals = length-replicate _ _; for_classes = length-replicate _ _ }

  unrefused : (k : ℕ) → refusal l floats floats codes ≡ k → refusal l floats floats codes ≡ 0
  unrefused zero e = e
  unrefused (suc k) e = absurd (let r = same_refusal l floats floats codes (length out) roomy (λ y. omega arith) in omega arith)

  abbrev few : Bool
  few = ltb (opened_count l) 3

  in_arrays : B.build_outcome mode l floats floats codes ≡ B.outcome_if few mode l (opened_count l) floats floats codes
  unfolding B.build_outcome
  in_arrays = rw (unrefused (refusal l floats floats codes) refl)

  header_made : (B.build_outcome mode l floats floats codes).answer ≡ B.loop (made_if few mode l (opened_count l)).header
  header_made = rw in_arrays (header_is mode l (opened_count l) floats floats codes few)

  made_mode : (made_of mode l).header.mode ≡ mode
  unfolding made_of
  made_mode = (modes l floats floats codes).stored mode (made_if few mode l (opened_count l)).header header_made

  made_built : AsBuilt (as_loop (made_of mode l))
  unfolding made_of
  made_built =
      let n = opened_count l in
      let b = as_built mode l floats floats codes (made_if few mode l n).header d header_made in
      subst (λ (a : Loop). AsBuilt a) (rw in_arrays (ap as_loop (front_is mode l n floats floats codes few))) b

  -- the bytes that it takes are there
  room : loop_size (made_of mode l).header.count ≤ length out
  unfolding made_of need_fault corners
  room = by few refl (first_zero_lem (list_fault l) (need_fault (length out) (opened_count l)) z).1
    where
      by : (b : Bool) → ltb (opened_count l) 3 ≡ b → ◌≡◌ {A = ℕ} (cond (ltb (length out) (loop_size (cond b 0 (opened_count l)))) 5 0) 0 → loop_size (made_if b mode l (opened_count l)).header.count ≤ length out
      by true e g = ltb-false _ _ (test_none _ _ g)
      by false e g =
          let m = ltb-false (length out) (loop_size (opened_count l)) (test_none _ _ g) in
          let c = count_most mode l (opened_count l) false in
          omega arith

  front : take (loop_size (made_of mode l).header.count) (sets out 0 (made_bytes (made_of mode l))) ≡ bytes_of (as_loop (made_of mode l))
  front =
      let w : length (made_bytes (made_of mode l)) ≡ loop_size (made_of mode l).header.count = width (as_loop (made_of mode l)) made_built in
      rw (sets-eq (made_bytes (made_of mode l)) out 0 (omega (arith, room))) (take_at (made_bytes (made_of mode l)) _ (loop_size (made_of mode l).header.count) w)

-- ---- an answer is no refusal
answered : (k : ℕ) (out : List ℕ) (x : Outcome ℕ) → (outcome_by k out x).number < 65536 → (k ≡ 0) × (outcome_by k out x ≡ x)
answered zero out x h = (refl, refl)
answered (suc k) out x h = absurd (omega arith)

-- ---- what was written in a mode
pub record Read (mode : Mode) (s : List ℕ) : Type 0 where
  pub loop : Loop
  pub built : AsBuilt loop
  pub moded : loop.header.mode ≡ mode
  pub bytes : s ≡ bytes_of loop

of_list : (mode : Mode) (l : List Float) → Doubles l → (out : List ℕ) → (built_outcome mode l out).number < 65536 → Read mode (bytes_out (built_outcome mode l out))
unfolding built_outcome
of_list mode l d out h =
    let a = answered (first (list_fault l) (need_fault (length out) (opened_count l))) out _ h in
    rw a.1 (record { loop = as_loop (made_of mode l); built = made_built mode l d out a.0; moded = made_mode mode l d out a.0; bytes = front mode l d out a.0 })

pub read_in : (mode : Mode) (list out : List ℕ) → (build_outcome mode list out).number < 65536 → Read mode (bytes_out (build_outcome mode list out))
unfolding build_outcome
read_in mode list out h =
    let a = answered (cond (eqb (length list % vec_size) 0) 0 1) out (built_outcome mode (list_at list) out) h in
    rw a.1 (of_list mode (list_at list) (read_doubles list 0 (length list / 8)) out (rw a.1 at h))

pub read : (s : List ℕ) → Written s → (mode : Mode) × Read mode s
read _ (written mode list out h) = (mode, read_in mode list out h)

module _ {mode : Mode} {s : List ℕ} (found : Read mode s) where
  pub again : loop_at s ≡ found.loop
  again = ap loop_at found.bytes ∙ same found.loop found.built

  pub mode_again : (header_at s).mode ≡ mode
  mode_again = ap (λ (a : Loop). a.header.mode) again ∙ found.moded

pub some : (mode : Mode) (list out : List ℕ) → length list % vec_size ≡ 0 → list_fault (list_at list) ≡ 0 → loop_size (corners (opened_count (list_at list))) ≤ length out
    → Written (bytes_out (build_outcome mode list out))
some mode list out e f r =
    let l = list_at list in
    let m = sound_most (known (as_loop (made_of mode l)) (made_built mode l (read_doubles list 0 (length list / 8)) out none)) in
    written mode list out (rw is (omega (arith, m)))
  where
    none : first (list_fault (list_at list)) (need_fault (length out) (opened_count (list_at list))) ≡ 0
    none = unfold need_fault in rw (f, le-ltb (length out) (loop_size (corners (opened_count (list_at list)))) r)

    is : (build_outcome mode list out).number ≡ (made_of mode (list_at list)).header.count
    is = unfold build_outcome built_outcome in rw (eq-eqb (length list % vec_size) 0 e, none)
