-- A loop as built is not refused, and of its three states it has the header and the slices that building gives. Assumes nothing.
use Prim.Native.Nat.{ℕ, zero, suc, ◌*◌, ◌/◌, ◌≤◌}
use mathlib.Core.Path.{◌≡◌, refl}
use mathlib.Core.Bool.{Bool, true, false, cond}
use mathlib.Core.List.{List, []}
use native.Mathlib.Omega.{arith}
use lib.ListN.{length, drop}
use lib.Seq.{take_at}
use lib.Dec.{ltb, eqb}
use lib.Ieee.{Float, of_bits}
use borrow.Author.Tests.{ltb-false, eq-eqb}
use Rattle.laws.specs.Loop.{first_of}
use Rattle.laws.proofs.Firsts.{first_fine, first_zero_lem}
use Rattle.vec3.specs.Vec.{pos_at}
use Rattle.vec3.proofs.Arrays.{size}
use Rattle.sizes.proofs.Normal.{Fine, fine_of, position_sized}
use Rattle.ring_corners.specs.Corners.{reversal, corner_at, normal_at, ring_of, normals_of, classes_of, all_both}
use Rattle.ring_cut.specs.Cut.{Ring}
use Rattle.minor_arc.specs.declared.Mode.{Mode}
use Rattle.loop_header.specs.declared.Header.{Header}
use Rattle.loop_header.specs.Loops.{empty_header, full_header, threes_of, shape_fault, classes_fault, ring_fault, cap_fault, vectors_fault, cut_fault, loop_fault}
use Rattle.loop_build.specs.Build as B
use Rattle.loop_build.specs.Build.{Doubles, list_fault, opened_count, refusal, ring_header, made_if, made, outcome_of, outcome_if, outcome_by, build_outcome}
use Rattle.loop_build.proofs.Rooms.{Listed, list_fine, fine}
use Rattle.loop_build.proofs.Builts.{codes_count, positions_fine, built_cuttable}
use Rattle.loop_build.proofs.Modes.{modes}
use Rattle.theorem_built.specs.Built.{Loop, handed_back, AsBuilt, as_built, ask}
use Rattle.theorem_built.proofs.Normals.{normals_fine}
use Rattle.theorem_built.proofs.Caps.{bounded_fine, cap_bounded}
use Rattle.theorem_built.proofs.Insides.{insides_fine}

-- ---- the three kinds
abbrev pub empty_loop : Mode → Loop
empty_loop mode = record { header = empty_header mode; positions = []; normals = []; classes = [] }

abbrev pub full_loop : Mode → Bool → Loop
full_loop mode weak = record { header = full_header mode weak; positions = []; normals = []; classes = [] }

abbrev pub ring_loop : Mode → List Float → ℕ → Bool → Loop
ring_loop mode l n reversed = record { header = ring_header mode l n reversed; positions = ring_of l n reversed; normals = normals_of l n reversed; classes = classes_of l n reversed }

-- ---- a ring
module _ (l : List Float) (d : Doubles l) (f : list_fault l ≡ 0) (reversed : Bool) (n : ℕ) (o : n ≡ opened_count l) (least : 3 ≤ n) where
  known : Listed l
  known = list_fine l f

  listed : Fine l n
  listed = fine_of l (length l / 3) n (omega (arith, known.within, known.threes, o)) known.positions_fine

  corners : Fine (ring_of l n reversed) n
  corners = fine_of (ring_of l n reversed) n n (omega arith) (positions_fine l d f reversed n o)

  pub ring : Ring (ring_of l n reversed) (classes_of l n reversed)
  ring =
      let s = size (corner_at l n reversed) n in
      let q = codes_count l n reversed in
      record { whole = omega (arith, s, q); least = omega (arith, q); most = omega (arith, q, known.small, o) }

  vectors_fine : (mode : Mode) → vectors_fault (ring_header mode l n reversed) (normals_of l n reversed) ≡ 0
  unfolding vectors_fault ring_header
  vectors_fine mode =
      let q = codes_count l n reversed in
      first_fine _ _ (normals_fine l n listed reversed)
      (first_fine _ _ (bounded_fine _ (cap_bounded l n listed (omega (arith, known.small, o))))
      (insides_fine (ring_of l n reversed) (classes_of l n reversed) ring (λ j h. position_sized (pos_at (ring_of l n reversed) j) (corners j (omega (arith, q))))))

  pub ring_fine : (mode : Mode) → loop_fault (ring_header mode l n reversed) (ring_of l n reversed) (normals_of l n reversed) (classes_of l n reversed) ≡ 0
  unfolding loop_fault cut_fault threes_of ring_header
  ring_fine mode =
      let h = ring_header mode l n reversed in
      let ps = ring_of l n reversed in
      let cs = classes_of l n reversed in
      let c = first_zero_lem (shape_fault h ps cs) (ring_fault h ps cs) (built_cuttable l d f reversed n o mode least) in
      let m : ◌≡◌ {A = ℕ} (cond (eqb (length (normals_of l n reversed)) (3 * n)) 0 1) 0 = rw (eq-eqb _ _ (size (normal_at l n reversed) n)) in
      first_fine _ _ c.0 (first_fine _ _ m (first_fine _ _ c.1 (vectors_fine mode)))

-- ---- the two others
pub empty_fine : (mode : Mode) → loop_fault (empty_header mode) [] [] [] ≡ 0
unfolding loop_fault shape_fault threes_of ring_fault classes_fault vectors_fault cap_fault first_of of_bits
empty_fine mode = refl

pub full_fine : (mode : Mode) (weak : Bool) → loop_fault (full_header mode weak) [] [] [] ≡ 0
unfolding loop_fault shape_fault threes_of ring_fault classes_fault vectors_fault cap_fault first_of of_bits
full_fine mode weak = refl

-- ---- what `build` answers, by its refusal, the opened count and the classes
same : {a b : Header} → B.loop a ≡ B.loop b → a ≡ b
same e = cc

-- what holds of the empty loop, the full ones and each ring that a list makes holds of each loop as built
module _ (P : Loop → Type 0) (on-empty : (mode : Mode) → P (empty_loop mode)) (on-full : (mode : Mode) (weak : Bool) → P (full_loop mode weak))
    (on-ring : (mode : Mode) (l : List Float) → Doubles l → list_fault l ≡ 0 → (reversed : Bool) (n : ℕ) → n ≡ opened_count l → 3 ≤ n → P (ring_loop mode l n reversed)) where
  module _ (mode : Mode) (l : List Float) (d : Doubles l) {h : Header} where
    of_made : (both reversed : Bool) (n : ℕ) → n ≡ opened_count l → 3 ≤ n → list_fault l ≡ 0 → (ps ns : List Float) (cs : List ℕ)
        → B.loop (made_if both mode l n reversed ps ns cs).header ≡ B.loop h → P (handed_back h (outcome_of (made_if both mode l n reversed ps ns cs)))
    unfolding ring_header
    of_made true reversed n o g f ps ns cs e = rw (← same e) (on-full mode _)
    of_made false reversed n o g f ps ns cs e =
        let p = take_at (ring_of l n reversed) (drop (3 * n) ps) (3 * n) (size (corner_at l n reversed) n) in
        let m = take_at (normals_of l n reversed) (drop (3 * n) ns) (3 * n) (size (normal_at l n reversed) n) in
        let c = take_at (classes_of l n reversed) (drop n cs) n (codes_count l n reversed) in
        rw (← same e, p, m, c) (on-ring mode l d f reversed n o g)

    of_count : (few : Bool) (n : ℕ) → ltb n 3 ≡ few → n ≡ opened_count l → list_fault l ≡ 0 → (ps ns : List Float) (cs : List ℕ)
        → (outcome_if few mode l n ps ns cs).answer ≡ B.loop h → P (handed_back h (outcome_if few mode l n ps ns cs))
    unfolding made
    of_count true n t o f ps ns cs e = rw (← same e) (on-empty mode)
    of_count false n t o f ps ns cs e = of_made (all_both (classes_of l n (reversal l n))) (reversal l n) n o (ltb-false _ _ t) f ps ns cs e

    of_refusal : (k : ℕ) (ps ns : List Float) (cs : List ℕ) → refusal l ps ns cs ≡ k
        → (outcome_by k mode l ps ns cs).answer ≡ B.loop h → P (handed_back h (outcome_by k mode l ps ns cs))
    of_refusal zero ps ns cs z e = of_count (ltb (opened_count l) 3) (opened_count l) refl refl (fine l ps ns cs z).0 ps ns cs e
    of_refusal (suc k) ps ns cs z e = absurd (let x : ◌≡◌ {A = ℕ} 0 1 = cc in omega arith)

  pub of_three : (a : Loop) → AsBuilt a → P a
  of_three _ (as_built mode l ps ns cs h d e) = unfold build_outcome in of_refusal mode l d (refusal l ps ns cs) ps ns cs refl e

some_loop : (few : Bool) (mode : Mode) (l : List Float) (n : ℕ) (ps ns : List Float) (cs : List ℕ) → (h : Header) × ((outcome_if few mode l n ps ns cs).answer ≡ B.loop h)
some_loop true mode l n ps ns cs = (empty_header mode, refl)
some_loop false mode l n ps ns cs = ((made mode l n ps ns cs).header, refl)

pub some : (mode : Mode) (l ps ns : List Float) (cs : List ℕ) → Doubles l → refusal l ps ns cs ≡ 0 → (h : Header) × AsBuilt (handed_back h (build_outcome mode l ps ns cs))
some mode l ps ns cs d z =
    let s = some_loop (ltb (opened_count l) 3) mode l (opened_count l) ps ns cs in
    let e : (build_outcome mode l ps ns cs).answer ≡ B.loop s.0 = unfold build_outcome in rw z s.1 in
    (s.0, as_built mode l ps ns cs s.0 d e)

pub whole : (a : Loop) → AsBuilt a → ask loop_fault a ≡ 0
whole = of_three (λ a. ask loop_fault a ≡ 0) empty_fine full_fine (λ mode l d f reversed n o g. ring_fine l d f reversed n o g mode)

pub stored_mode : (mode : Mode) (l ps ns : List Float) (cs : List ℕ) (h : Header) → (build_outcome mode l ps ns cs).answer ≡ B.loop h → h.mode ≡ mode
stored_mode mode l ps ns cs h e = (modes l ps ns cs).stored mode h e
