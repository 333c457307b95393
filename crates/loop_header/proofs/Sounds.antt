-- What no refusal tells of a loop that is handed back. Assumes nothing.
use Prim.Native.Nat.{ℕ, ◌*◌, ◌%◌, ◌≤◌}
use mathlib.Core.Path.{◌≡◌, refl}
use mathlib.Core.List.{List}
use native.Mathlib.Omega.{arith}
use lib.ListN.{length}
use lib.Ieee.{Float}
use borrow.Author.Tests.{eqb-true, ltb-false}
use Rattle.laws.proofs.Firsts.{first_zero_lem, test_none, test_passed}
use Rattle.judge.specs.Judge.{positions_fault}
use Rattle.loop_header.specs.declared.State.{State}
use Rattle.loop_header.specs.declared.State.TheVariants.{Empty, Full, Ring}
use Rattle.loop_header.specs.declared.Header.{Header}
use Rattle.loop_header.specs.Loops.{shape_fault, ring_fault, classes_fault, cut_fault, ring_only, check_fault, vectors_fault, loop_fault}
use Rattle.loop_header.proofs.Shapes.{Shape, shape, threes_length}

-- a loop without its normals, cap and insides
pub record Cuttable (h : Header) (ps : List Float) (cs : List ℕ) : Type 0 where
  pub shaped : Shape h ps cs
  pub most : h.count ≤ 512
  pub codes : classes_fault cs ≡ 0
  pub positions_fine : positions_fault ps h.count ≡ 0

ring_fine : (h : Header) (ps : List Float) (cs : List ℕ) → shape_fault h ps cs ≡ 0 → ring_fault h ps cs ≡ 0 → Cuttable h ps cs
unfolding ring_fault
ring_fine h ps cs p q =
    let a = first_zero_lem _ _ q in
    let b = first_zero_lem _ _ a.1 in
    record { shaped = shape h ps cs p; most = ltb-false _ _ (test_none _ _ a.0); codes = b.0; positions_fine = b.1 }

pub cuttable : (h : Header) (ps : List Float) (cs : List ℕ) → cut_fault h ps cs ≡ 0 → Cuttable h ps cs
unfolding cut_fault
cuttable h ps cs e = let a = first_zero_lem _ _ e in ring_fine h ps cs a.0 a.1

-- a whole loop
pub record Sound (h : Header) (ps ns : List Float) (cs : List ℕ) : Type 0 where
  pub ring : Cuttable h ps cs
  pub normals : length ns ≡ 3 * h.count
  pub vectors : vectors_fault h ns ≡ 0

pub sound : (h : Header) (ps ns : List Float) (cs : List ℕ) → loop_fault h ps ns cs ≡ 0 → Sound h ps ns cs
unfolding loop_fault
sound h ps ns cs e =
    let a = first_zero_lem _ _ e in
    let b = first_zero_lem _ _ a.1 in
    let d = first_zero_lem _ _ b.1 in
    record { ring = ring_fine h ps cs a.0 d.0; normals = threes_length _ _ (test_passed _ _ b.0); vectors = d.1 }

-- sizes, as callers of inner functions need them
module _ {h : Header} {ps ns : List Float} {cs : List ℕ} (s : Sound h ps ns cs) where
  pub sound_most : h.count ≤ 512
  sound_most = s.ring.most

  pub sound_positions : length ps ≡ 3 * h.count
  sound_positions = s.ring.shaped.positions

  pub sound_classes : length cs ≡ h.count
  sound_classes = s.ring.shaped.classes

-- the checker goes on with rings alone
only_rings : (s : State) → ring_only s ≡ 0 → s ≡ Ring
only_rings Empty e = absurd (omega arith)
only_rings Full e = absurd (omega arith)
only_rings Ring e = refl

pub record Checkable (h : Header) (ps : List Float) (cs : List ℕ) (size : ℕ) : Type 0 where
  pub ring : Cuttable h ps cs
  pub threes : size % 3 ≡ 0
  pub state : h.state ≡ Ring

pub checkable : (h : Header) (ps : List Float) (cs : List ℕ) (size : ℕ) → check_fault h ps cs size ≡ 0 → Checkable h ps cs size
unfolding check_fault
checkable h ps cs size e =
    let a = first_zero_lem _ _ e in
    let b = first_zero_lem _ _ a.1 in
    let d = first_zero_lem _ _ b.1 in
    record { ring = ring_fine h ps cs a.0 d.0; threes = eqb-true _ _ (test_passed _ _ b.0); state = only_rings h.state d.1 }
