-- A loop that is not refused, by cutting or the checker, is a ring as cutting asks for it. Assumes nothing.
use Prim.Native.Nat.{ℕ, ◌≤◌}
use mathlib.Core.Path.{◌≡◌, sym}
use mathlib.Core.List.{List}
use native.Mathlib.Omega.{arith}
use lib.Ieee.{Float}
use borrow.Author.Tests.{leb-true}
use Rattle.ring_cut.specs.Cut as C
use Rattle.loop_header.specs.declared.State.TheVariants.{Ring}
use Rattle.loop_header.specs.declared.Header.{Header}
use Rattle.loop_header.specs.Loops.{cut_fault, check_fault}
use Rattle.loop_header.proofs.Sounds.{Cuttable, cuttable, checkable}

ring_of_lem : (h : Header) (ps : List Float) (cs : List ℕ) → Cuttable h ps cs → h.state ≡ Ring → C.Ring ps cs
ring_of_lem h ps cs d e =
    let s = d.shaped in
    let l : 3 ≤ h.count = leb-true _ _ (rw e at s.fits) in
    record { whole = omega (arith, s.positions, s.classes); least = omega (arith, s.classes, l); most = omega (arith, s.classes, d.most) }

pub cut_ring : (h : Header) (ps : List Float) (cs : List ℕ) → 0 ≡ cut_fault h ps cs → h.state ≡ Ring → C.Ring ps cs
cut_ring h ps cs z r = ring_of_lem h ps cs (cuttable h ps cs (sym z)) r

pub check_ring : (h : Header) (ps : List Float) (cs : List ℕ) (size : ℕ) → 0 ≡ check_fault h ps cs size → C.Ring ps cs
check_ring h ps cs size z = let d = checkable h ps cs size (sym z) in ring_of_lem h ps cs d.ring d.state
