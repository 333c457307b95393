-- No loop is refused with a number above 6: there is no reason for one. Assumes nothing.
use Prim.Native.Nat.{ℕ, ◌≤◌}
use mathlib.Core.List.{List}
use native.Mathlib.Omega.{arith}
use lib.Ieee.{Float}
use Rattle.vec3.specs.declared.Vec3.{Vec3}
use Rattle.judge.specs.Why.{Then, stops, goes_on_lem, at, nowhere, PositionWhy, fine, not_finite, off_range, PositionsWhy}
use Rattle.loop_header.specs.declared.Header.{Header}
use Rattle.loop_header.specs.Why.{RingWhy, too_many, code_above, in_positions, VectorsWhy, normal, centre, radius, inside, all_finite, LoopWhy, loop_misshapen, normals_disagree, whole}

-- of one thing and then another
pub then_most : {One Other : ℕ → Type 0} (m : ℕ) → ((j : ℕ) → One j → j ≤ m) → ((j : ℕ) → Other j → j ≤ m) → (k : ℕ) → Then One Other k → k ≤ m
then_most m f g _ (stops w) = f _ w
then_most m f g k (goes_on_lem z w) = g k w

pub position_most : (p : Vec3) (k : ℕ) → PositionWhy p k → k ≤ 6
position_most p _ (fine f r) = omega arith
position_most p _ (not_finite f) = omega arith
position_most p _ (off_range f r) = omega arith

pub positions_most : (l : List Float) (n k : ℕ) → PositionsWhy l n k → k ≤ 6
positions_most l n _ (at i b w z) = position_most _ _ w
positions_most l n _ (nowhere z) = omega arith

ring_most : (h : Header) (ps : List Float) (cs : List ℕ) (k : ℕ) → RingWhy h ps cs k → k ≤ 6
ring_most h ps cs _ (too_many m) = omega arith
ring_most h ps cs _ (code_above m i b c) = omega arith
ring_most h ps cs k (in_positions m c w) = positions_most ps h.count k w

vectors_most : (h : Header) (ns : List Float) (k : ℕ) → VectorsWhy h ns k → k ≤ 6
vectors_most h ns _ (normal i b f) = omega arith
vectors_most h ns _ (centre f) = omega arith
vectors_most h ns _ (radius f) = omega arith
vectors_most h ns _ (inside f) = omega arith
vectors_most h ns _ (all_finite n c r i) = omega arith

pub loop_most : (h : Header) (ps ns : List Float) (cs : List ℕ) (k : ℕ) → LoopWhy h ps ns cs k → k ≤ 6
loop_most h ps ns cs _ (loop_misshapen m) = omega arith
loop_most h ps ns cs _ (normals_disagree m) = omega arith
loop_most h ps ns cs k (whole s n w) = then_most 6 (ring_most h ps cs) (vectors_most h ns) k w
