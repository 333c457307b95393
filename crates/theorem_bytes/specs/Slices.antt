-- SCOPE 40 with the header alone in bytes: what `desk_build_f64` or `desk_build_long_f64` filled, handed back with as much of each slice as its count says, is refused by none of 1 to 6
-- (SCOPE 32, 33, 34). Of lists of doubles, as every lent slice is. Proved in proofs/Sliced.antt. Definitions only.
use Rattle.std.specs.Prelude.{ℕ, ◌*◌, ◌≤◌, ◌<◌, ◌≡◌, List, length, take, Float}
use Rattle.vec3.specs.declared.Vec3.{Vec3}
use Rattle.vec3.specs.Vec.{cleared}
use Rattle.minor_arc.specs.declared.Mode.{Mode}
use Rattle.judge.specs.Judge.{fault_of}
use Rattle.loop_header.specs.Loops.{loop_fault}
use Rattle.loop_build.specs.Build.{Doubles, refusal}
use Rattle.bytes_loop.specs.Layout.{header_size, header_at, header_fault}
use Rattle.bytes_build.specs.Build.{FloatsOutcome, floats_outcome}
use Rattle.bytes_ask.specs.Ask.{number_of, place_told}
use Rattle.bytes_cut.specs.Cut as Cut
use Rattle.bytes_pair.specs.Pair.{floats_told}
use Rattle.bytes_distances.specs.Distances.{far_floats_outcome}
use Rattle.theorem_built.specs.Built.{Loop, AsBuilt, ask}
use Rattle.theorem_bytes.specs.Returned as R

-- a loop's header in bytes, and its three slices
pub record Parts : Type 0 where
  pub header : List ℕ
  pub positions : List Float
  pub normals : List Float
  pub classes : List ℕ

-- the loop that is read from them
abbrev pub loop_in : Parts → Loop
loop_in a = record { header = header_at a.header; positions = a.positions; normals = a.normals; classes = a.classes }

-- what a call filled: the header's 88 bytes, and of each slice as much as the count says
abbrev pub parts_of : FloatsOutcome → Parts
parts_of o = record { header = take header_size o.header; positions = take (3 * o.number) o.positions; normals = take (3 * o.number) o.normals; classes = take o.number o.classes }

-- SCOPE 33, 57: `desk_build_f64`, or in long mode `desk_build_long_f64`, answered a count, which is below 65,536
pub data Filled : Parts → Type 0 where
  filled : (mode : Mode) (l : List Float) (header : List ℕ) (ps ns : List Float) (cs : List ℕ) → Doubles l → (floats_outcome mode l header ps ns cs).number < 65536
      → Filled (parts_of (floats_outcome mode l header ps ns cs))

-- SCOPE 33, 34, 40: for a query that is fine and an output with room
pub record Slices : Type 0 where
  -- every list of doubles that is not refused, with room for the header, makes one
  pub build : (mode : Mode) (l : List Float) (header : List ℕ) (ps ns : List Float) (cs : List ℕ) → Doubles l → refusal l ps ns cs ≡ 0 → header_size ≤ length header
      → Filled (parts_of (floats_outcome mode l header ps ns cs))
  -- SCOPE 57: its mode is the one that it was built in, EMPTY's and FULL's too
  pub mode : (mode : Mode) (l : List Float) (header : List ℕ) (ps ns : List Float) (cs : List ℕ) → Doubles l → (floats_outcome mode l header ps ns cs).number < 65536
      → (header_at (parts_of (floats_outcome mode l header ps ns cs)).header).mode ≡ mode
  -- it is a loop as built, and neither its header's bytes nor the loop are refused
  pub as_built : (a : Parts) → Filled a → AsBuilt (loop_in a)
  pub header_fault_lem : (a : Parts) → Filled a → header_fault a.header ≡ 0
  pub loop_fault_lem : (a : Parts) → Filled a → ask loop_fault (loop_in a) ≡ 0
  pub desk_place_f64 : (a : Parts) → Filled a → (p : Vec3) → fault_of (cleared p) ≡ 0 → number_of (place_told a.header a.positions a.normals a.classes p) ≤ 2
  pub desk_far_f64 : (a : Parts) → Filled a → (p : Vec3) → fault_of (cleared p) ≡ 0 → (out : List Float) → 1 ≤ length out
      → (far_floats_outcome a.header a.positions a.normals a.classes p out).number ≡ 0
  pub desk_triangles_f64 : (a : Parts) → Filled a → (out : List ℕ) → 3 * Cut.triples_of (header_at a.header) ≤ length out
      → R.Cut (header_at a.header) (Cut.floats_outcome a.header a.positions a.classes out).number
  pub desk_pair_f64 : (a b : Parts) → Filled a → Filled b
      → R.Related (header_at a.header) (header_at b.header) (number_of (floats_told a.header a.positions a.normals a.classes b.header b.positions b.normals b.classes))
