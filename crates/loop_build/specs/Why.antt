-- What a list and the room lent for its ring are refused for, in the words of SCOPE 25 and the order of SCOPE 26, 0 for nothing. Proved in proofs/Exact.antt. Definitions only.
use Rattle.std.specs.Prelude.{ℕ, ◌*◌, ◌/◌, ◌%◌, ◌≤◌, ◌<◌, ◌≡◌, List, length, Float}
use Rattle.minor_arc.specs.declared.Mode.{Mode}
use Rattle.judge.specs.Why.{Exactly, Refuses, Then, PositionsWhy}
use Rattle.loop_build.specs.Build.{opened_count, refusal, refused, build_outcome}

-- a list
pub data ListWhy (l : List Float) : ℕ → Type 0 where
  -- 1: not in threes
  not_threes : (length l % 3 ≡ 0 → ⊥) → ListWhy l 1
  -- 2: more than 512 positions, a closing one counted
  too_many : length l % 3 ≡ 0 → 512 < length l / 3 → ListWhy l 2
  -- 3 or 4: what the first position has that has one; 0 where none has
  in_positions : {k : ℕ} → length l % 3 ≡ 0 → length l / 3 ≤ 512 → PositionsWhy l (length l / 3) k → ListWhy l k

-- 5: of n positions three or more, and their floats do not fit the positions or the normals, or their codes not the classes; 0: fewer, or all fit
pub data RoomWhy (n positions normals classes : ℕ) : ℕ → Type 0 where
  short_positions : 3 ≤ n → positions < 3 * n → RoomWhy n positions normals classes 5
  short_normals : 3 ≤ n → normals < 3 * n → RoomWhy n positions normals classes 5
  short_classes : 3 ≤ n → classes < n → RoomWhy n positions normals classes 5
  fewer : n < 3 → RoomWhy n positions normals classes 0
  all_fit : 3 * n ≤ positions → 3 * n ≤ normals → n ≤ classes → RoomWhy n positions normals classes 0

-- SCOPE 26: 5 after the list's own, by what is left of it when it is opened
abbrev pub BuildWhy : List Float → List Float → List Float → List ℕ → ℕ → Type 0
BuildWhy l ps ns cs = Then (ListWhy l) (RoomWhy (opened_count l) (length ps) (length ns) (length cs))

-- ---- SCOPE 25: each is given exactly when, as a number and by `build`, in either mode alike
pub record Exact (l ps ns : List Float) (cs : List ℕ) : Type 0 where
  pub number : Exactly (refusal l ps ns cs) (BuildWhy l ps ns cs)
  pub building : (mode : Mode) → Refuses refused (build_outcome mode l ps ns cs).answer (BuildWhy l ps ns cs)
