-- What building a loop answers, and what it leaves in the slices that it was lent (SCOPE 11 to 15, 54). Definitions only.
use Rattle.std.specs.Prelude.{ℕ, zero, suc, ◌*◌, ◌/◌, ◌%◌, ◌≤◌, ◌<◌, ◌≡◌, Bool, true, false, ◌&&◌, ◌||◌, cond, List, Option, None, ◌++◌, length, drop, get_or, T, ltb, leb, eqb, Float, Result, Ok, Err}
use Rattle.std.specs.Float.{nan, binary64}
use Rattle.std.specs.Float.Ieee.{fits}
use Rattle.laws.specs.Loop.{first}
use Rattle.angle.specs.declared.Angle.{Angle}
use Rattle.angle.specs.Angles.{weak}
use Rattle.vec3.specs.declared.Vec3.{Vec3}
use Rattle.cap.specs.Caps.{bounding_cap}
use Rattle.minor_arc.specs.declared.Mode.{Mode}
use Rattle.judge.specs.Judge.{positions_fault}
use Rattle.judge.specs.declared.Refusal.{Refusal}
use Rattle.judge.specs.Refusals.{number}
use Rattle.ring_turns.specs.Turns.{edge_normals, turn_sum}
use Rattle.ring_corners.specs.Corners.{opened, reversal, ring_of, normals_of, classes_of, all_both}
use Rattle.ring_insides.specs.Insides.{insides_of}
use Rattle.loop_header.specs.declared.Header.{Header}
use Rattle.loop_header.specs.declared.State.TheVariants.{Ring}
use Rattle.loop_header.specs.Loops.{empty_header, full_header}

-- SCOPE 1: each element is a double, as in every slice of floats that is lent
abbrev pub Doubles : List Float → Type 0
Doubles l = (i : ℕ) → i < length l → T (fits binary64 (get_or l i nan))

-- SCOPE 25: 1 where the list is not in threes, 2 above 512 positions, then 3 and 4 position by position
unfoldable pub list_fault : List Float → ℕ
list_fault l =
    first (cond (eqb (length l % 3) 0) 0 1)
    (first (cond (ltb 512 (length l / 3)) 2 0) (positions_fault l (length l / 3)))

-- SCOPE 26: 5 is judged by the opened count where that is three or more, for positions, normals and classes each
unfoldable pub room_fault : ℕ → ℕ → ℕ → ℕ → ℕ
room_fault n positions normals classes = cond (leb 3 n && ((ltb positions (3 * n) || ltb normals (3 * n)) || ltb classes n)) 5 0

-- how many positions are left of a list when it is opened
abbrev pub opened_count : List Float → ℕ
opened_count l = opened l (length l / 3)

unfoldable pub refusal : List Float → List Float → List Float → List ℕ → ℕ
refusal l ps ns cs = first (list_fault l) (room_fault (opened_count l) (length ps) (length ns) (length cs))

-- what is worked out ahead of any writing
pub record Prepared : Type 0 where
  pub sum : Angle
  pub edges : List Float
  pub classes : List ℕ

abbrev pub prepared : List Float → ℕ → Prepared
prepared l n = record { sum = turn_sum l n; edges = edge_normals l n; classes = classes_of l n (reversal l n) }

-- SCOPE 18: three corners need no insides
unfoldable pub insides_for : List Float → List ℕ → Option (Vec3 × Vec3)
insides_for ps cs = cond (ltb 3 (length cs)) (insides_of ps cs) None

-- a ring's header. SCOPE 14: the cap is that of the opened list in the order given, before any reversal. SCOPE 54: the mode is stored; SCOPE 55: nothing
-- else of building goes by it
unfoldable pub ring_header : Mode → List Float → ℕ → Bool → Header
ring_header mode l n reversed = record {
  count = n;
  state = Ring;
  cap = bounding_cap l n;
  insides = insides_for (ring_of l n reversed) (classes_of l n reversed);
  reversed = reversed;
  weak = weak (turn_sum l n);
  mode = mode;
}

-- what the writing of a ring is handed: what was prepared, and room
pub record Ready (l : List Float) (n : ℕ) (reversed : Bool) (edges : List Float) (codes : List ℕ) (positions normals classes : ℕ) : Type 0 where
  pub least : 3 ≤ n
  pub most : n ≤ 512
  pub listed : 3 * n ≤ length l
  pub prepared_edges : edges ≡ edge_normals l n
  pub prepared_codes : codes ≡ classes_of l n reversed
  pub positions_room : 3 * n ≤ positions
  pub normals_room : 3 * n ≤ normals
  pub classes_room : n ≤ classes

-- what the making of a loop is lent: exact work arrays, and room
pub record Lent (l : List Float) (n edges codes positions normals classes : ℕ) : Type 0 where
  pub least : 3 ≤ n
  pub most : n ≤ 512
  pub listed : 3 * n ≤ length l
  pub edges_size : edges ≡ 3 * n
  pub codes_size : codes ≡ n
  pub positions_room : 3 * n ≤ positions
  pub normals_room : 3 * n ≤ normals
  pub classes_room : n ≤ classes

-- a ring that is written: its insides, and the three slices. SCOPE 27: what lies past a result stays
pub record Written : Type 0 where
  pub insides : Option (Vec3 × Vec3)
  pub positions : List Float
  pub normals : List Float
  pub classes : List ℕ

abbrev pub written : List Float → ℕ → Bool → List Float → List Float → List ℕ → Written
written l n reversed ps ns cs = record {
  insides = insides_for (ring_of l n reversed) (classes_of l n reversed);
  positions = ring_of l n reversed ++ drop (3 * n) ps;
  normals = normals_of l n reversed ++ drop (3 * n) ns;
  classes = classes_of l n reversed ++ drop n cs;
}

-- a header, and the three slices
pub record Made : Type 0 where
  pub header : Header
  pub positions : List Float
  pub normals : List Float
  pub classes : List ℕ

abbrev pub ring_made : Mode → List Float → ℕ → Bool → List Float → List Float → List ℕ → Made
ring_made mode l n reversed ps ns cs = record {
  header = ring_header mode l n reversed;
  positions = ring_of l n reversed ++ drop (3 * n) ps;
  normals = normals_of l n reversed ++ drop (3 * n) ns;
  classes = classes_of l n reversed ++ drop n cs;
}

-- SCOPE 13, 27: where all classes are both the loop is FULL, and the slices are as they were
abbrev pub made_if : Bool → Mode → List Float → ℕ → Bool → List Float → List Float → List ℕ → Made
made_if true mode l n reversed ps ns cs = record { header = full_header mode (weak (turn_sum l n)); positions = ps; normals = ns; classes = cs }
made_if false mode l n reversed ps ns cs = ring_made mode l n reversed ps ns cs

unfoldable pub made : Mode → List Float → ℕ → List Float → List Float → List ℕ → Made
made mode l n ps ns cs = made_if (all_both (classes_of l n (reversal l n))) mode l n (reversal l n) ps ns cs

-- SCOPE 27: the answer by cases, the refusal's number or the header's values
pub data Told : Type 0 where
  refused : ℕ → Told
  loop : Header → Told

abbrev pub told : Result Header Refusal → Told
told (Err r) = refused (number r)
told (Ok h) = loop h

-- what a call comes to: its answer and the three slices
pub record Outcome : Type 0 where
  pub answer : Told
  pub positions : List Float
  pub normals : List Float
  pub classes : List ℕ

abbrev pub kept : Told → List Float → List Float → List ℕ → Outcome
kept a ps ns cs = record { answer = a; positions = ps; normals = ns; classes = cs }

abbrev pub outcome_of : Made → Outcome
outcome_of m = record { answer = loop m.header; positions = m.positions; normals = m.normals; classes = m.classes }

-- SCOPE 11: with fewer than three left the loop is EMPTY
abbrev pub outcome_if : Bool → Mode → List Float → ℕ → List Float → List Float → List ℕ → Outcome
outcome_if true mode l n ps ns cs = kept (loop (empty_header mode)) ps ns cs
outcome_if false mode l n ps ns cs = outcome_of (made mode l n ps ns cs)

-- by the refusal's number
abbrev pub outcome_by : ℕ → Mode → List Float → List Float → List Float → List ℕ → Outcome
outcome_by (suc k) mode l ps ns cs = kept (refused (suc k)) ps ns cs
outcome_by zero mode l ps ns cs = outcome_if (ltb (opened_count l) 3) mode l (opened_count l) ps ns cs

unfoldable pub build_outcome : Mode → List Float → List Float → List Float → List ℕ → Outcome
build_outcome mode l ps ns cs = outcome_by (refusal l ps ns cs) mode l ps ns cs
