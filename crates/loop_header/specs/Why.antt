-- What a loop that is handed back is refused for, in the words of SCOPE 25 and the order of SCOPE 26, 0 for nothing. Proved in proofs/Exact.antt. Definitions only.
use Rattle.std.specs.Prelude.{ℕ, ◌*◌, ◌%◌, ◌≤◌, ◌<◌, ◌≡◌, true, false, List, Option, None, Some, length, get_or, Float}
use Rattle.numbers.specs.Finite.{finite}
use Rattle.vec3.specs.declared.Vec3.{Vec3}
use Rattle.vec3.specs.Vec.{pos_at}
use Rattle.judge.specs.Why.{Exactly, Then, Finite, NotFinite, PositionsWhy}
use Rattle.loop_header.specs.declared.State.{State}
use Rattle.loop_header.specs.declared.State.TheVariants.{Empty, Full, Ring}
use Rattle.loop_header.specs.declared.Header.{Header}
use Rattle.loop_header.specs.Loops.{cut_fault, check_fault, loop_fault}

-- ---- refusal 1
-- the count fits the state: 0 for empty and full, at least 3 for a ring
pub data Fits (count : ℕ) : State → Type 0 where
  empty_none : count ≡ 0 → Fits count Empty
  full_none : count ≡ 0 → Fits count Full
  ring_three : 3 ≤ count → Fits count Ring

-- it does not
pub data Misfits (count : ℕ) : State → Type 0 where
  empty_some : 0 < count → Misfits count Empty
  full_some : 0 < count → Misfits count Full
  ring_few : count < 3 → Misfits count Ring

-- the shape is right: the count fits, and there are three floats and one code for each corner
pub record Shaped (h : Header) (ps : List Float) (cs : List ℕ) : Type 0 where
  pub fits : Fits h.count h.state
  pub positions : length ps ≡ 3 * h.count
  pub classes : length cs ≡ h.count

-- it is not
pub data Misshapen (h : Header) (ps : List Float) (cs : List ℕ) : Type 0 where
  count_misfits : Misfits h.count h.state → Misshapen h ps cs
  positions_disagree : (length ps ≡ 3 * h.count → ⊥) → Misshapen h ps cs
  classes_disagree : (length cs ≡ h.count → ⊥) → Misshapen h ps cs

-- ---- refusals 2, 6, 3 and 4
-- every class code is at most 2
abbrev pub Coded : List ℕ → Type 0
Coded cs = (i : ℕ) → i < length cs → get_or cs i 0 ≤ 2

-- what a loop of the right shape is refused for, without its normals, cap and insides
pub data RingWhy (h : Header) (ps : List Float) (cs : List ℕ) : ℕ → Type 0 where
  -- 2: a count above 512
  too_many : 512 < h.count → RingWhy h ps cs 2
  -- 6: some class code above 2
  code_above : h.count ≤ 512 → (i : ℕ) → i < length cs → 2 < get_or cs i 0 → RingWhy h ps cs 6
  -- 3 or 4: what the first position has that has one; 0 where none has
  in_positions : {k : ℕ} → h.count ≤ 512 → Coded cs → PositionsWhy ps h.count k → RingWhy h ps cs k

-- ---- refusal 3 of what a question reads beside
-- both insides are finite, if there are any
pub data FiniteInsides : Option (Vec3 × Vec3) → Type 0 where
  no_insides : FiniteInsides None
  finite_insides : {a b : Vec3} → Finite a → Finite b → FiniteInsides (Some (a, b))

-- one of them is not
pub data NotFiniteInsides : Option (Vec3 × Vec3) → Type 0 where
  first_inside_lem : {a b : Vec3} → NotFinite a → NotFiniteInsides (Some (a, b))
  second_inside_lem : {a b : Vec3} → NotFinite b → NotFiniteInsides (Some (a, b))

-- 3: a normal, the cap's centre or radius, or an inside is not finite; 0: all are
pub data VectorsWhy (h : Header) (ns : List Float) : ℕ → Type 0 where
  normal : (i : ℕ) → i < h.count → NotFinite (pos_at ns i) → VectorsWhy h ns 3
  centre : NotFinite h.cap.centre → VectorsWhy h ns 3
  radius : finite h.cap.radius.0 ≡ false → VectorsWhy h ns 3
  inside : NotFiniteInsides h.insides → VectorsWhy h ns 3
  all_finite : ((i : ℕ) → i < h.count → Finite (pos_at ns i)) → Finite h.cap.centre → finite h.cap.radius.0 ≡ true → FiniteInsides h.insides
      → VectorsWhy h ns 0

-- ---- who reads what
-- SCOPE 27: cutting reads count, state, positions and classes alone
pub data CutWhy (h : Header) (ps : List Float) (cs : List ℕ) : ℕ → Type 0 where
  cut_misshapen : Misshapen h ps cs → CutWhy h ps cs 1
  cut_ring : {k : ℕ} → Shaped h ps cs → RingWhy h ps cs k → CutWhy h ps cs k

-- 9: the checker is given an empty or full loop
pub data StateWhy : State → ℕ → Type 0 where
  empty_loop_lem : StateWhy Empty 9
  full_loop_lem : StateWhy Full 9
  ring_loop_lem : StateWhy Ring 0

-- the checker reads a triangle slice too, 1 where that is not in threes, and judges 9 after all others
pub data CheckWhy (h : Header) (ps : List Float) (cs : List ℕ) (size : ℕ) : ℕ → Type 0 where
  check_misshapen : Misshapen h ps cs → CheckWhy h ps cs size 1
  not_threes : (size % 3 ≡ 0 → ⊥) → CheckWhy h ps cs size 1
  check_ring : {k : ℕ} → Shaped h ps cs → size % 3 ≡ 0 → Then (RingWhy h ps cs) (StateWhy h.state) k → CheckWhy h ps cs size k

-- a question reads a whole loop, normals, cap and insides after all positions
pub data LoopWhy (h : Header) (ps ns : List Float) (cs : List ℕ) : ℕ → Type 0 where
  loop_misshapen : Misshapen h ps cs → LoopWhy h ps ns cs 1
  normals_disagree : (length ns ≡ 3 * h.count → ⊥) → LoopWhy h ps ns cs 1
  whole : {k : ℕ} → Shaped h ps cs → length ns ≡ 3 * h.count → Then (RingWhy h ps cs) (VectorsWhy h ns) k → LoopWhy h ps ns cs k

-- ---- SCOPE 25: each is given exactly when
pub record Exact (h : Header) (ps : List Float) (cs : List ℕ) : Type 0 where
  pub cutting : Exactly (cut_fault h ps cs) (CutWhy h ps cs)
  pub checking : (size : ℕ) → Exactly (check_fault h ps cs size) (CheckWhy h ps cs size)
  pub whole_loop : (ns : List Float) → Exactly (loop_fault h ps ns cs) (LoopWhy h ps ns cs)
