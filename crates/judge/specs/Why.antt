-- What refusals 3 and 4 are given for, in the words of SCOPE 25 and the order of SCOPE 26, and what "exactly when" says. Proved in proofs/Exact.antt. Definitions only.
use Rattle.std.specs.Prelude.{ℕ, suc, ◌<◌, ◌≡◌, true, false, List, Float}
use Rattle.std.specs.Float.Ieee.{le}
use Rattle.numbers.specs.Finite.{finite}
use Rattle.vec3.specs.declared.Vec3.{Vec3}
use Rattle.vec3.specs.Vec.{dot, pos_at}
use Rattle.judge.specs.Judge.{least, greatest, fault_of, vector_fault, first_refused, fault_below, positions_fault}

-- ---- the words of "exactly when"
-- a number is given exactly when there is this reason for it
pub record Exactly (given : ℕ) (Why : ℕ → Type 0) : Type 0 where
  pub given_why : (k : ℕ) → given ≡ k → Why k
  pub why_given : (k : ℕ) → Why k → given ≡ k

-- an answer is the refusal of a number exactly when that is not 0 and there is this reason for it
pub record Refuses {A : Type 0} (refused : ℕ → A) (answer : A) (Why : ℕ → Type 0) : Type 0 where
  pub given_why : (k : ℕ) → answer ≡ refused k → (0 < k) × Why k
  pub why_given : (k : ℕ) → 0 < k → Why k → answer ≡ refused k

-- SCOPE 26: what one thing is refused for, and where it is refused for nothing, what a second is
pub data Then (One Other : ℕ → Type 0) : ℕ → Type 0 where
  stops : {k : ℕ} → One (suc k) → Then One Other (suc k)
  goes_on_lem : {k : ℕ} → One 0 → Other k → Then One Other k

-- SCOPE 26: of n things, one by one, what the first is refused for that is refused; 0 where none is
pub data FirstWhy (Why : ℕ → ℕ → Type 0) (n : ℕ) : ℕ → Type 0 where
  at : {k : ℕ} (i : ℕ) → i < n → Why i (suc k) → ((j : ℕ) → j < i → Why j 0) → FirstWhy Why n (suc k)
  nowhere : ((j : ℕ) → j < n → Why j 0) → FirstWhy Why n 0

-- ---- SCOPE 25: refusal 3
-- no component is NaN or infinite
pub record Finite (v : Vec3) : Type 0 where
  pub finite_x : finite v.x ≡ true
  pub finite_y : finite v.y ≡ true
  pub finite_z : finite v.z ≡ true

-- a component is
pub data NotFinite (v : Vec3) : Type 0 where
  in_x : finite v.x ≡ false → NotFinite v
  in_y : finite v.y ≡ false → NotFinite v
  in_z : finite v.z ≡ false → NotFinite v

-- what a normal, a cap's centre or an inside is refused for
pub data VectorWhy (v : Vec3) : ℕ → Type 0 where
  finite_vector : Finite v → VectorWhy v 0
  not_finite_vector : NotFinite v → VectorWhy v 3

-- ---- SCOPE 10, 25: refusal 4
-- a squared norm from 1 - 2^-40 to 1 + 2^-40, both included
pub record InRange (d : Float) : Type 0 where
  pub from_least : le least d ≡ true
  pub to_greatest : le d greatest ≡ true

-- below 1 - 2^-40, or above 1 + 2^-40
pub data OffRange (d : Float) : Type 0 where
  below : le least d ≡ false → OffRange d
  above : le d greatest ≡ false → OffRange d

-- what a position is refused for: 3 before 4
pub data PositionWhy (p : Vec3) : ℕ → Type 0 where
  fine : Finite p → InRange (dot p p) → PositionWhy p 0
  not_finite : NotFinite p → PositionWhy p 3
  off_range : Finite p → OffRange (dot p p) → PositionWhy p 4

-- what the first of n positions is refused for that has something
abbrev pub PositionsWhy : List Float → ℕ → ℕ → Type 0
PositionsWhy l n = FirstWhy (λ i. PositionWhy (pos_at l i)) n

-- SCOPE 46: of n positions the one at an index is the first that is refused: the index is below n, every earlier position is refused for nothing, the one there for k
pub record Stands (l : List Float) (n k index : ℕ) : Type 0 where
  pub below : index < n
  pub earlier : (j : ℕ) → j < index → PositionWhy (pos_at l j) 0
  pub here : PositionWhy (pos_at l index) k

-- ---- SCOPE 25: 3 and 4 are given exactly when
pub record Exact : Type 0 where
  pub vector : (v : Vec3) → Exactly (vector_fault v 0) (VectorWhy v)
  pub position : (p : Vec3) → Exactly (fault_of p) (PositionWhy p)
  pub positions : (l : List Float) (n : ℕ) → Exactly (positions_fault l n) (PositionsWhy l n)
  -- SCOPE 46: one definition has the index and the number; a number is given with the index at which it stands, and with no other
  pub follows : (l : List Float) (n : ℕ) → positions_fault l n ≡ fault_below l n (first_refused l n)
  pub index : (l : List Float) (n k : ℕ) → positions_fault l n ≡ suc k → Stands l n (suc k) (first_refused l n)
  pub no_other : (l : List Float) (n k i : ℕ) → Stands l n (suc k) i → (positions_fault l n ≡ suc k) × (first_refused l n ≡ i)
