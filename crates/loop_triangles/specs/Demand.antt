-- Demand 3, the theorem on ears (SCOPE 20), over the public functions `triangulate` and `accepts` as they answer and as they leave the lent triangles, each
-- field under its sentence there. Proved in proofs/Demand.antt: demand_3. Definitions only.
use Rattle.std.specs.Prelude.{ℕ, ◌-◌, ◌*◌, ◌≤◌, ◌≡◌, List, ◌++◌, length, drop, Float}
use Rattle.ring_theory.specs.Demand3.{Demand3}
use Rattle.ring_cut.specs.Cut.{whole_ring}
use Rattle.ring_cut.specs.Accepted.{CutBy, Eligible, Lowest}
use Rattle.ring_check.specs.Demand.{MeetsNoEar}
use Rattle.loop_header.specs.declared.Header.{Header}
use Rattle.loop_header.specs.declared.State.TheVariants.{Ring}
use Rattle.loop_header.specs.Loops.{cut_fault, check_fault}
use Rattle.loop_ask.specs.Answers.{refused, answer}
use Rattle.loop_triangles.specs.Triangles.{outcome, triangulate_outcome, accepts_answer}

-- a ring that is not refused, as no ring that was built is, and room for n - 2 triples; n is the header's count, as many as there are classes
pub record Cuttable (h : Header) (ps : List Float) (cs tris : List ℕ) : Type 0 where
  pub fine : cut_fault h ps cs ≡ 0
  pub ring : h.state ≡ Ring
  pub room : 3 * (length cs - 2) ≤ length tris

-- a list that cutting leaves at the front of the lent triangles
pub record OwnList (h : Header) (ps : List Float) (cs tris : List ℕ) : Type 0 where
  pub list : List ℕ
  -- it answers n - 2 and writes the list; what lies past it stays
  pub answered : triangulate_outcome h ps cs tris ≡ outcome (answer (length cs - 2)) (list ++ drop (length list) tris)
  -- "takes the lowest ear each time"
  pub lowest : CutBy ps (Lowest ps) (whole_ring cs) list
  -- "is otherwise accepted"
  pub accepted : accepts_answer h ps cs list ≡ answer 1
  -- "each side of the loop lies in one triple, every other side in two, run opposite ways, and no two inner sides cross in ring order"
  pub sides : Demand3 (length cs) list

-- what `triangulate` comes to, one or the other
pub data Cutting (h : Header) (ps : List Float) (cs tris : List ℕ) : Type 0 where
  -- "is refused exactly if a ring above three that it reaches has no eligible ear": with 8, and nothing is written
  stuck : MeetsNoEar ps (whole_ring cs) → triangulate_outcome h ps cs tris ≡ outcome (refused 8) tris → Cutting h ps cs tris
  through : (MeetsNoEar ps (whole_ring cs) → ⊥) → OwnList h ps cs tris → Cutting h ps cs tris

-- a list of n - 2 triples, each but the last an eligible ear of the ring then left as previous, this, next, the last that ring's three, from its first
pub record Ears (ps : List Float) (cs tris : List ℕ) : Type 0 where
  pub count : length tris ≡ 3 * (length cs - 2)
  pub ears : CutBy ps (Eligible ps) (whole_ring cs) tris

pub record Demand : Type 0 where
  -- "a list of triples is accepted exactly if there are n - 2, each but the last is an eligible ear .., and the last is that ring's three": yes only for those,
  -- for all of those, and to every other list of triples the answer is no
  pub yes_only : (h : Header) (ps : List Float) (cs tris : List ℕ) → accepts_answer h ps cs tris ≡ answer 1 → Ears ps cs tris
  pub yes_all : (h : Header) (ps : List Float) (cs tris : List ℕ) → check_fault h ps cs (length tris) ≡ 0 → Ears ps cs tris → accepts_answer h ps cs tris ≡ answer 1
  pub else_no : (h : Header) (ps : List Float) (cs tris : List ℕ) → check_fault h ps cs (length tris) ≡ 0 → (Ears ps cs tris → ⊥) → accepts_answer h ps cs tris ≡ answer 0
  -- "then each side of the loop lies in one triple, every other side in two, run opposite ways, and no two inner sides cross in ring order"
  pub sides : (h : Header) (ps : List Float) (cs tris : List ℕ) → accepts_answer h ps cs tris ≡ answer 1 → Demand3 (length cs) tris
  -- "our cutting takes the lowest ear each time, is refused exactly if .. has no eligible ear, and is otherwise accepted"
  pub cutting : (h : Header) (ps : List Float) (cs tris : List ℕ) → Cuttable h ps cs tris → Cutting h ps cs tris
