-- What cutting and the checker refuse, and for what, in the words of SCOPE 25 and the order of SCOPE 26, 0 for nothing. Proved in proofs/Exact.antt. Definitions only.
use Rattle.std.specs.Prelude.{ℕ, ◌-◌, ◌*◌, ◌≤◌, ◌<◌, List, length, Float}
use Rattle.judge.specs.Why.{Refuses, Then}
use Rattle.ring_cut.specs.Cut.{whole_ring}
use Rattle.ring_check.specs.Demand.{MeetsNoEar}
use Rattle.loop_header.specs.declared.State.{State}
use Rattle.loop_header.specs.declared.State.TheVariants.{Empty, Full, Ring}
use Rattle.loop_header.specs.declared.Header.{Header}
use Rattle.loop_header.specs.Why.{CutWhy, CheckWhy}
use Rattle.loop_ask.specs.Answers.{refused}
use Rattle.loop_triangles.specs.Triangles.{triangulate_outcome, accepts_answer}

-- of n corners, with room for so many numbers
pub data TrianglesWhy (n room : ℕ) (ps : List Float) (cs : List ℕ) : State → ℕ → Type 0 where
  -- the empty loop has no triangle, and the full one twenty. 5: fewer than 60 numbers
  empty_fits : TrianglesWhy n room ps cs Empty 0
  full_short : room < 60 → TrianglesWhy n room ps cs Full 5
  full_fits : 60 ≤ room → TrianglesWhy n room ps cs Full 0
  -- 5: fewer numbers than n - 2 triangles have
  ring_short : room < 3 * (n - 2) → TrianglesWhy n room ps cs Ring 5
  -- 8: cutting reaches a ring above three that has no eligible ear; 0: it does not
  no_ear : 3 * (n - 2) ≤ room → MeetsNoEar ps (whole_ring cs) → TrianglesWhy n room ps cs Ring 8
  ears : 3 * (n - 2) ≤ room → (MeetsNoEar ps (whole_ring cs) → ⊥) → TrianglesWhy n room ps cs Ring 0

-- SCOPE 26: 5, then 8, after all that a loop is refused for
abbrev pub TriangulateWhy : Header → List Float → List ℕ → List ℕ → ℕ → Type 0
TriangulateWhy h ps cs tris = Then (CutWhy h ps cs) (TrianglesWhy h.count (length tris) ps cs h.state)

-- SCOPE 25: each is given exactly when
pub record Exact (h : Header) (ps : List Float) (cs tris : List ℕ) : Type 0 where
  pub triangulate : Refuses refused (triangulate_outcome h ps cs tris).answer (TriangulateWhy h ps cs tris)
  pub accepts : Refuses refused (accepts_answer h ps cs tris) (CheckWhy h ps cs (length tris))
