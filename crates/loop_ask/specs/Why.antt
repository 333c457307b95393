-- What the questions refuse, and for what, in the words of SCOPE 25 and the order of SCOPE 26, 0 for nothing. Proved in proofs/Exact.antt. Definitions only.
use Rattle.std.specs.Prelude.{ℕ, List, Float}
use Rattle.vec3.specs.declared.Vec3.{Vec3}
use Rattle.vec3.specs.Vec.{cleared}
use Rattle.judge.specs.Why.{Exactly, Refuses, Then, PositionWhy}
use Rattle.loop_header.specs.declared.Header.{Header}
use Rattle.loop_header.specs.Why.{LoopWhy}
use Rattle.loop_ask.specs.Answers.{refused}
use Rattle.loop_ask.specs.Questions.{pair_fault, place_answer, vertex_answer, on_edge_answer, convex_answer, simple_answer, equivalent_answer}

-- a loop, then a query position
abbrev pub QueryWhy : Header → List Float → List Float → List ℕ → Vec3 → ℕ → Type 0
QueryWhy h ps ns cs p = Then (LoopWhy h ps ns cs) (PositionWhy p)

-- a loop, then a second
abbrev pub PairWhy : Header → List Float → List Float → List ℕ → Header → List Float → List Float → List ℕ → ℕ → Type 0
PairWhy h ps ns cs o qs ms ds = Then (LoopWhy h ps ns cs) (LoopWhy o qs ms ds)

-- SCOPE 25: each is given exactly when. SCOPE 3: a query position is read free of -0.0
pub record Exact (h : Header) (ps ns : List Float) (cs : List ℕ) : Type 0 where
  pub place : (p : Vec3) → Refuses refused (place_answer h ps ns cs p) (QueryWhy h ps ns cs (cleared p))
  pub vertex : (p : Vec3) → Refuses refused (vertex_answer h ps ns cs p) (QueryWhy h ps ns cs (cleared p))
  pub on_edge_lem : (p : Vec3) → Refuses refused (on_edge_answer h ps ns cs p) (QueryWhy h ps ns cs (cleared p))
  pub convex : Refuses refused (convex_answer h ps ns cs) (LoopWhy h ps ns cs)
  pub simple : Refuses refused (simple_answer h ps ns cs) (LoopWhy h ps ns cs)
  -- of two loops, as a number and as `is_equivalent` answers
  pub pair : (o : Header) (qs ms : List Float) (ds : List ℕ) → Exactly (pair_fault h ps ns cs o qs ms ds) (PairWhy h ps ns cs o qs ms ds)
  pub equivalent : (o : Header) (qs ms : List Float) (ds : List ℕ) → Refuses refused (equivalent_answer h ps ns cs o qs ms ds) (PairWhy h ps ns cs o qs ms ds)
