-- Each refusal of the questions is given exactly when SCOPE 25 says, in the order of SCOPE 26: both directions. Assumes nothing.
use Prim.Native.Nat.{ℕ, suc}
use mathlib.Core.Path.{◌≡◌, refl}
use mathlib.Core.Bool.{Bool, true, false}
use mathlib.Core.List.{List}
use lib.Ieee.{Float}
use Rattle.vec3.specs.declared.Vec3.{Vec3}
use Rattle.vec3.specs.Vec.{cleared}
use Rattle.judge.specs.Why.{Exactly, Refuses}
use Rattle.judge.proofs.Exactly.{then_exact, refuses}
use Rattle.judge.proofs.Exact as Judge
use Rattle.loop_header.specs.declared.Header.{Header}
use Rattle.loop_header.specs.Loops.{loop_fault}
use Rattle.loop_header.specs.Why.{LoopWhy}
use Rattle.loop_header.proofs.Exact as Header
use Rattle.ring_edges.specs.Edges.{on_edge, has_vertex}
use Rattle.ring_shape.specs.Shapes.{convex, simple}
use Rattle.loop_ask.specs.Answers.{Told, refused, answer, bool_told, judged}
use Rattle.loop_ask.specs.Questions.{query_fault, pair_fault, place_answer, vertex_answer, on_edge_answer, convex_answer, simple_answer, equivalent_loops, equivalent_answer}
use Rattle.loop_ask.specs.Why.{QueryWhy, PairWhy, Exact}

-- what is told of no refusal is an answer
abbrev number : Told → ℕ
number (refused k) = suc k
number (answer n) = 0

bool_answers : (b : Bool) → number (bool_told b) ≡ 0
bool_answers true = refl
bool_answers false = refl

pub judged_exact : {given : ℕ} {Why : ℕ → Type 0} → Exactly given Why → (n : ℕ) → Refuses refused (judged given (answer n)) Why
judged_exact x n = refuses refused number (λ k. refl) x (λ z. rw z) (λ k e. rw e)

pub asked_exact : {given : ℕ} {Why : ℕ → Type 0} → Exactly given Why → (b : Bool) → Refuses refused (judged given (bool_told b)) Why
asked_exact x b = refuses refused number (λ k. refl) x (λ z. rw z (bool_answers b)) (λ k e. rw e)

module _ (h : Header) (ps ns : List Float) (cs : List ℕ) where
  loop_exact : Exactly (loop_fault h ps ns cs) (LoopWhy h ps ns cs)
  loop_exact = (Header.exact h ps cs).whole_loop ns

  pub query_exact : (p : Vec3) → Exactly (query_fault h ps ns cs p) (QueryWhy h ps ns cs p)
  unfolding query_fault
  query_exact p = then_exact loop_exact (λ z. (Judge.exact).position p)

  pair_exact : (o : Header) (qs ms : List Float) (ds : List ℕ) → Exactly (pair_fault h ps ns cs o qs ms ds) (PairWhy h ps ns cs o qs ms ds)
  unfolding pair_fault
  pair_exact o qs ms ds = then_exact loop_exact (λ z. (Header.exact o qs ds).whole_loop ms)

  pub exact : Exact h ps ns cs
  unfolding place_answer vertex_answer on_edge_answer convex_answer simple_answer equivalent_answer
  exact = record {
    place = λ p. judged_exact (query_exact (cleared p)) _;
    vertex = λ p. asked_exact (query_exact (cleared p)) (has_vertex ps h.count (cleared p));
    on_edge_lem = λ p. asked_exact (query_exact (cleared p)) (on_edge ps ns h.count (cleared p));
    convex = asked_exact loop_exact (convex ps h.count);
    simple = asked_exact loop_exact (simple h.mode ps ns h.count);
    pair = pair_exact;
    equivalent = λ o qs ms ds. asked_exact (pair_exact o qs ms ds) (equivalent_loops h ps cs o qs ds);
  }
