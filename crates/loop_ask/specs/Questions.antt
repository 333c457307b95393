-- What the questions answer: the refusal, or the answer's number. SCOPE 26: the loop's refusals before a query position's. Definitions only.
use Rattle.std.specs.Prelude.{ℕ, ◌*◌, ◌≤◌, ◌≡◌, Bool, true, false, not, List, length, eqb, Float, if◌then◌else◌}
use Rattle.std.specs.Bool.{beq}
use Rattle.laws.specs.Loop.{first}
use Rattle.vec3.specs.declared.Vec3.{Vec3}
use Rattle.vec3.specs.Vec.{cleared}
use Rattle.judge.specs.Judge.{fault_of}
use Rattle.loop_header.specs.declared.Header.{Header}
use Rattle.loop_header.specs.declared.State.{State}
use Rattle.loop_header.specs.declared.State.TheVariants.{Empty, Full, Ring}
use Rattle.loop_header.specs.Loops.{loop_fault}
use Rattle.ring_edges.specs.Edges.{on_edge, has_vertex}
use Rattle.ring_shape.specs.Shapes.{convex, simple, same_rings}
use Rattle.loop_ask.specs.Answers.{Told, answer, bool_told, judged}
use Rattle.loop_ask.specs.Places.{place_of}

unfoldable pub query_fault : Header → List Float → List Float → List ℕ → Vec3 → ℕ
query_fault h ps ns cs p = first (loop_fault h ps ns cs) (fault_of p)

unfoldable pub place_answer : Header → List Float → List Float → List ℕ → Vec3 → Told
place_answer h ps ns cs p = judged (query_fault h ps ns cs (cleared p)) (answer (place_of h ps ns (cleared p)))

unfoldable pub vertex_answer : Header → List Float → List Float → List ℕ → Vec3 → Told
vertex_answer h ps ns cs p = judged (query_fault h ps ns cs (cleared p)) (bool_told (has_vertex ps h.count (cleared p)))

unfoldable pub on_edge_answer : Header → List Float → List Float → List ℕ → Vec3 → Told
on_edge_answer h ps ns cs p = judged (query_fault h ps ns cs (cleared p)) (bool_told (on_edge ps ns h.count (cleared p)))

unfoldable pub convex_answer : Header → List Float → List Float → List ℕ → Told
convex_answer h ps ns cs = judged (loop_fault h ps ns cs) (bool_told (convex ps h.count))

-- SCOPE 55: the edges are arcs of the loop's mode
unfoldable pub simple_answer : Header → List Float → List Float → List ℕ → Told
simple_answer h ps ns cs = judged (loop_fault h ps ns cs) (bool_told (simple h.mode ps ns h.count))

-- SCOPE 26: refusals 1 to 4 and 6 of a first loop all come before those of a second
unfoldable pub pair_fault : Header → List Float → List Float → List ℕ → Header → List Float → List Float → List ℕ → ℕ
pair_fault h ps ns cs o qs ms ds = first (loop_fault h ps ns cs) (loop_fault o qs ms ds)

abbrev pub full_state : State → Bool
full_state Empty = false
full_state Full = true
full_state Ring = false

-- sizes of two loops that are not refused
pub record Comparable (h : Header) (ps : List Float) (cs : List ℕ) (o : Header) (qs : List Float) (ds : List ℕ) : Type 0 where
  pub most : h.count ≤ 512
  pub positions : length ps ≡ 3 * h.count
  pub classes : length cs ≡ h.count
  pub others : length qs ≡ 3 * o.count
  pub codes : length ds ≡ o.count

-- SCOPE 23: of loops with no corner, two empty or two full ones; otherwise by positions and classes
unfoldable pub equivalent_loops : Header → List Float → List ℕ → Header → List Float → List ℕ → Bool
equivalent_loops h ps cs o qs ds =
    if not (eqb h.count o.count) then false else
    (if eqb h.count 0 then beq (full_state h.state) (full_state o.state) else same_rings ps cs qs ds h.count)

unfoldable pub equivalent_answer : Header → List Float → List Float → List ℕ → Header → List Float → List Float → List ℕ → Told
equivalent_answer h ps ns cs o qs ms ds = judged (pair_fault h ps ns cs o qs ms ds) (bool_told (equivalent_loops h ps cs o qs ds))
