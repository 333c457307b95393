-- What the two functions on distances refuse, and for what, in the words of SCOPE 25 and the order of SCOPE 26, 0 for nothing: as a place query's. Proved in
-- proofs/Exact.antt. Definitions only.
use Rattle.std.specs.Prelude.{ℕ, List, Float}
use Rattle.vec3.specs.declared.Vec3.{Vec3}
use Rattle.vec3.specs.Vec.{cleared}
use Rattle.judge.specs.Why.{Refuses}
use Rattle.minor_arc.specs.declared.MinorArc.{MinorArc}
use Rattle.arcs.specs.Answers.{cleared_arc}
use Rattle.arcs.specs.Why as Arcs
use Rattle.loop_header.specs.declared.Header.{Header}
use Rattle.loop_ask.specs.Why as Loops
use Rattle.loop_distances.specs.Distances.{refused, arc_answer, boundary_answer}

-- SCOPE 25: each is given exactly when. SCOPE 3: what is handed in is read free of -0.0
pub record Exact : Type 0 where
  pub arc : (a : MinorArc) (p : Vec3) → Refuses refused (arc_answer a p) (Arcs.QueryWhy (cleared_arc a) (cleared p))
  pub boundary : (h : Header) (ps ns : List Float) (cs : List ℕ) (p : Vec3) → Refuses refused (boundary_answer h ps ns cs p) (Loops.QueryWhy h ps ns cs (cleared p))
