-- What the six functions on arcs refuse, and for what, in the words of SCOPE 25 and the order of SCOPE 26, 0 for nothing. Proved in proofs/Exact.antt. Definitions only.
use Rattle.std.specs.Prelude.{ℕ}
use Rattle.vec3.specs.declared.Vec3.{Vec3}
use Rattle.vec3.specs.Vec.{cleared}
use Rattle.judge.specs.Why.{Refuses, Then, VectorWhy, PositionWhy}
use Rattle.minor_arc.specs.declared.MinorArc.{MinorArc}
use Rattle.minor_arc.specs.declared.Mode.{Mode}
use Rattle.arcs.specs.Answers.{refused, cleared_arc, new_answer, opposite_answer, side_answer, contains_answer, intersection_answer, relate_answer}

-- the two ends of an arc, one by one, 3 before 4 for each
abbrev pub EndsWhy : Vec3 → Vec3 → ℕ → Type 0
EndsWhy start end = Then (PositionWhy start) (PositionWhy end)

-- an arc: its ends, then its normal
abbrev pub ArcWhy : MinorArc → ℕ → Type 0
ArcWhy a = Then (EndsWhy a.start a.end) (VectorWhy a.normal)

-- an arc, then a query position
abbrev pub QueryWhy : MinorArc → Vec3 → ℕ → Type 0
QueryWhy a p = Then (ArcWhy a) (PositionWhy p)

-- an arc, then a second
abbrev pub PairWhy : MinorArc → MinorArc → ℕ → Type 0
PairWhy a b = Then (ArcWhy a) (ArcWhy b)

-- SCOPE 25: each is given exactly when. SCOPE 3: what is handed in is read free of -0.0
pub record Exact : Type 0 where
  pub new : (s e : Vec3) → Refuses refused (new_answer s e) (EndsWhy (cleared s) (cleared e))
  pub opposite : (a : MinorArc) → Refuses refused (opposite_answer a) (ArcWhy (cleared_arc a))
  pub side : (a : MinorArc) (p : Vec3) → Refuses refused (side_answer a p) (QueryWhy (cleared_arc a) (cleared p))
  pub contains : (a : MinorArc) (p : Vec3) → Refuses refused (contains_answer a p) (QueryWhy (cleared_arc a) (cleared p))
  pub intersection : (mode : Mode) (a b : MinorArc) → Refuses refused (intersection_answer mode a b) (PairWhy (cleared_arc a) (cleared_arc b))
  pub relate : (mode : Mode) (a b : MinorArc) → Refuses refused (relate_answer mode a b) (PairWhy (cleared_arc a) (cleared_arc b))
