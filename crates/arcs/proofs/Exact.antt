-- Each refusal of the six functions on arcs is given exactly when SCOPE 25 says, in the order of SCOPE 26: both directions. Assumes nothing.
use Prim.Native.Nat.{ℕ, suc}
use mathlib.Core.Path.{◌≡◌, refl}
use mathlib.Core.Bool.{Bool, true, false}
use Rattle.std.specs.Prelude.{Option, None, Some}
use Rattle.laws.specs.Loop.{first}
use Rattle.vec3.specs.declared.Vec3.{Vec3}
use Rattle.vec3.specs.Vec.{cleared}
use Rattle.base.specs.declared.Side.{Side}
use Rattle.base.specs.declared.Side.TheVariants.{Left, Right, Collinear}
use Rattle.judge.specs.Judge.{fault_of}
use Rattle.judge.specs.Why.{Exactly, Refuses}
use Rattle.judge.proofs.Exactly.{then_exact, refuses}
use Rattle.judge.proofs.Exact as Judge
use Rattle.minor_arc.specs.declared.MinorArc.{MinorArc}
use Rattle.minor_arc.specs.Arcs.{arc_side, on_arc, meeting_of, meeting_point}
use Rattle.arc_relations.specs.declared.MinorArcRelation.{MinorArcRelation}
use Rattle.arc_relations.specs.declared.MinorArcRelation.TheVariants.{Disjoint, Intersecting, Touching, Overlapping}
use Rattle.arc_relations.specs.Relations.{relation_of}
use Rattle.arcs.specs.Answers.{Told, refused, answer, cleared_arc, arc_fault, query_fault, pair_fault, judged, side_told, bool_told, point_told, relation_told}
use Rattle.arcs.specs.Answers.{new_told, opposite_told, side_of_told, contains_told, intersection_told, relate_told}
use Rattle.arcs.specs.Why.{EndsWhy, ArcWhy, QueryWhy, PairWhy, Exact}

-- ---- what is judged
ends_exact : (s e : Vec3) → Exactly (first (fault_of s) (fault_of e)) (EndsWhy s e)
ends_exact s e = then_exact ((Judge.exact).position s) (λ z. (Judge.exact).position e)

arc_exact : (a : MinorArc) → Exactly (arc_fault a) (ArcWhy a)
unfolding arc_fault
arc_exact a = then_exact (ends_exact a.start a.end) (λ z. (Judge.exact).vector a.normal)

pub query_exact : (a : MinorArc) (p : Vec3) → Exactly (query_fault a p) (QueryWhy a p)
query_exact a p = then_exact (arc_exact a) (λ z. (Judge.exact).position p)

pair_exact : (a b : MinorArc) → Exactly (pair_fault a b) (PairWhy a b)
pair_exact a b = then_exact (arc_exact a) (λ z. arc_exact b)

-- ---- what is told of no refusal is an answer
abbrev number : Told → ℕ
number (refused k) = suc k
number (answer n vs) = 0

side_answers : (s : Side) → number (side_told s) ≡ 0
side_answers Left = refl
side_answers Right = refl
side_answers Collinear = refl

bool_answers : (b : Bool) → number (bool_told b) ≡ 0
bool_answers true = refl
bool_answers false = refl

point_answers : (p : Option Vec3) → number (point_told p) ≡ 0
point_answers None = refl
point_answers (Some p) = refl

relation_answers : (r : MinorArcRelation) → number (relation_told r) ≡ 0
relation_answers Disjoint = refl
relation_answers (Intersecting p) = refl
relation_answers (Touching p) = refl
relation_answers (Overlapping a) = refl

judged_exact : {given : ℕ} {Why : ℕ → Type 0} → Exactly given Why → (t : Told) → number t ≡ 0 → Refuses refused (judged given t) Why
judged_exact x t n = refuses refused number (λ k. refl) x (λ z. rw z n) (λ k e. rw e)

pub exact : Exact
unfolding new_told opposite_told side_of_told contains_told intersection_told relate_told
exact = record {
  new = λ s e. judged_exact (ends_exact (cleared s) (cleared e)) _ refl;
  opposite = λ a. judged_exact (arc_exact (cleared_arc a)) _ refl;
  side = λ a p. judged_exact (query_exact (cleared_arc a) (cleared p)) _ (side_answers (arc_side (cleared_arc a) (cleared p)));
  contains = λ a p. judged_exact (query_exact (cleared_arc a) (cleared p)) _ (bool_answers (on_arc (cleared_arc a) (cleared p)));
  intersection = λ mode a b. judged_exact (pair_exact (cleared_arc a) (cleared_arc b)) _ (point_answers (meeting_point (meeting_of mode (cleared_arc a) (cleared_arc b))));
  relate = λ mode a b. judged_exact (pair_exact (cleared_arc a) (cleared_arc b)) _ (relation_answers (relation_of mode (cleared_arc a) (cleared_arc b)));
}
