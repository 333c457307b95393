-- What the six functions on arcs answer: for each case of an answer its number and values (SCOPE 27). Definitions only.
use Rattle.std.specs.Prelude.{ℕ, zero, suc, ℤ, pos, Bool, true, false, List, [], ◌∷◌, Option, None, Some, Result, Ok, Err}
use Rattle.laws.specs.Loop.{first}
use Rattle.vec3.specs.declared.Vec3.{Vec3}
use Rattle.vec3.specs.Vec.{cleared}
use Rattle.base.specs.declared.Side.{Side}
use Rattle.base.specs.declared.Side.TheVariants.{Left, Right, Collinear}
use Rattle.base.specs.Sides.{side_code}
use Rattle.judge.specs.declared.Refusal.{Refusal}
use Rattle.judge.specs.Refusals.{number}
use Rattle.judge.specs.Judge.{fault_of, vector_fault}
use Rattle.minor_arc.specs.declared.MinorArc.{MinorArc}
use Rattle.arc_relations.specs.declared.MinorArcRelation.{MinorArcRelation}
use Rattle.arc_relations.specs.declared.MinorArcRelation.TheVariants.{Disjoint, Intersecting, Touching, Overlapping}
use Rattle.minor_arc.specs.declared.Mode.{Mode}
use Rattle.minor_arc.specs.Arcs.{arc_of, reversed, arc_side, on_arc, meeting_of, meeting_point}
use Rattle.arc_relations.specs.Relations.{relation_of}

-- a refusal's number alone, or an answer's number and the vectors that come with it
pub data Told : Type 0 where
  refused : ℕ → Told
  answer : ℤ → List Vec3 → Told

abbrev pub vectors : MinorArc → List Vec3
vectors a = a.start ∷ a.end ∷ a.normal ∷ []

-- ---- the number and values of each case, a relation's by SCOPE 9
abbrev pub side_told : Side → Told
side_told Collinear = answer (side_code Collinear) []
side_told Left = answer (side_code Left) []
side_told Right = answer (side_code Right) []

abbrev pub bool_told : Bool → Told
bool_told false = answer (pos 0) []
bool_told true = answer (pos 1) []

abbrev pub point_told : Option Vec3 → Told
point_told None = answer (pos 0) []
point_told (Some p) = answer (pos 1) (p ∷ [])

abbrev pub relation_told : MinorArcRelation → Told
relation_told Disjoint = answer (pos 0) []
relation_told (Intersecting p) = answer (pos 1) (p ∷ [])
relation_told (Touching p) = answer (pos 2) (p ∷ [])
relation_told (Overlapping a) = answer (pos 3) (vectors a)

abbrev pub told_made : Result MinorArc Refusal → Told
told_made (Err r) = refused (number r)
told_made (Ok a) = answer (pos 0) (vectors a)

abbrev pub told_sided : Result Side Refusal → Told
told_sided (Err r) = refused (number r)
told_sided (Ok s) = side_told s

abbrev pub told_contained : Result Bool Refusal → Told
told_contained (Err r) = refused (number r)
told_contained (Ok b) = bool_told b

abbrev pub told_met : Result (Option Vec3) Refusal → Told
told_met (Err r) = refused (number r)
told_met (Ok p) = point_told p

abbrev pub told_related : Result MinorArcRelation Refusal → Told
told_related (Err r) = refused (number r)
told_related (Ok r) = relation_told r

-- ---- what is handed in. SCOPE 3: free of -0.0
abbrev pub cleared_arc : MinorArc → MinorArc
cleared_arc a = record { start = cleared a.start; end = cleared a.end; normal = cleared a.normal }

-- SCOPE 26: an arc's positions one by one, 3 before 4, ahead of its normal; a first arc before a second, both before a query position
unfoldable pub arc_fault : MinorArc → ℕ
arc_fault a = first (first (fault_of a.start) (fault_of a.end)) (vector_fault a.normal 0)

abbrev pub query_fault : MinorArc → Vec3 → ℕ
query_fault a p = first (arc_fault a) (fault_of p)

abbrev pub pair_fault : MinorArc → MinorArc → ℕ
pair_fault a b = first (arc_fault a) (arc_fault b)

-- ---- the answers: the refusal, or what there is to tell
abbrev pub judged : ℕ → Told → Told
judged zero t = t
judged (suc k) t = refused (suc k)

unfoldable pub new_told : Vec3 → Vec3 → Told
new_told s e = judged (first (fault_of s) (fault_of e)) (answer (pos 0) (vectors (arc_of s e)))

unfoldable pub opposite_told : MinorArc → Told
opposite_told a = judged (arc_fault a) (answer (pos 0) (vectors (reversed a)))

unfoldable pub side_of_told : MinorArc → Vec3 → Told
side_of_told a p = judged (query_fault a p) (side_told (arc_side a p))

unfoldable pub contains_told : MinorArc → Vec3 → Told
contains_told a p = judged (query_fault a p) (bool_told (on_arc a p))

-- SCOPE 55: these two take the mode
unfoldable pub intersection_told : Mode → MinorArc → MinorArc → Told
intersection_told mode a b = judged (pair_fault a b) (point_told (meeting_point (meeting_of mode a b)))

unfoldable pub relate_told : Mode → MinorArc → MinorArc → Told
relate_told mode a b = judged (pair_fault a b) (relation_told (relation_of mode a b))

-- of whatever is handed in
abbrev pub new_answer : Vec3 → Vec3 → Told
new_answer s e = new_told (cleared s) (cleared e)

abbrev pub opposite_answer : MinorArc → Told
opposite_answer a = opposite_told (cleared_arc a)

abbrev pub side_answer : MinorArc → Vec3 → Told
side_answer a p = side_of_told (cleared_arc a) (cleared p)

abbrev pub contains_answer : MinorArc → Vec3 → Told
contains_answer a p = contains_told (cleared_arc a) (cleared p)

abbrev pub intersection_answer : Mode → MinorArc → MinorArc → Told
intersection_answer mode a b = intersection_told mode (cleared_arc a) (cleared_arc b)

abbrev pub relate_answer : Mode → MinorArc → MinorArc → Told
relate_answer mode a b = relate_told mode (cleared_arc a) (cleared_arc b)
