-- The number and values of an answer tell it from every other (SCOPE 27), and so each contract leaves one: over the functions' own postconditions, so that an
-- `ensures` that says less breaks this. Assumes nothing.
use Rattle.std.proofs.Common.{◌≡◌, zero, suc, ℤ, pos, negsuc, Bool, true, false, List, [], ◌∷◌, Option, None, Some, Result, Ok, Err, refl, sym, ap, ◌∙◌}
use Rattle.outcomes.specs.Outcomes.{One, OneToOne}
use Rattle.outcomes.proofs.Outcomes.{by_back}
use Rattle.vec3.specs.declared.Vec3.{Vec3}
use Rattle.base.specs.declared.Side.{Side}
use Rattle.base.specs.declared.Side.TheVariants.{Left, Right, Collinear}
use Rattle.judge.specs.declared.Refusal.{Refusal}
use Rattle.judge.proofs.Numbers.{named, named_number}
use Rattle.minor_arc.specs.declared.MinorArc.{MinorArc}
use Rattle.arc_relations.specs.declared.MinorArcRelation.{MinorArcRelation}
use Rattle.arc_relations.specs.declared.MinorArcRelation.TheVariants.{Disjoint, Intersecting, Touching, Overlapping}
use Rattle.arcs.proofs.new as New
use Rattle.arcs.proofs.opposite as Opposite
use Rattle.arcs.proofs.side_of as SideOf
use Rattle.arcs.proofs.contains_position as ContainsPosition
use Rattle.arcs.proofs.intersection as Intersection
use Rattle.arcs.proofs.relate as Relate
use Rattle.arcs.specs.Answers.{Told, refused, answer, told_made, told_sided, told_contained, told_met, told_related}

-- ---- from the number and values back to the answer
abbrev back : {A : Type 0} → (ℤ → List Vec3 → Result A Refusal) → Told → Result A Refusal
back f (refused k) = Err (named k)
back f (answer n vs) = f n vs

-- what no answer is told by goes back to a refusal
abbrev back_arc : ℤ → List Vec3 → Result MinorArc Refusal
back_arc n (a ∷ b ∷ c ∷ vs) = Ok (record { start = a; end = b; normal = c })
back_arc n (a ∷ b ∷ []) = Err (named 0)
back_arc n (a ∷ []) = Err (named 0)
back_arc n [] = Err (named 0)

made_back : (x : Result MinorArc Refusal) → back back_arc (told_made x) ≡ x
made_back (Err r) = ap Err (named_number r)
made_back (Ok a) = refl

abbrev back_side : ℤ → List Vec3 → Result Side Refusal
back_side (negsuc n) vs = Ok Right
back_side (pos zero) vs = Ok Collinear
back_side (pos (suc n)) vs = Ok Left

sided_back : (x : Result Side Refusal) → back back_side (told_sided x) ≡ x
sided_back (Err r) = ap Err (named_number r)
sided_back (Ok Collinear) = refl
sided_back (Ok Left) = refl
sided_back (Ok Right) = refl

abbrev back_bool : ℤ → List Vec3 → Result Bool Refusal
back_bool (negsuc n) vs = Ok false
back_bool (pos zero) vs = Ok false
back_bool (pos (suc n)) vs = Ok true

contained_back : (x : Result Bool Refusal) → back back_bool (told_contained x) ≡ x
contained_back (Err r) = ap Err (named_number r)
contained_back (Ok false) = refl
contained_back (Ok true) = refl

abbrev back_point : ℤ → List Vec3 → Result (Option Vec3) Refusal
back_point n [] = Ok None
back_point n (p ∷ vs) = Ok (Some p)

met_back : (x : Result (Option Vec3) Refusal) → back back_point (told_met x) ≡ x
met_back (Err r) = ap Err (named_number r)
met_back (Ok None) = refl
met_back (Ok (Some p)) = refl

abbrev back_relation : ℤ → List Vec3 → Result MinorArcRelation Refusal
back_relation (negsuc n) vs = Ok Disjoint
back_relation (pos n) [] = Ok Disjoint
back_relation (pos zero) (p ∷ vs) = Ok Disjoint
back_relation (pos (suc zero)) (p ∷ vs) = Ok (Intersecting p)
back_relation (pos (suc (suc zero))) (p ∷ vs) = Ok (Touching p)
back_relation (pos (suc (suc (suc n)))) (a ∷ []) = Ok Disjoint
back_relation (pos (suc (suc (suc n)))) (a ∷ b ∷ []) = Ok Disjoint
back_relation (pos (suc (suc (suc n)))) (a ∷ b ∷ c ∷ vs) = Ok (Overlapping (record { start = a; end = b; normal = c }))

related_back : (x : Result MinorArcRelation Refusal) → back back_relation (told_related x) ≡ x
related_back (Err r) = ap Err (named_number r)
related_back (Ok Disjoint) = refl
related_back (Ok (Intersecting p)) = refl
related_back (Ok (Touching p)) = refl
related_back (Ok (Overlapping a)) = refl

-- ---- so two answers that are told alike are one
pub one_made : OneToOne told_made
one_made = by_back told_made (back back_arc) made_back

pub one_sided : OneToOne told_sided
one_sided = by_back told_sided (back back_side) sided_back

pub one_contained : OneToOne told_contained
one_contained = by_back told_contained (back back_bool) contained_back

pub one_met : OneToOne told_met
one_met = by_back told_met (back back_point) met_back

pub one_related : OneToOne told_related
one_related = by_back told_related (back back_relation) related_back

-- ---- and each function's contract leaves one: nothing is lent to be written, so the answer is all
pub new_unique : One New.Kinds.ps New.Kinds.r New.Reads.Post
new_unique κs a x y v w p q = (one_made x y (p ∙ sym q), refl)

pub opposite_unique : One Opposite.Kinds.ps Opposite.Kinds.r Opposite.Reads.Post
opposite_unique κs a x y v w p q = (one_made x y (p ∙ sym q), refl)

pub side_of_unique : One SideOf.Kinds.ps SideOf.Kinds.r SideOf.Reads.Post
side_of_unique κs a x y v w p q = (one_sided x y (p ∙ sym q), refl)

pub contains_position_unique : One ContainsPosition.Kinds.ps ContainsPosition.Kinds.r ContainsPosition.Reads.Post
contains_position_unique κs a x y v w p q = (one_contained x y (p ∙ sym q), refl)

pub intersection_unique : One Intersection.Kinds.ps Intersection.Kinds.r Intersection.Reads.Post
intersection_unique κs a x y v w p q = (one_met x y (p ∙ sym q), refl)

pub relate_unique : One Relate.Kinds.ps Relate.Kinds.r Relate.Reads.Post
relate_unique κs a x y v w p q = (one_related x y (p ∙ sym q), refl)
