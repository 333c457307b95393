-- One answer: over the postcondition of `relate` itself, so that an `ensures` that says less breaks this. Assumes nothing.
use Prim.Native.Nat.{zero, suc}
use mathlib.Core.Path.{◌≡◌, refl, sym, ap, ◌∙◌}
use Rattle.std.specs.Prelude.{Result, Ok, Err}
use Rattle.outcomes.specs.Outcomes.{One, OneToOne}
use Rattle.outcomes.proofs.Outcomes.{by_back}
use Rattle.judge.specs.declared.Refusal.{Refusal}
use Rattle.judge.proofs.Numbers.{named, named_number}
use Rattle.loop_ask.specs.Answers.{Told, refused, answer}
use Rattle.loop_relate.specs.declared.Relation.{Relation}
use Rattle.loop_relate.specs.declared.Relation.TheVariants.{Disjoint, Touching, Intersecting, Containing, Within, Equal}
use Rattle.loop_relate.specs.Relations.{told_related}
use Rattle.loop_relate.proofs.relate as Relate

-- from the number back to the relation
back : Told → Result Relation Refusal
back (refused k) = Err (named k)
back (answer zero) = Ok Disjoint
back (answer (suc zero)) = Ok Touching
back (answer (suc (suc zero))) = Ok Intersecting
back (answer (suc (suc (suc zero)))) = Ok Containing
back (answer (suc (suc (suc (suc zero))))) = Ok Within
back (answer (suc (suc (suc (suc (suc n)))))) = Ok Equal

there_and_back : (x : Result Relation Refusal) → back (told_related x) ≡ x
unfolding back
there_and_back (Err r) = ap Err (named_number r)
there_and_back (Ok Disjoint) = refl
there_and_back (Ok Touching) = refl
there_and_back (Ok Intersecting) = refl
there_and_back (Ok Containing) = refl
there_and_back (Ok Within) = refl
there_and_back (Ok Equal) = refl

pub one_relation : OneToOne told_related
one_relation = by_back told_related back there_and_back

-- nothing is lent to be written, so the answer is all
pub relate_unique : One Relate.Kinds.ps Relate.Kinds.r Relate.Reads.Post
relate_unique κs a x y v w p q = (one_relation x y (p ∙ sym q), refl)
