-- One outcome of each call: over each question's own postcondition, so that an `ensures` that says less breaks this. Assumes nothing.
use Prim.Native.Nat.{zero, suc}
use mathlib.Core.Path.{◌≡◌, refl, sym, ap, ◌∙◌}
use mathlib.Core.Bool.{Bool, true, false}
use Rattle.std.specs.Prelude.{Result, Ok, Err}
use Rattle.outcomes.specs.Outcomes.{One, OneToOne}
use Rattle.outcomes.proofs.Outcomes.{by_back}
use Rattle.judge.specs.declared.Refusal.{Refusal}
use Rattle.judge.proofs.Numbers.{named, named_number}
use Rattle.loop_ask.specs.declared.Place.{Place}
use Rattle.loop_ask.specs.declared.Place.TheVariants.{Outside, Inside, Mute}
use Rattle.loop_ask.specs.Answers.{Told, refused, answer, told_placed, told_answered}
use Rattle.loop_ask.proofs.contains_position as Place
use Rattle.loop_ask.proofs.has_vertex as Vertex
use Rattle.loop_ask.proofs.any_edge_contains_position as OnEdge
use Rattle.loop_ask.proofs.is_convex as Convex
use Rattle.loop_ask.proofs.is_simple as Simple
use Rattle.loop_ask.proofs.is_equivalent as Equivalent

-- ---- from the number back to the answer
back_placed : Told → Result Place Refusal
back_placed (refused k) = Err (named k)
back_placed (answer zero) = Ok Outside
back_placed (answer (suc zero)) = Ok Inside
back_placed (answer (suc (suc n))) = Ok Mute

placed_back : (x : Result Place Refusal) → back_placed (told_placed x) ≡ x
unfolding back_placed
placed_back (Err r) = ap Err (named_number r)
placed_back (Ok Outside) = refl
placed_back (Ok Inside) = refl
placed_back (Ok Mute) = refl

back_answered : Told → Result Bool Refusal
back_answered (refused k) = Err (named k)
back_answered (answer zero) = Ok false
back_answered (answer (suc n)) = Ok true

answered_back : (x : Result Bool Refusal) → back_answered (told_answered x) ≡ x
unfolding back_answered
answered_back (Err r) = ap Err (named_number r)
answered_back (Ok false) = refl
answered_back (Ok true) = refl

pub one_placed : OneToOne told_placed
one_placed = by_back told_placed back_placed placed_back

pub one_answered : OneToOne told_answered
one_answered = by_back told_answered back_answered answered_back

-- ---- nothing is lent to be written, so the answer is all
pub contains_position_unique : One Place.Kinds.ps Place.Kinds.r Place.Reads.Post
contains_position_unique κs a x y v w p q = (one_placed x y (p ∙ sym q), refl)

pub has_vertex_unique : One Vertex.Kinds.ps Vertex.Kinds.r Vertex.Reads.Post
has_vertex_unique κs a x y v w p q = (one_answered x y (p ∙ sym q), refl)

pub any_edge_contains_position_unique : One OnEdge.Kinds.ps OnEdge.Kinds.r OnEdge.Reads.Post
any_edge_contains_position_unique κs a x y v w p q = (one_answered x y (p ∙ sym q), refl)

pub is_convex_unique : One Convex.Kinds.ps Convex.Kinds.r Convex.Reads.Post
is_convex_unique κs a x y v w p q = (one_answered x y (p ∙ sym q), refl)

pub is_simple_unique : One Simple.Kinds.ps Simple.Kinds.r Simple.Reads.Post
is_simple_unique κs a x y v w p q = (one_answered x y (p ∙ sym q), refl)

pub is_equivalent_unique : One Equivalent.Kinds.ps Equivalent.Kinds.r Equivalent.Reads.Post
is_equivalent_unique κs a x y v w p q = (one_answered x y (p ∙ sym q), refl)
