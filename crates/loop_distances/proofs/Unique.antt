-- A squared chord, or a refusal's number, tells an answer from every other (SCOPE 27), and so each contract leaves one: over the functions' own postconditions, so
-- that an `ensures` that says less breaks this. Assumes nothing.
use Rattle.std.proofs.Common.{◌≡◌, Result, Ok, Err, refl, sym, ap, ◌∙◌}
use Rattle.outcomes.specs.Outcomes.{One, OneToOne}
use Rattle.outcomes.proofs.Outcomes.{by_back}
use Rattle.judge.specs.declared.Refusal.{Refusal}
use Rattle.judge.proofs.Numbers.{named, named_number}
use Rattle.chord_length.specs.declared.ChordLength.{ChordLength}
use Rattle.loop_distances.specs.Distances.{Told, refused, chord, told_distance}
use Rattle.loop_distances.proofs.distance_to as OfArc
use Rattle.loop_distances.proofs.distance_to_boundary as OfLoop

-- ---- from what is told back to the answer
abbrev back_distance : Told → Result ChordLength Refusal
back_distance (refused k) = Err (named k)
back_distance (chord c) = Ok c

distance_back : (x : Result ChordLength Refusal) → back_distance (told_distance x) ≡ x
distance_back (Err r) = ap Err (named_number r)
distance_back (Ok c) = refl

pub one_distance : OneToOne told_distance
one_distance = by_back told_distance back_distance distance_back

-- ---- nothing is lent to be written, so the answer is all
pub distance_to_unique : One OfArc.Kinds.ps OfArc.Kinds.r OfArc.Reads.Post
distance_to_unique κs a x y v w p q = (one_distance x y (p ∙ sym q), refl)

pub distance_to_boundary_unique : One OfLoop.Kinds.ps OfLoop.Kinds.r OfLoop.Reads.Post
distance_to_boundary_unique κs a x y v w p q = (one_distance x y (p ∙ sym q), refl)
