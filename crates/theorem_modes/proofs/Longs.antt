-- The pairs that the two modes answer differently, by computation. Assumes nothing.
use mathlib.Core.Path.{◌≡◌, refl, subst, sym}
use Rattle.minor_arc.specs.declared.Mode.TheVariants.{Plain, Long}
use Rattle.loop_build.specs.Build as Build
use Rattle.loop_ask.specs.Answers as Answers
use Rattle.theorem_modes.proofs.Computing.{of_arcs, of_pairs}
use Rattle.theorem_modes.proofs.Rings.{with_wide_built, with_down_built, in_the_other_built, in_the_one_built}
use Rattle.theorem_modes.specs.Longs.{pair, OfArcs, OfLoops, Longs}

arcs : OfArcs
unfolding of_arcs
arcs = record { plain = refl; plain_round = refl; long = refl; long_round = refl }

-- what is so of two rings that were computed once is so of the loops as built
of_two : {o p x y : Build.Outcome} → o ≡ p → x ≡ y → (t : Answers.Told) → pair p y ≡ t → pair o x ≡ t
of_two {o} {p} {x} {y} q r t e = subst (λ z. pair o z ≡ t) (sym r) (subst (λ z. pair z y ≡ t) (sym q) e)

loops : OfLoops
unfolding of_pairs
loops = record {
  plain = of_two (with_wide_built Plain) (with_down_built Plain) (Answers.answer 0) refl;
  plain_round = of_two (with_down_built Plain) (with_wide_built Plain) (Answers.answer 2) refl;
  long = of_two (with_wide_built Long) (with_down_built Long) (Answers.answer 2) refl;
  long_round = of_two (with_down_built Long) (with_wide_built Long) (Answers.answer 2) refl;
  seven = of_two (in_the_other_built Plain) (in_the_one_built Plain) (Answers.refused 7) refl;
  no_seven = of_two (in_the_other_built Long) (in_the_one_built Long) (Answers.answer 2) refl;
}

pub longs : Longs
longs = record { of_arcs = arcs; of_loops = loops }
