-- -1 for a negative squared chord, and else twice the arcsine of half its root.
use mathlib.Core.Path.{◌≡◌, refl}
use lib.Ieee.{neg, of_bits}
use Rattle.numbers.specs.F64.{one, minus_one}
use Rattle.arcsine.specs.Arcsine.{radians}
use Rattle.arcsine.proofs.radians.Statement.{statement}
use Rattle.arcsine.proofs.radians.Tie as tie

minus_one_is : neg one ≡ minus_one
unfolding neg of_bits
minus_one_is = refl

pub radians_spec : {M : Type 1} → statement M
unfolding radians
radians_spec =
    tie.close
    (tie.spec
    (λ c. simp c.if-c.true minus_one_is)
    (λ c κs. tt) (λ c κs. tt)
    (λ c. simp (c.before.before.if-c.false, c.arcsine.ensures, c.before.root.ensures.same)))
