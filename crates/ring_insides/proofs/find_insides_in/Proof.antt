-- The points inside are those from the means that are found in the whole ring, which the work arrays are given first.
use native.Mathlib.Omega.{arith}
use Rattle.ring_insides.proofs.Seekings.{of_whole}
use Rattle.ring_cut.proofs.Wholes.{ready}
use borrow.Author.Rules.{rules}
use Rattle.ring_insides.proofs.find_insides_in.Statement.{statement}
use Rattle.ring_insides.proofs.find_insides_in.Tie as tie

find-means-requires : tie.Need-find_means-requires
find-means-requires c κs =
    let whole = c.before.before.before.before.before.before.before in
    let given = whole.before.before.before.before.before.before.before.before.requires in
    let made = ready given.0 whole.whole_ring.ensures in
    (made.0, made.1, omega (arith, made.2, given.1))

returns : tie.Need-returns
returns c =
    let found = c.before.before.before.before.before.before.before in
    let whole = found.before.before.before.before.before.before.before.before in
    of_whole _ _ whole.whole_ring.ensures found.find_means.ensures c.insides_from.ensures

pub find_insides_in_spec : {M : Type 1} → statement M
find_insides_in_spec =
    tie.close
    (tie.spec
    (λ c κs. search rules)
    find-means-requires
    (λ c κs. search rules)
    (λ c. search rules)
    (λ c. search rules)
    (λ c. search rules)
    returns)
