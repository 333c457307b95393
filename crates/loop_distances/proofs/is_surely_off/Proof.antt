-- The three tests, the last of them first.
use mathlib.Core.Path.{◌≡◌, refl}
use mathlib.Core.Bool.{Bool, true, false, ◌&&◌}
use Rattle.sure_sides.specs.Sure.{tame, upright}
use Rattle.loop_distances.proofs.is_surely_off.Statement.{statement}
use Rattle.loop_distances.proofs.is_surely_off.Tie as tie

and-true : (b : Bool) → b ≡ b && true
and-true true = refl
and-true false = refl

and-false : (b : Bool) → false ≡ b && false
and-false true = refl
and-false false = refl

pub is_surely_off_spec : {M : Type 1} → statement M
is_surely_off_spec =
    tie.close
    (tie.spec
    (λ c κs. tt) (λ c κs. tt) (λ c κs. tt)
    (λ c. let tame = c.before in
    let test = tame.before.before in
    let h = simp test.before.is_beyond.ensures at test.if-is_beyond.true in
    simp (h, c.is_upright.ensures, tame.is_tame.ensures) (and-true _))
    (λ c. let h = simp c.before.is_beyond.ensures at c.if-is_beyond.false in
    let a = c.before.before.args.a in
    simp (h) (and-false (tame a.normal && upright a))))
