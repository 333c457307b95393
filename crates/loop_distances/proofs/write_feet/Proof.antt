-- One product after the other fills the work array.
use native.Mathlib.Omega.{arith}
use borrow.Author.Rules.{rules}
use Prim.Native.Nat.{◌-◌, ◌*◌}
use mathlib.Core.Path.{◌≡◌, refl}
use lib.ListN.{length}
use Rattle.laws.proofs.Blocks.{Fill, fill, fill_on, fill_all}
use Rattle.vec3.specs.Vec.{coords}
use Rattle.loop_distances.specs.Blocks.{foot_product}
use Rattle.loop_distances.proofs.write_feet.Statement.{statement}
use Rattle.loop_distances.proofs.write_feet.Tie as tie

abbrev invariant-loop : tie.invariant-loop-j
invariant-loop normals listed across out₀ j₀ j-end out j = Fill 3 (λ i. coords (foot_product normals listed across i)) (length listed) j out₀ out × (length out₀ ≡ 3 * length listed)

abbrev decreases-loop : tie.decreases-loop-j
decreases-loop normals listed across out₀ j₀ j-end out j = length listed - j

pub write_feet_spec : {M : Type 1} → statement M
write_feet_spec =
    tie.close
    (tie.spec
    invariant-loop decreases-loop
    (λ c. (fill (λ j. refl) (omega arith), search rules))
    (λ c. search rules)
    (λ c. search rules)
    (λ c κs. c.before.before.before.before.before.before.before.before.requires.0 _ (search rules))
    (λ c κs. search rules)
    (λ c κs. search rules)
    (λ c κs. search rules)
    (λ c. search rules)
    (λ c. search rules)
    (λ c. let put = c.before.before in
    let product = put.before in
    let unit = product.before in
    let normal = unit.before in
    let l = normal.before.before.before.before.loop-j in
    (fill_on l.invariant.0 (simp (put.put.ensures, product.stable_cross_prod.ensures, unit.raw.ensures, normal.at.ensures)) (omega arith), l.invariant.1))
    (λ c. search rules)
    (λ c. fill_all c.before.loop-j.invariant.0 (omega arith) c.before.loop-j.invariant.1))
