-- Whatever f computes, p k at k, stands at each index before i.
use Rattle.std.proofs.Common.{ℕ, ◌≡◌, ◌<◌}
use Rattle.laws.proofs.Blocks.{Fill}
use Rattle.vec3.specs.Vec.{coords}
use Rattle.vec3.proofs.put_each.Given as goal

abbrev pub invariant-loop-i : goal.invariant-loop-i
invariant-loop-i g l =
    (p : ℕ → _) → ((k : ℕ) (v : _) → k < l.n → goal.F-post g l.f k v → v ≡ p k) → Fill 3 (λ j. coords (p j)) l.n l.i l.initial.ps l.ps
