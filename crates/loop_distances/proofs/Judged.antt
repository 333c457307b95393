-- Where neither the loop nor the query is refused: every corner and the query are positions that the judge lets pass. Assumes nothing.
use Rattle.std.proofs.Common.{◌≡◌, ℕ, ◌<◌, List, Float, sym}
use native.Mathlib.Nat.{zero-add}
use Rattle.laws.proofs.Firsts.{first_zero_lem, first_of_zero}
use Rattle.vec3.specs.declared.Vec3.{Vec3}
use Rattle.judge.specs.Judge.{position_fault, positions_fault}
use Rattle.loop_header.specs.declared.Header.{Header}
use Rattle.loop_header.proofs.Sounds.{sound}
use Rattle.loop_ask.specs.Questions.{query_fault}
use Rattle.loop_distances.specs.Blocks.{Fine}

each_fine : (ps : List Float) (n : ℕ) → positions_fault ps n ≡ 0 → (i : ℕ) → i < n → position_fault ps i ≡ 0
each_fine ps n e i h = rw zero-add at (first_of_zero (position_fault ps) n 0 e i h)

module _ (h : Header) (ps ns : List Float) (cs : List ℕ) (p : Vec3) (e : 0 ≡ query_fault h ps ns cs p) where
  pub query_fine : Fine ps h.count p
  unfolding query_fault
  query_fine =
      let none = first_zero_lem _ _ (sym e) in
      record { corners = each_fine ps h.count (sound h ps ns cs none.0).ring.positions_fine; query = none.1 }
