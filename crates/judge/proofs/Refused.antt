-- The first of n positions that is refused: its index has its number, every earlier position has none, and no other index is it. Assumes nothing.
use Prim.Native.Nat.{ℕ, suc, ◌≤◌, ◌<◌}
use mathlib.Core.Path.{◌≡◌, refl, sym, ◌∙◌}
use mathlib.Core.Bool.{Bool, true, false}
use mathlib.Core.List.{List}
use native.Mathlib.Nat.{zero-add}
use native.Mathlib.Omega.{arith}
use lib.Dec.{ltb}
use lib.Ieee.{Float}
use borrow.Author.Tests.{lt-ltb, le-ltb, ltb-true, ltb-false}
use Rattle.laws.specs.Loop.{first_at}
use Rattle.laws.proofs.Indexes.{none_before, is_first, first_of_at}
use Rattle.vec3.specs.Vec.{pos_at}
use Rattle.judge.specs.Judge.{position_fault, is_refused, first_refused, fault_below, positions_fault}
use Rattle.judge.specs.Why.{Exactly, PositionWhy, Stands}

module _ (l : List Float) (n : ℕ) where
  pub follows : positions_fault l n ≡ fault_below l n (first_refused l n)
  unfolding first_refused
  follows = rw (zero-add n) at (first_of_at (position_fault l) n 0)

  -- as a function answers
  pub none_refused : {i : ℕ} → i ≡ first_refused l n → n ≤ i → 0 ≡ positions_fault l n
  none_refused e h = sym (follows ∙ rw (← e, le-ltb _ _ h))

  pub one_refused : {i k : ℕ} → i ≡ first_refused l n → i < n → k ≡ position_fault l i → k ≡ positions_fault l n
  one_refused e h q = q ∙ sym (follows ∙ rw (← e, lt-ltb _ _ h))

  -- what a number that is given tells
  stands_below : (k i : ℕ) → fault_below l n i ≡ suc k → i < n
  stands_below k i e = go (ltb i n) refl
    where
      go : (b : Bool) → ltb i n ≡ b → i < n
      go true t = ltb-true _ _ t
      go false t = absurd (let z : 0 ≡ suc k = (rw t at e) in omega arith)

  stands_here : (k i : ℕ) → i < n → fault_below l n i ≡ suc k → position_fault l i ≡ suc k
  stands_here k i h e = rw (lt-ltb _ _ h) at e

  not_refused : (j : ℕ) → is_refused l j ≡ false → position_fault l j ≡ 0
  not_refused j e = let z = ltb-false 0 (position_fault l j) e in omega arith

  module _ (exact : (i : ℕ) → Exactly (position_fault l i) (PositionWhy (pos_at l i))) where
    pub index : (k : ℕ) → positions_fault l n ≡ suc k → Stands l n (suc k) (first_refused l n)
    unfolding first_refused
    index k e =
        let i = first_at (is_refused l) n 0 in
        let q = sym follows ∙ e in
        let h : i < n = stands_below k i q in
        record {
          below = h;
          earlier = λ j g. (exact j).given_why 0 (not_refused j (none_before (is_refused l) n 0 j (omega arith) g));
          here = (exact i).given_why (suc k) (stands_here k i h q);
        }

    pub no_other : (k i : ℕ) → Stands l n (suc k) i → (positions_fault l n ≡ suc k) × (first_refused l n ≡ i)
    unfolding first_refused
    no_other k i s =
        let given = (exact i).why_given (suc k) s.here in
        let first : first_at (is_refused l) n 0 ≡ i = is_first (is_refused l) n 0 i (omega arith) (omega (arith, s.below)) (rw given (lt-ltb 0 (suc k) (omega arith)))
        (λ j a g. rw ((exact j).why_given 0 (s.earlier j g)) refl) in
        (follows ∙ rw (first, lt-ltb _ _ s.below) given, first)
