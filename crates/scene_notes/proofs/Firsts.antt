-- The first index that has a property, as std's search over a list finds it. Assumes nothing.
use Rattle.std.proofs.Common.{◌≡◌, ℕ, ◌≤◌, Bool, true, false, cond, ltb, List, length, get_or, Option, Some, None, unwrap_or, refl, ◌∙◌, arith}
use Rattle.std.specs.List.{position_or_len}
use Rattle.std.proofs.lemmas.List.Sums.{position_or_len_is}
use borrow.Author.Tests.{ltb-false}
use Rattle.laws.specs.Loop.{first_at}
use Rattle.laws.proofs.Loops.{first_at_le}
use Rattle.laws.proofs.Indexes.{first_has, none_before}

position_is : {X : Type 0} (test : X → Bool) (xs : List X) (d : X) → position_or_len test xs ≡ first_at (λ i. test (get_or xs i d)) (length xs) 0
position_is test xs d =
    let p : ℕ → Bool = λ i. test (get_or xs i d) in
    position_or_len_is test xs (first_at p (length xs) 0) d (omega (arith, first_at_le p (length xs) 0)) (λ k h. none_before p (length xs) 0 k (omega arith) h) (λ h. first_has p (length xs) 0 (omega arith))

or_length : (b : Bool) (n m : ℕ) → n ≤ m → ltb n m ≡ b → unwrap_or (cond b (Some n) None) m ≡ n
or_length true n m h e = refl
or_length false n m h e = let q : m ≤ n = ltb-false _ _ e in omega arith

-- the index that the search answers, or the list's length
pub found : {X : Type 0} (test : X → Bool) (xs : List X) (d : X) {r : Option ℕ} {m : ℕ} → length xs ≡ m
    → r ≡ cond (ltb (position_or_len test xs) (length xs)) (Some (position_or_len test xs)) None → unwrap_or r m ≡ first_at (λ i. test (get_or xs i d)) (length xs) 0
found test xs d q e =
    let n = position_is test xs d in
    let h : position_or_len test xs ≤ length xs = omega (arith, n, first_at_le (λ i. test (get_or xs i d)) (length xs) 0) in
    rw (e, ← q) (or_length (ltb (position_or_len test xs) (length xs)) (position_or_len test xs) (length xs) h refl) ∙ n
