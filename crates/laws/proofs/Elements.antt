-- What a search over a list's elements finds is what the laws of `specs/Loop.antt` say of its indexes. Assumes nothing.
use Rattle.std.proofs.Common.{◌≡◌, ℕ, Bool, true, false, not, ◌&&◌, ◌||◌, cond, ltb, List, [], ◌∷◌, length, get_or, Option, Some, None, refl, sym, ◌∙◌, ap, arith}
use Rattle.std.specs.List.{list_all, position_or_len}
use Rattle.std.proofs.lemmas.List.Sums.{position_or_len_is}
use Rattle.laws.specs.Loop.{any_of, first_at, found}
use Rattle.laws.proofs.Loops.{any_later, first_at_le}
use Rattle.laws.proofs.Indexes.{first_has, none_before}

joined : (b : Bool) (x y : Bool) → x ≡ not y → b && x ≡ not (not b || y)
joined true x y e = e
joined false x y e = refl

-- every element passes a test exactly if at no index stands one that does not
pub all_elements : {X : Type 0} (test : X → Bool) (xs : List X) (d : X) → list_all test xs ≡ not (any_of (λ j. not (test (get_or xs j d))) (length xs) 0)
unfolding any_of
all_elements test [] d = refl
all_elements test (x ∷ xs) d =
    joined (test x) _ _ (all_elements test xs d ∙ ap not (sym (any_later (λ j. not (test (get_or (x ∷ xs) j d))) (length xs) 0)))

-- the first element that passes stands at the first index at which one does
pub first_element : {X : Type 0} (test : X → Bool) (xs : List X) (d : X) → position_or_len test xs ≡ first_at (λ i. test (get_or xs i d)) (length xs) 0
first_element test xs d =
    let p : ℕ → Bool = λ i. test (get_or xs i d) in
    position_or_len_is test xs (first_at p (length xs) 0) d (omega (arith, first_at_le p (length xs) 0)) (λ k h. none_before p (length xs) 0 k (omega arith) h) (λ h. first_has p (length xs) 0 (omega arith))

-- what `position` answers
pub found_element : {X : Type 0} (test : X → Bool) (xs : List X) (d : X) {r : Option ℕ}
    → r ≡ cond (ltb (position_or_len test xs) (length xs)) (Some (position_or_len test xs)) None → r ≡ found (first_at (λ i. test (get_or xs i d)) (length xs) 0) (length xs)
found_element test xs d e = rw (first_element test xs d) at e
