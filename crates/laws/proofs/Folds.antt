-- What a fold over the numbers 0..n by a closure comes to, and the index that a search over them tells, or n. Assumes nothing.
use Rattle.std.proofs.Common.{◌≡◌, ℕ, zero, suc, ◌≤◌, Bool, true, false, cond, ltb, List, Some, None, unwrap_or, refl, ◌∙◌, arith}
use native.Mathlib.Numerals.{add-one}
use denote.Param.Members.{Mut}
use borrow.Author.Tests.{ltb-false}
use Rattle.std.specs.declared.ops.Range.{Range}
use Rattle.std.proofs.iter.Yields.{nat_range_steps}
use Rattle.std.proofs.lemmas.Iterator.{YieldsList-from_range}
use Rattle.std.proofs.lemmas.Iterator.Consumers.{fold_from_yields_List}
use Rattle.std.specs.Fn.{Called}
use Rattle.std.specs.Iterator.{Drains}
use Rattle.std.specs.List.{FoldsTo, range_with_len, fold}
use Rattle.laws.specs.Loop.{iterate, found}

fold_range : {A : Type 0} (step : ℕ → A → A) (k i : ℕ) (a : A) → fold (λ b j. step j b) a (range_with_len i k) ≡ iterate step k i a
unfolding iterate
fold_range step zero i a = refl
fold_range step (suc k) i a = rw add-one (fold_range step k (suc i) (step i a))

-- what `(0..n).fold(a, f)` ran, where f computes the step
pub fold_below : {A F : Type 0} {g : Mut F (A × (ℕ × Unit {0})) A} (step : ℕ → A → A) (n : ℕ) {f : F} (a r : A)
    → (xs : List ℕ) × (q : F) × Drains nat_range_steps (record { start = 0; end = n }) xs × FoldsTo {P = F × A} (λ p x q. Called g p.0 (p.1, (x, tt)) q.1 q.0) (f, a) xs (q, r)
    → ((b : A) (x : ℕ) (d : A) (q : F) → Called g f (b, (x, tt)) d q → (q ≡ f) × (d ≡ step x b)) → r ≡ iterate step n 0 a
fold_below {g = g} step n a r ran pure = fold_from_yields_List g (λ b j. step j b) a r ran (YieldsList-from_range 0 n n refl (omega arith)) pure ∙ fold_range step n 0 a

or_end : (b : Bool) (i n : ℕ) → i ≤ n → ltb i n ≡ b → unwrap_or (cond b (Some i) None) n ≡ i
or_end true i n h e = refl
or_end false i n h e = let q : n ≤ i = ltb-false _ _ e in omega arith

-- an index of at most n as a search tells it, n where it tells none
pub found_or_end : (i n : ℕ) → i ≤ n → unwrap_or (found i n) n ≡ i
found_or_end i n h = or_end (ltb i n) i n h refl
