-- What a search over the numbers 0..n by a closure finds is what the laws of `specs/Loop.antt` say. Assumes nothing.
use Prim.Native.Nat.{ℕ, zero, suc, ◌≤◌, ◌<◌, ◌-◌}
use lib.Dec.{ltb}
use mathlib.Core.Bool.{Bool, true, false, cond, not, ◌&&◌, ◌||◌, true≢false}
use mathlib.Core.Path.{◌≡◌, refl, sym, ap, ◌∙◌}
use mathlib.Core.List.{List}
use native.Mathlib.Numerals.{add-one}
use native.Mathlib.Omega.{arith}
use denote.Param.Members.{Mut}
use Rattle.std.proofs.Common.{Option, Some, None}
use denote.Ref.{Bor}
use Rattle.std.specs.declared.ops.Range.{Range}
use Rattle.std.proofs.iter.Yields.{nat_range_steps}
use Rattle.std.proofs.lemmas.Iterator.{YieldsList-from_range, first_from_Range}
use Rattle.std.proofs.lemmas.Iterator.Search.{any_from_yields_List, all_from_yields_List}
use Rattle.std.specs.Bool.{⊤}
use Rattle.std.specs.Fn.{Called, CalledAt}
use Rattle.std.specs.Iterator.{YieldsThen}
use Rattle.std.specs.List.{FoldsTo, range_with_len, list_any, list_all}
use Rattle.std.specs.Option.{MatchOption}
use borrow.Author.Tests.{lt-ltb, le-ltb, ltb-true, ltb-false}
use Rattle.laws.specs.Loop.{any_of, first_at, found}
use Rattle.laws.proofs.Indexes.{first_has, is_first}
use native.Mathlib.Decide.{dec_lt}

any_range : (p : ℕ → Bool) (k i : ℕ) → list_any p (range_with_len i k) ≡ any_of p k i
unfolding any_of
any_range p zero i = refl
any_range p (suc k) i = ap (λ (b : Bool). p i || b) (rw add-one (any_range p k (suc i)))

-- what `(0..n).any(f)` ran, where f computes p
pub any_below : {F : Type 0} {g : Mut F (ℕ × Unit {0}) Bool} (p : ℕ → Bool) (n : ℕ) (u : Range ℕ) (f : F) (r : Bool)
    → (xs : List ℕ) × (o : Option ℕ) × (j : F)
    × YieldsThen nat_range_steps (record { start = 0; end = n }) xs o u
    × FoldsTo (λ h x q. Called g h (x, tt) false q) f xs j
    × MatchOption o (r ≡ false) (λ x. (r ≡ true) × ((h : F) × Called g j (x, tt) true h))
    → ((x : ℕ) (b : Bool) (q : F) → Called g f (x, tt) b q → (q ≡ f) × (b ≡ p x)) → r ≡ any_of p n 0
any_below p n u f r ran pure = any_from_yields_List p u f r ran (YieldsList-from_range 0 n n refl (omega arith)) pure ∙ any_range p n 0

-- the same of `(a..b).any(f)`
pub any_between : {F : Type 0} {g : Mut F (ℕ × Unit {0}) Bool} (p : ℕ → Bool) (a b : ℕ) (u : Range ℕ) (f : F) (r : Bool)
    → (xs : List ℕ) × (o : Option ℕ) × (j : F)
    × YieldsThen nat_range_steps (record { start = a; end = b }) xs o u
    × FoldsTo (λ h x q. Called g h (x, tt) false q) f xs j
    × MatchOption o (r ≡ false) (λ x. (r ≡ true) × ((h : F) × Called g j (x, tt) true h))
    → ((x : ℕ) (c : Bool) (q : F) → Called g f (x, tt) c q → (q ≡ f) × (c ≡ p x)) → r ≡ any_of p (b - a) a
any_between p a b u f r ran pure = any_from_yields_List p u f r ran (YieldsList-from_range a b (b - a) refl refl) pure ∙ any_range p (b - a) a

all_range : (p : ℕ → Bool) (k i : ℕ) → list_all p (range_with_len i k) ≡ not (any_of (λ j. not (p j)) k i)
unfolding any_of
all_range p zero i = refl
all_range p (suc k) i = go (p i) _ _ (rw add-one (all_range p k (suc i)))
  where
    go : (b x y : Bool) → x ≡ not y → b && x ≡ not (not b || y)
    go true x y e = e
    go false x y e = refl

-- what `(0..n).all(f)` ran, where f computes p
pub all_below : {F : Type 0} {g : Mut F (ℕ × Unit {0}) Bool} (p : ℕ → Bool) (n : ℕ) (u : Range ℕ) (f : F) (r : Bool)
    → (xs : List ℕ) × (o : Option ℕ) × (j : F)
    × YieldsThen nat_range_steps (record { start = 0; end = n }) xs o u
    × FoldsTo (λ h x q. Called g h (x, tt) true q) f xs j
    × MatchOption o (r ≡ true) (λ x. (r ≡ false) × ((h : F) × Called g j (x, tt) false h))
    → ((x : ℕ) (b : Bool) (q : F) → Called g f (x, tt) b q → (q ≡ f) × (b ≡ p x)) → r ≡ not (any_of (λ j. not (p j)) n 0)
all_below p n u f r ran pure = all_from_yields_List p u f r ran (YieldsList-from_range 0 n n refl (omega arith)) pure ∙ all_range p n 0

-- ---- an index that a search finds, or none
pub found_some : {x n i : ℕ} → found x n ≡ Some i → (x ≡ i) × (i < n)
found_some {x} {n} {i} = go (ltb x n) refl
  where
    go : (b : Bool) → ltb x n ≡ b → cond b (Some x) None ≡ Some i → (x ≡ i) × (i < n)
    go true t e = let same : x ≡ i = cc in (same, let h = ltb-true _ _ t in omega arith)
    go false t e = absurd (cc e)

pub found_none : {x n : ℕ} → found x n ≡ None → n ≤ x
found_none {x} {n} = go (ltb x n) refl
  where
    go : (b : Bool) → ltb x n ≡ b → cond b (Some x) None ≡ None → n ≤ x
    go true t e = absurd (cc e)
    go false t e = ltb-false _ _ t

nowhere : (p : ℕ → Bool) (n : ℕ) → ((k : ℕ) → 0 ≤ k → k < n → p k ≡ false) → n ≤ first_at p n 0
nowhere p n m = go (dec_lt (first_at p n 0) n)
  where
    go : Dec (first_at p n 0 < n) → n ≤ first_at p n 0
    go (yes h) = absurd (true≢false (sym (first_has p n 0 (omega arith)) ∙ m _ (omega arith) h))
    go (no h) = omega arith

-- what `(0..n).find(f)` ran, where f computes p
pub find_below : {F : Type 0} {g : Mut F (Bor ℕ × Unit {0}) Bool} (p : ℕ → Bool) (n : ℕ) (u : Range ℕ) (f : F) (r : Option ℕ)
    → (xs : List ℕ) × (j : F)
    × YieldsThen nat_range_steps (record { start = 0; end = n }) xs r u
    × FoldsTo (λ h x q. CalledAt g h x false q) f xs j
    × MatchOption r ⊤ (λ x. (h : F) × CalledAt g j x true h)
    → ((x : ℕ) (b : Bool) (q : F) → CalledAt g f x b q → (q ≡ f) × (b ≡ p x)) → r ≡ found (first_at p n 0) n
find_below {F} {g} p n u f r ran pure =
    told r (first_from_Range _ u f r (λ x. p x ≡ true) (λ x. p x ≡ false) ran (λ x q k. sym (pure x true q k).1) (λ x q k. ((pure x false q k).0, sym (pure x false q k).1)))
  where
    told : (r : Option ℕ) → MatchOption r ((k : ℕ) → 0 ≤ k → k < n → p k ≡ false) (λ i. (0 ≤ i) × (i < n) × (p i ≡ true) × ((k : ℕ) → 0 ≤ k → k < i → p k ≡ false))
        → r ≡ found (first_at p n 0) n
    told None m = sym (rw (le-ltb (first_at p n 0) n (nowhere p n m)) refl)
    told (Some i) m =
        let e : first_at p n 0 ≡ i = is_first p n 0 i m.0 (omega (arith, m.1)) m.2 (λ l a b. m.3 l a b) in
        rw (e, lt-ltb i n m.1) refl
