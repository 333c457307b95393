-- How "exactly when" goes through two judgements one after the other, through n of them, and through an answer. Assumes nothing.
use Prim.Native.Nat.{ℕ, zero, suc, ◌+◌, ◌<◌}
use mathlib.Core.Path.{◌≡◌, refl, sym, ap, subst, ◌∙◌}
use mathlib.Core.Bool.{Bool, true, false, ◌&&◌, true≢false, and-false}
use mathlib.Core.Logic.{◌⊎◌, inl, inr, ⊎_elim}
use native.Mathlib.Nat.{zero-add, add-zero, not-suc-le-zero}
use native.Mathlib.Omega.{arith}
use Rattle.laws.specs.Loop.{first, first_of}
use Rattle.laws.proofs.Firsts.{first_zero_lem, first_given, first_left, first_right, GivenAt, first_of_zero, first_of_fine, first_of_given}
use Rattle.judge.specs.Why.{Exactly, Refuses, Then, stops, goes_on_lem, FirstWhy, at, nowhere}

-- the number that is given has its reason, and any that has one is given
pub exactly : (Why : ℕ → Type 0) {given : ℕ} → Why given → ((k : ℕ) → Why k → given ≡ k) → Exactly given Why
exactly Why w g = record { given_why = λ k e. subst Why e w; why_given = g }

-- ---- one after the other: what the second is refused for counts where the first is refused for nothing
module _ {a b : ℕ} {One Other : ℕ → Type 0} (x : Exactly a One) (y : a ≡ 0 → Exactly b Other) where
  first_why : (k : ℕ) → first a b ≡ k → Then One Other k
  first_why zero e = let p = first_zero_lem a b e in goes_on_lem (x.given_why 0 p.0) ((y p.0).given_why 0 p.1)
  first_why (suc k) e =
      ⊎_elim (λ p. stops (x.given_why (suc k) p)) (λ p. goes_on_lem (x.given_why 0 p.0) ((y p.0).given_why (suc k) p.1))
      (first_given a b k e)

  why_first : (k : ℕ) → Then One Other k → first a b ≡ k
  why_first _ (stops {k} w) = first_left a b k (x.why_given (suc k) w)
  why_first _ (goes_on_lem {k} w v) = let z = x.why_given 0 w in first_right a b z ((y z).why_given k v)

  pub then_exact : Exactly (first a b) (Then One Other)
  then_exact = record { given_why = first_why; why_given = why_first }

-- ---- one by one
shifted : (i p : ℕ) → i + suc p ≡ suc i + p
shifted i p = omega arith

at_index : (f : ℕ → ℕ) (r k i p : ℕ) → p < k → f (i + p) ≡ suc r → ((j : ℕ) → j < p → f (i + j) ≡ 0) → first_of f k i ≡ suc r
unfolding first_of
at_index f r zero i p h e n = absurd (not-suc-le-zero h)
at_index f r (suc k) i zero h e n = first_left (f i) _ r (rw add-zero at e)
at_index f r (suc k) i (suc p) h e n =
    first_right (f i) _ (rw add-zero at (n 0 (omega arith)))
    (at_index f r k (suc i) p (omega arith) (rw (shifted i p) at e) (λ j g. rw (shifted i j) at (n (suc j) (omega arith))))

module _ {f : ℕ → ℕ} {Why : ℕ → ℕ → Type 0} (n : ℕ) (x : (i : ℕ) → i < n → Exactly (f i) (Why i)) where
  from_zero : (i : ℕ) {k : ℕ} → f i ≡ k → f (0 + i) ≡ k
  from_zero i e = rw (zero-add i) e

  each_why : (k : ℕ) → first_of f n 0 ≡ k → FirstWhy Why n k
  each_why zero e = nowhere (λ j h. (x j h).given_why 0 (rw (zero-add j) at (first_of_zero f n 0 e j h)))
  each_why (suc k) e = found (first_of_given f n 0 k e)
    where
      found : GivenAt f n 0 (suc k) → FirstWhy Why n (suc k)
      found g = at g.index g.within ((x g.index g.within).given_why (suc k) (rw (zero-add g.index) at g.here))
          (λ j h. (x j (omega (arith, g.within))).given_why 0 (rw (zero-add j) at (g.none_before j h)))

  why_each : (k : ℕ) → FirstWhy Why n k → first_of f n 0 ≡ k
  why_each _ (at {k} i h w b) =
      at_index f k n 0 i h (from_zero i ((x i h).why_given (suc k) w)) (λ j g. from_zero j ((x j (omega arith)).why_given 0 (b j g)))
  why_each _ (nowhere b) = first_of_fine f n 0 (λ j g. from_zero j ((x j g).why_given 0 (b j g)))

  pub each_exact : Exactly (first_of f n 0) (FirstWhy Why n)
  each_exact = record { given_why = each_why; why_given = why_each }

-- where each is refused for the same number or for nothing: some one is refused, or none is
pub data SomeWhy (Why : ℕ → ℕ → Type 0) (n r : ℕ) : ℕ → Type 0 where
  some : (i : ℕ) → i < n → Why i (suc r) → SomeWhy Why n r (suc r)
  every : ((i : ℕ) → i < n → Why i 0) → SomeWhy Why n r 0

module _ {f : ℕ → ℕ} {Why : ℕ → ℕ → Type 0} (n r : ℕ) (x : (i : ℕ) → i < n → Exactly (f i) (Why i)) (only : (i k : ℕ) → Why i (suc k) → k ≡ r) where
  first_some : (k : ℕ) → FirstWhy Why n k → SomeWhy Why n r k
  first_some _ (at {k} i h w b) = let e = only i k w in rw e (some i h (rw e at w))
  first_some _ (nowhere b) = every b

  some_first : (k : ℕ) → SomeWhy Why n r k → first_of f n 0 ≡ k
  some_first _ (some i h w) = which (first_of f n 0) refl
    where
      which : (g : ℕ) → first_of f n 0 ≡ g → first_of f n 0 ≡ suc r
      which zero e =
          let z : suc r ≡ 0 = sym ((x i h).why_given (suc r) w) ∙ (rw (zero-add i) at (first_of_zero f n 0 e i h)) in
          absurd (omega arith)
      which (suc g) e = e ∙ ap suc (stopped (each_why n x (suc g) e))
        where
          stopped : FirstWhy Why n (suc g) → g ≡ r
          stopped (at j l v b) = only j g v
  some_first _ (every b) = why_each n x 0 (nowhere b)

  pub some_exact : Exactly (first_of f n 0) (SomeWhy Why n r)
  some_exact = record { given_why = λ k e. first_some k (each_why n x k e); why_given = some_first }

-- ---- what a test tells: something where it passes, something else where it fails, and from each of the two which it does
pub record Tells (b : Bool) (Good Bad : Type 0) : Type 0 where
  pub yes : b ≡ true → Good
  pub no : b ≡ false → Bad
  pub good : Good → b ≡ true
  pub bad : Bad → b ≡ false

pub tells : (b : Bool) → Tells b (b ≡ true) (b ≡ false)
tells b = record { yes = λ e. e; no = λ e. e; good = λ e. e; bad = λ e. e }

-- one of the two
pub one_told : (b : Bool) {Good Bad : Type 0} → Tells b Good Bad → Good ⊎ Bad
one_told true x = inl (x.yes refl)
one_told false x = inr (x.no refl)

-- both of two tests pass, or one of them fails
pub both_true : (a b : Bool) → a && b ≡ true → (a ≡ true) × (b ≡ true)
both_true true b e = (refl, e)
both_true false b e = absurd (true≢false (sym e))

one_false : (a b : Bool) → a && b ≡ false → (a ≡ false) ⊎ (b ≡ false)
one_false true b e = inr e
one_false false b e = inl refl

module _ {a b : Bool} {Good Bad Right Wrong : Type 0} (x : Tells a Good Bad) (y : Tells b Right Wrong) where
  either_bad : Bad ⊎ Wrong → a && b ≡ false
  either_bad (inl p) = rw (x.bad p)
  either_bad (inr p) = rw (y.bad p) (and-false a)

  pub both_tell : Tells (a && b) (Good × Right) (Bad ⊎ Wrong)
  both_tell = record {
    yes = λ e. let p = both_true a b e in (x.yes p.0, y.yes p.1);
    no = λ e. ⊎_elim (λ p. inl (x.no p)) (λ p. inr (y.no p)) (one_false a b e);
    good = λ p. rw (x.good p.0, y.good p.1);
    bad = either_bad;
  }

-- the same told in other words
pub retell : {b : Bool} {Good Bad Right Wrong : Type 0} → Tells b Good Bad → (Good → Right) → (Right → Good) → (Bad → Wrong) → (Wrong → Bad) → Tells b Right Wrong
retell x p q r s = record { yes = λ e. p (x.yes e); no = λ e. r (x.no e); good = λ g. x.good (q g); bad = λ w. x.bad (s w) }

-- ---- an answer: the refusal of what is given, or what is told of no refusal by `number`
module _ {A : Type 0} (refused : ℕ → A) (number : A → ℕ) (counted : (k : ℕ) → number (refused k) ≡ suc k) where
  module _ {given : ℕ} {Why : ℕ → Type 0} (x : Exactly given Why) {answer : A} (told : given ≡ 0 → number answer ≡ 0) (hit : (k : ℕ) → given ≡ suc k → answer ≡ refused (suc k)) where
    answer_why : (g : ℕ) → given ≡ g → (k : ℕ) → answer ≡ refused k → (0 < k) × Why k
    answer_why zero z k e = let n : 0 ≡ suc k = sym (told z) ∙ ap number e ∙ counted k in absurd (omega arith)
    answer_why (suc g) z k e =
        let n : suc (suc g) ≡ suc k = sym (counted (suc g)) ∙ ap number (sym (hit g z) ∙ e) ∙ counted k in
        let m : suc g ≡ k = omega arith in
        (omega arith, x.given_why k (z ∙ m))

    why_answer : (k : ℕ) → 0 < k → Why k → answer ≡ refused k
    why_answer zero h w = absurd (not-suc-le-zero h)
    why_answer (suc k) h w = hit k (x.why_given (suc k) w)

    pub refuses : Refuses refused answer Why
    refuses = record { given_why = answer_why given refl; why_given = why_answer }
