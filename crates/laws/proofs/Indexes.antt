-- The first index that has a property: it has it, and none before it has. The first number that is not 0 stands at the first index that has one. Assumes nothing.
use Prim.Native.Nat.{ℕ, zero, suc, ◌+◌, ◌≤◌, ◌<◌}
use mathlib.Core.Path.{◌≡◌, refl, sym, ◌∙◌}
use mathlib.Core.Bool.{Bool, true, false, cond, true≢false}
use native.Mathlib.Decide.{dec_lt}
use native.Mathlib.Omega.{arith}
use lib.Dec.{ltb}
use borrow.Author.Tests.{lt-ltb, le-ltb}
use Rattle.laws.specs.Loop.{first_of, first_at}

module _ (p : ℕ → Bool) where
  step_yes : (k i : ℕ) → p i ≡ true → first_at p (suc k) i ≡ i
  unfolding first_at
  step_yes k i e = rw e

  step_no : (k i : ℕ) → p i ≡ false → first_at p (suc k) i ≡ first_at p k (suc i)
  unfolding first_at
  step_no k i e = rw e

  past : (i : ℕ) → first_at p 0 i ≡ i
  unfolding first_at
  past i = refl

  -- it has the property
  pub first_has : (k i : ℕ) → first_at p k i < i + k → p (first_at p k i) ≡ true
  first_has zero i h = absurd (omega (arith, past i))
  first_has (suc k) i h = go (p i) refl (λ l. first_has k (suc i) l)
    where
      go : (b : Bool) → p i ≡ b → (first_at p k (suc i) < suc i + k → p (first_at p k (suc i)) ≡ true) → p (first_at p (suc k) i) ≡ true
      go true e on = rw (step_yes k i e) e
      go false e on = rw (step_no k i e) (on (omega (arith, step_no k i e)))

  -- none before it has
  pub none_before : (k i j : ℕ) → i ≤ j → j < first_at p k i → p j ≡ false
  none_before zero i j l h = absurd (omega (arith, past i))
  none_before (suc k) i j l h = go (p i) refl (dec_lt i j) (λ a b. none_before k (suc i) j a b)
    where
      go : (b : Bool) → p i ≡ b → Dec (i < j) → (suc i ≤ j → j < first_at p k (suc i) → p j ≡ false) → p j ≡ false
      go true e d on = absurd (omega (arith, step_yes k i e))
      go false e (yes m) on = on (omega arith) (omega (arith, step_no k i e))
      go false e (no m) on =
          let q : j ≡ i = omega arith in
          rw q e

  -- so an index that has it, while none before has, is the first
  pub is_first : (k i j : ℕ) → i ≤ j → j < i + k → p j ≡ true → ((l : ℕ) → i ≤ l → l < j → p l ≡ false) → first_at p k i ≡ j
  is_first zero i j l h t f = absurd (omega arith)
  is_first (suc k) i j l h t f = go (p i) refl (dec_lt i j) (λ a b. is_first k (suc i) j a b t (λ n c d. f n (omega arith) d))
    where
      go : (b : Bool) → p i ≡ b → Dec (i < j) → (suc i ≤ j → j < suc i + k → first_at p k (suc i) ≡ j) → first_at p (suc k) i ≡ j
      go true e (yes m) on = absurd (true≢false (sym e ∙ f i (omega arith) m))
      go true e (no m) on = step_yes k i e ∙ omega arith
      go false e (yes m) on = step_no k i e ∙ on (omega arith) (omega arith)
      go false e (no m) on =
          let q : j ≡ i = omega arith in
          absurd (true≢false (sym t ∙ rw q e))

-- ---- the first of many numbers that is not 0
module _ (f : ℕ → ℕ) where
  abbrev given : ℕ → Bool
  given j = ltb 0 (f j)

  -- the number at an index below m, 0 where there is none
  abbrev below : ℕ → ℕ → ℕ
  below m j = cond (ltb j m) (f j) 0

  pub first_of_at : (k i : ℕ) → first_of f k i ≡ below (i + k) (first_at given k i)
  unfolding first_of
  first_of_at zero i =
      let e : i + 0 ≤ first_at given 0 i = omega (arith, past given i) in
      rw (le-ltb _ _ e)
  first_of_at (suc k) i = go (f i) refl (first_of_at k (suc i))
    where
      go : (n : ℕ) → f i ≡ n → first_of f k (suc i) ≡ below (suc i + k) (first_at given k (suc i)) → first_of f (suc k) i ≡ below (i + suc k) (first_at given (suc k) i)
      go zero e on =
          let q : i + suc k ≡ suc i + k = omega arith in
          rw (e, step_no given k i (rw e), q) on
      go (suc n) e on =
          let h : i < i + suc k = omega arith in
          rw (step_yes given k i (rw e (lt-ltb 0 (suc n) (omega arith))), lt-ltb _ _ h, e)
