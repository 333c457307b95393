-- Refusals as numbers, 0 for none: the first of two, and of many. What none tells, and when one is given. Assumes nothing.
use Prim.Native.Nat.{ℕ, zero, suc, ◌+◌, ◌<◌}
use mathlib.Core.Path.{◌≡◌, refl}
use mathlib.Core.Bool.{Bool, true, false, cond}
use mathlib.Core.Logic.{◌⊎◌, inl, inr, ⊎_elim}
use native.Mathlib.Nat.{add-zero, not-suc-le-zero}
use native.Mathlib.Omega.{arith}
use Rattle.laws.specs.Loop.{first, first_of}

-- none is given exactly if neither of the two is
pub first_zero_lem : (a b : ℕ) → first a b ≡ 0 → (a ≡ 0) × (b ≡ 0)
first_zero_lem zero b e = (refl, e)
first_zero_lem (suc a) b e = absurd (omega arith)

pub first_fine : (a b : ℕ) → a ≡ 0 → b ≡ 0 → first a b ≡ 0
first_fine zero b p q = q
first_fine (suc a) b p q = p

-- k is given exactly if the first of the two is k, or there is no first and the second is k
pub first_given : (a b k : ℕ) → first a b ≡ suc k → (a ≡ suc k) ⊎ ((a ≡ 0) × (b ≡ suc k))
first_given zero b k e = inr (refl, e)
first_given (suc a) b k e = inl e

pub first_left : (a b k : ℕ) → a ≡ suc k → first a b ≡ suc k
first_left zero b k e = absurd (omega arith)
first_left (suc a) b k e = e

pub first_right : (a b : ℕ) {k : ℕ} → a ≡ 0 → b ≡ k → first a b ≡ k
first_right zero b p q = q
first_right (suc a) b p q = absurd (omega arith)

-- a test that gives a refusal where it passes, and one that does where it fails
pub test_none : (b : Bool) (k : ℕ) → cond b (suc k) 0 ≡ 0 → b ≡ false
test_none true k e = absurd (omega arith)
test_none false k e = refl

pub test_passed : (b : Bool) (k : ℕ) → cond b 0 (suc k) ≡ 0 → b ≡ true
test_passed true k e = refl
test_passed false k e = absurd (omega arith)

-- of many: none is given exactly if none of them is
pub first_of_zero : (f : ℕ → ℕ) (k i : ℕ) → first_of f k i ≡ 0 → (j : ℕ) → j < k → f (i + j) ≡ 0
unfolding first_of
first_of_zero f zero i e j h = absurd (not-suc-le-zero h)
first_of_zero f (suc k) i e zero h = rw add-zero (first_zero_lem _ _ e).0
first_of_zero f (suc k) i e (suc j) h =
    let g : i + suc j ≡ suc i + j = omega arith in
    rw g (first_of_zero f k (suc i) (first_zero_lem (f i) _ e).1 j (omega arith))

pub first_of_fine : (f : ℕ → ℕ) (k i : ℕ) → ((j : ℕ) → j < k → f (i + j) ≡ 0) → first_of f k i ≡ 0
unfolding first_of
first_of_fine f zero i h = refl
first_of_fine f (suc k) i h =
    first_fine _ _ (rw add-zero at (h 0 (omega arith)))
    (first_of_fine f k (suc i) (λ j g. let e : suc i + j ≡ i + suc j = omega arith in rw e (h (suc j) (omega arith))))

-- the one that is given is that of an index before which there is none
pub record GivenAt (f : ℕ → ℕ) (k i r : ℕ) : Type 0 where
  pub index : ℕ
  pub within : index < k
  pub here : f (i + index) ≡ r
  pub none_before : (j : ℕ) → j < index → f (i + j) ≡ 0

pub first_of_given : (f : ℕ → ℕ) (k i r : ℕ) → first_of f k i ≡ suc r → GivenAt f k i (suc r)
unfolding first_of
first_of_given f zero i r e = absurd (omega arith)
first_of_given f (suc k) i r e =
    ⊎_elim
    (λ h. record { index = 0; within = omega arith; here = rw add-zero h; none_before = λ j g. absurd (not-suc-le-zero g) })
    (λ h. later h.0 (first_of_given f k (suc i) r h.1))
    (first_given (f i) (first_of f k (suc i)) r e)
  where
    shifted : (p : ℕ) → suc i + p ≡ i + suc p
    shifted p = omega arith

    before : (p : ℕ) → f i ≡ 0 → ((j : ℕ) → j < p → f (suc i + j) ≡ 0) → (j : ℕ) → j < suc p → f (i + j) ≡ 0
    before p z h zero g = rw add-zero z
    before p z h (suc j) g = rw (← shifted j) (h j (omega arith))

    later : f i ≡ 0 → GivenAt f k (suc i) (suc r) → GivenAt f (suc k) i (suc r)
    later z g = record {
      index = suc g.index;
      within = omega (arith, g.within);
      here = rw (← shifted g.index) g.here;
      none_before = before g.index z g.none_before;
    }
