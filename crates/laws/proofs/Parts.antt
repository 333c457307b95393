-- A loop taken in parts: k iterations, and then those that are left. Assumes nothing.
use Prim.Native.Nat.{ℕ, zero, suc, ◌+◌, ◌-◌, ◌≤◌, ◌<◌}
use mathlib.Core.Bool.{Bool, true, false, ◌||◌}
use mathlib.Core.Path.{◌≡◌, refl, ap, ap₂, ◌∙◌}
use mathlib.Core.List.{List, ◌++◌}
use native.Mathlib.Nat.{add-zero, zero-add}
use native.Mathlib.Omega.{arith}
use Rattle.laws.specs.Loop.{any_of, iterate, flat}
use Rattle.laws.proofs.Loops.{Iterate}

parted : {A : Type 0} (step : ℕ → A → A) (k r i : ℕ) (a : A) → iterate step (k + r) i a ≡ iterate step r (i + k) (iterate step k i a)
unfolding iterate
parted step zero r i a = rw (zero-add, add-zero)
parted step (suc k) r i a =
    let e : suc k + r ≡ suc (k + r) = omega arith in
    let e' : i + suc k ≡ suc i + k = omega arith in
    rw (e, e') (parted step k r (suc i) (step i a))

-- the iterations up to j at once
pub iterate_part : {A : Type 0} {step : ℕ → A → A} {n i : ℕ} {a z : A} → Iterate step n i a z → {b : A} {j : ℕ} → b ≡ iterate step (j - i) i a → i ≤ j → j ≤ n → Iterate step n j b z
iterate_part {step = step} {n = n} {i = i} {a = a} t {j = j} e h g =
    let q : n - i ≡ (j - i) + (n - j) = omega arith in
    let q' : i + (j - i) ≡ j = omega arith in
    record { within = g; rest = rw e (rw q' at ((rw q at t.rest) ∙ parted step (j - i) (n - j) i a)) }

or_assoc : (x y z : Bool) → x || (y || z) ≡ (x || y) || z
or_assoc true y z = refl
or_assoc false y z = refl

any_parted : (p : ℕ → Bool) (k r i : ℕ) → any_of p (k + r) i ≡ any_of p k i || any_of p r (i + k)
unfolding any_of
any_parted p zero r i = rw (zero-add, add-zero)
any_parted p (suc k) r i =
    let e : suc k + r ≡ suc (k + r) = omega arith in
    let e' : i + suc k ≡ suc i + k = omega arith in
    rw (e, e') (ap (λ (b : Bool). p i || b) (any_parted p k r (suc i)) ∙ or_assoc (p i) (any_of p k (suc i)) (any_of p r (suc i + k)))

-- of those from i on, those up to j and then the rest
pub any_part : (p : ℕ → Bool) (n i j : ℕ) → i ≤ j → j ≤ n → any_of p (n - i) i ≡ any_of p (j - i) i || any_of p (n - j) j
any_part p n i j h g =
    let q : n - i ≡ (j - i) + (n - j) = omega arith in
    let q' : i + (j - i) ≡ j = omega arith in
    rw q' at (ap (λ (m : ℕ). any_of p m i) q ∙ any_parted p (j - i) (n - j) i)

-- blocks that are the same one by one
pub flat_same : {A : Type 0} (f g : ℕ → List A) (k i : ℕ) → ((j : ℕ) → j < k → f (i + j) ≡ g (i + j)) → flat f k i ≡ flat g k i
unfolding flat
flat_same f g zero i h = refl
flat_same f g (suc k) i h =
    ap₂ ◌++◌ (rw add-zero at (h 0 (omega arith)))
    (flat_same f g k (suc i) (λ j b. let e : suc i + j ≡ i + suc j = omega arith in rw e (h (suc j) (omega arith))))
