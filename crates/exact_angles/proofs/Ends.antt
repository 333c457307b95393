-- Euler's series by whole numbers: the sum from the inside out is the partial sum, and each term is at most half of the one before it. Assumes nothing.
use mathlib.Core.Path.{◌≡◌, sym, subst}
use Prim.Native.Nat.{ℕ, zero, suc, ◌+◌, ◌-◌, ◌*◌, ◌^◌, ◌≤◌}
use native.Mathlib.Nat.{mul-pos, zero-lt-suc, mul-le-mul, mul-le-mul_right, pow-suc}
use native.Mathlib.Omega.{arith}
use lib.Dec.{lit≤}
use Rattle.fractions.specs.Frac.{Frac, ◌⊞◌, ◌⊠◌}
use Rattle.exact_angles.specs.Exact.{coef, power, term, partial}
use Rattle.fractions.proofs.Order.{Same, same_trans}
use Rattle.fractions.proofs.Frac.{Pos}
use Rattle.exact_angles.proofs.Horner.{coef_pos, coef_small, nest, nest_pos}

-- ---- positive denominators
pub power_pos : (y : Frac) → Pos y → (k : ℕ) → Pos (power y k)
unfolding power
power_pos y Y zero = zero-lt-suc 0
power_pos y Y (suc k) = mul-pos (power_pos y Y k) Y

pub term_pos : (y : Frac) → Pos y → (k : ℕ) → Pos (term y k)
unfolding term
term_pos y Y k = mul-pos (coef_pos k) (power_pos y Y k)

pub partial_pos : (y : Frac) → Pos y → (k : ℕ) → Pos (partial y k)
unfolding partial
partial_pos y Y zero = term_pos y Y 0
partial_pos y Y (suc k) = mul-pos (partial_pos y Y k) (term_pos y Y (suc k))

-- ---- from the inside out
abbrev pub upto : ℕ → ℕ → ℕ
upto n zero = suc n
upto n (suc m) = upto (suc n) m

last : (A P C : Frac) → Same (A ⊞ P ⊠ C) (A ⊞ C ⊠ P)
last A P C = omega arith

split : (a b p q c d u v n m : ℕ)
    → (a * (q * (d * (v * m))) + p * (c * (v * m) + u * n * d) * b) * (b * (d * q) * (q * v * m)) ≡ ((a * (d * q) + c * p * b) * (q * v * m) + p * u * n * (b * (d * q))) * (b * (q * (d * (v * m))))
split a b p q c d u v n m = omega arith

nest_partial : (y : Frac) → Pos y → (m n : ℕ) → Same (partial y n ⊞ power y (suc n) ⊠ nest y (suc n) m) (partial y (upto n m))
unfolding nest partial term power
nest_partial y Y zero n = last (partial y n) (power y (suc n)) (coef (suc n))
nest_partial y Y (suc m) n =
    let A = partial y n in
    let P = power y (suc n) in
    let C = coef (suc n) in
    let N = nest y (suc (suc n)) m in
    same_trans (A ⊞ P ⊠ (C ⊞ y ⊠ N)) ((A ⊞ C ⊠ P) ⊞ (P ⊠ y) ⊠ N) (partial y (upto (suc n) m))
    (mul-pos (mul-pos (partial_pos y Y n) (mul-pos (coef_pos (suc n)) (power_pos y Y (suc n)))) (mul-pos (mul-pos (power_pos y Y (suc n)) Y) (nest_pos y Y m (suc (suc n)))))
    (split A.num A.den P.num P.den C.num C.den y.num y.den N.num N.den)
    (nest_partial y Y m (suc n))

first_two : (a b u v : ℕ) → (1 * (v * b) + u * a * 1) * (1 * 1 * (1 * v * b)) ≡ (1 * 1 * (1 * v * b) + 1 * u * a * (1 * 1)) * (1 * (v * b))
first_two a b u v = omega arith

pub nest_all : (y : Frac) → Pos y → (m : ℕ) → Same (nest y 0 (suc m)) (partial y (upto 0 m))
unfolding nest partial term power coef
nest_all y Y m =
    let N = nest y 1 m in
    same_trans (coef 0 ⊞ y ⊠ N) (partial y 0 ⊞ power y 1 ⊠ N) (partial y (upto 0 m))
    (mul-pos (partial_pos y Y 0) (mul-pos (power_pos y Y 1) (nest_pos y Y m 1)))
    (first_two N.num N.den y.num y.den)
    (nest_partial y Y m 0)

-- ---- the terms
pub term_small : (y : Frac) → 2 * y.num ≤ y.den → (k : ℕ) → (term y k).num * 2 ^ k ≤ (term y k).den
unfolding term
term_small y h k = at (coef k).num (coef k).den (power y k).num (power y k).den (2 ^ k) (coef_small k) (power_small k)
  where
    at : (a b c d p : ℕ) → a ≤ b → c * p ≤ d → a * c * p ≤ b * d
    at a b c d p h k = omega (arith, mul-le-mul h k)

    next : (a b c d p : ℕ) → a * p ≤ b → 2 * c ≤ d → a * c * (p * 2) ≤ b * d
    next a b c d p h k = omega (arith, mul-le-mul h k)

    power_small : (k : ℕ) → (power y k).num * 2 ^ k ≤ (power y k).den
    power_small zero = unfold power in lit≤ tt
    power_small (suc k) = unfold power in subst (λ (z : ℕ). (power y k).num * y.num * z ≤ (power y k).den * y.den) (sym (pow-suc 2 k)) (next (power y k).num (power y k).den y.num y.den (2 ^ k) (power_small k) h)

pub term_halves : (y : Frac) → 2 * y.num ≤ y.den → (k : ℕ) → 2 * ((term y (suc k)).num * (term y k).den) ≤ (term y k).num * (term y (suc k)).den
unfolding term coef power
term_halves y h k = at (coef k).num (coef k).den (power y k).num (power y k).den y.num y.den k h
  where
    at : (a b c d u v k : ℕ) → 2 * u ≤ v → 2 * (a * (2 * k + 2) * (c * u) * (b * d)) ≤ a * c * (b * (2 * k + 3) * (d * v))
    at a b c d u v k h =
        let x : (2 * k + 2) * (2 * u) ≤ (2 * k + 3) * v = mul-le-mul (omega arith) h in
        omega (arith, mul-le-mul_right (a * b * (c * d)) x)
