-- Fractions that are the same, and the order of fractions: both go through sums, differences and products. Assumes nothing.
use mathlib.Core.Path.{◌≡◌, sym, ap}
use Prim.Native.Nat.{ℕ, ◌+◌, ◌-◌, ◌*◌}
use native.Mathlib.Nat.{le_of_eq, mul-le-mul_right, le_of_mul-le-mul_right, eq_of_mul-eq-mul_right}
use native.Mathlib.Omega.{arith}
use Rattle.fractions.specs.Frac.{Frac, ◌⊞◌, ◌⊟◌, ◌⊠◌, ◌≼◌}
use Rattle.fractions.proofs.Frac.{Le, LeAt, Pos, le_at_sub}

-- ---- the same fraction
abbrev pub Same : Frac → Frac → Type 0
Same a b = a.num * b.den ≡ b.num * a.den

pub same_trans : (a b c : Frac) → Pos b → Same a b → Same b c → Same a c
same_trans a b c B h k =
    eq_of_mul-eq-mul_right b.den B (a.num * c.den) (c.num * a.den) (omega (arith, ap (λ (z : ℕ). z * c.den) h, ap (λ (z : ℕ). z * a.den) k))

pub mul_same : (c a b : Frac) → Same a b → Same (c ⊠ a) (c ⊠ b)
mul_same c a b h = omega (arith, ap (λ (z : ℕ). z * (c.num * c.den)) h)

pub add_same : (a b c d : Frac) → Same a b → Same c d → Same (a ⊞ c) (b ⊞ d)
add_same a b c d h k = omega (arith, ap (λ (z : ℕ). z * (c.den * d.den)) h, ap (λ (z : ℕ). z * (a.den * b.den)) k)

-- four fractions, summed two and two
pub interchange : (a b c d : Frac) → Same ((a ⊞ b) ⊞ (c ⊞ d)) ((a ⊞ c) ⊞ (b ⊞ d))
interchange a b c d = at a.num b.num c.num d.num a.den b.den c.den d.den
  where
    at : (a b c d p q r s : ℕ)
        → ((a * q + b * p) * (r * s) + (c * s + d * r) * (p * q)) * (p * r * (q * s)) ≡ ((a * r + c * p) * (q * s) + (b * s + d * q) * (p * r)) * (p * q * (r * s))
    at a b c d p q r s = omega arith

-- ---- the order
pub same_≼ : (a b : Frac) → Same a b → a ≼ b
same_≼ a b h = le_of_eq h

pub ≼-same : (a b : Frac) → Same a b → b ≼ a
≼-same a b h = le_of_eq (sym h)

pub ≼_trans : (a b c : Frac) → Pos b → a ≼ b → b ≼ c → a ≼ c
≼_trans a b c B h k = le_of_mul-le-mul_right {k = b.den} (omega (arith, mul-le-mul_right c.den h, mul-le-mul_right a.den k)) B

pub add_mono : (a b c d : Frac) → a ≼ b → c ≼ d → (a ⊞ c) ≼ (b ⊞ d)
add_mono a b c d h k = omega (arith, mul-le-mul_right (c.den * d.den) h, mul-le-mul_right (a.den * b.den) k)

pub sub_mono : (a b c d : Frac) → a ≼ b → d ≼ c → (a ⊟ c) ≼ (b ⊟ d)
sub_mono a b c d h k =
    let p : LeAt 1 a b 0 = omega arith in
    let q : LeAt 1 d c 0 = omega arith in
    let r : LeAt 1 (a ⊟ c) (b ⊟ d) 0 = le_at_sub 1 a b c d 0 0 p q in
    omega arith

pub mul_mono : (c a b : Frac) → a ≼ b → (c ⊠ a) ≼ (c ⊠ b)
mul_mono c a b h = omega (arith, mul-le-mul_right (c.num * c.den) h)

-- ---- and up to a multiple of 2 ^ -53
pub same_le : (a b : Frac) → Same a b → Le a b 0
same_le a b h = omega arith

pub same_ge : (a b : Frac) → Same a b → Le b a 0
same_ge a b h = omega arith
