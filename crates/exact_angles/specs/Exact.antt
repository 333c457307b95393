-- SCOPE 42, 43: the exact angle of a pair, over whole numbers: a value shut in between fractions, and what is near it. Definitions only.
use Rattle.std.specs.Prelude.{◌≡◌, Bool, cond, ℕ, zero, suc, ◌+◌, ◌*◌, ◌^◌, ◌≤◌, ◌<◌, ltb, ℤ, Float}
use Rattle.std.specs.Float.{nan, inf, fin}
use Rattle.std.specs.Float.Ieee.{up, down}
use Rattle.fractions.specs.Frac.{Frac, ◌over◌, ◌⊞◌, ◌⊟◌, ◌⊠◌, ◌≼◌, magnitude}
use Rattle.angle.specs.Arctan.{atan2}

-- ---- SCOPE 42: Euler's series, atan (p/q) = pq / (p² + q²) * Σ cₖ yᵏ for y = p² / (p² + q²) and cₖ = 2/3 * 4/5 * .. * 2k/(2k+1)
unfoldable pub coef : ℕ → Frac
coef zero = 1 over 1
coef (suc k) = coef k ⊠ ((2 * k + 2) over (2 * k + 3))

unfoldable pub power : Frac → ℕ → Frac
power y zero = 1 over 1
power y (suc k) = power y k ⊠ y

unfoldable pub term : Frac → ℕ → Frac
unfolding coef power
term y k = coef k ⊠ power y k

-- the terms from 0 to k
unfoldable pub partial : Frac → ℕ → Frac
unfolding term
partial y zero = term y 0
partial y (suc k) = partial y k ⊞ term y (suc k)

-- ---- SCOPE 42: a value shut in: for every n it is from `low n` to `high n`
pub record Shut : Type 0 where
  pub low : ℕ → Frac
  pub high : ℕ → Frac

-- The ends are fractions, the lower ones rise, the upper ones fall, and they close in: so they shut in one value and no other.
pub record Closing (a : Shut) (c : ℕ) : Type 0 where
  pub low_is : (n : ℕ) → 0 < (a.low n).den
  pub high_is : (n : ℕ) → 0 < (a.high n).den
  pub rises : (n : ℕ) → a.low n ≼ a.low (suc n)
  pub falls : (n : ℕ) → a.high (suc n) ≼ a.high n
  pub ordered : (n : ℕ) → a.low n ≼ a.high n
  pub closes : (n : ℕ) → a.high n ≼ a.low n ⊞ (c over (2 ^ n))

-- SCOPE 42: the angle whose tangent is p/q, for p ≤ q. Each term is at most half of the one before it, so all that are left out are together at most the
-- last one that is in.
unfoldable pub slope : ℕ → ℕ → Shut
unfolding partial
slope p q =
    let y = (p * p) over (p * p + q * q) in
    let f = (p * q) over (p * p + q * q) in
    record { low = λ n. f ⊠ partial y n; high = λ n. f ⊠ (partial y n ⊞ term y n) }

abbrev pub twice : Shut → Shut
twice a = record { low = λ n. (2 over 1) ⊠ a.low n; high = λ n. (2 over 1) ⊠ a.high n }

-- a less b: the upper end of what is taken off makes the lower end
abbrev pub less : Shut → Shut → Shut
less a b = record { low = λ n. a.low n ⊟ b.high n; high = λ n. a.high n ⊟ b.low n }

-- π/4, π/2, π
abbrev pub quarter : Shut
quarter = slope 1 1

abbrev pub half : Shut
half = twice quarter

abbrev pub whole : Shut
whole = twice half

-- SCOPE 42: the angle of the point (q, p) of the first quadrant, not both 0: π/2 less the other slope where p is above q
unfoldable pub first : ℕ → ℕ → Shut
unfolding slope
first p q = cond (ltb p q) (slope p q) (cond (ltb q p) (less half (slope q p)) quarter)

-- SCOPE 42: the size of the angle of (x, y) from the positive x axis: q : p is |x| : |y|, and x's sign is minus where `back`
unfoldable pub around : Bool → ℕ → ℕ → Shut
unfolding first
around back p q = cond back (less whole (first p q)) (first p q)

-- ---- SCOPE 43: r has the sign s, and its size is within 2 ^ -k of both ends, from the 48th on: so of the one value that they shut in
pub record Within (k : ℕ) (r : Float) (s : Bool) (a : Shut) : Type 0 where
  pub sign : (m : ℕ) × ((e : ℤ) × (r ≡ fin s m e))
  pub one_value : Closing a 7
  pub above : (n : ℕ) → 48 ≤ n → magnitude r ≼ a.low n ⊞ (1 over (2 ^ k))
  pub below : (n : ℕ) → 48 ≤ n → a.high n ≼ magnitude r ⊞ (1 over (2 ^ k))

-- SCOPE 43: r is within 2 ^ -k of the angle of (x, y), for any finite x and y that are not both 0; it has y's sign, of a zero too. m 2^e and n 2^d are brought
-- over one power of two. Of other pairs nothing is said.
abbrev pub NearBy : ℕ → Float → Float → Float → Type 0
NearBy k nan x r = Unit {0}
NearBy k (inf s) x r = Unit {0}
NearBy k (fin s m e) nan r = Unit {0}
NearBy k (fin s m e) (inf t) r = Unit {0}
NearBy k (fin s m e) (fin t n d) r = 0 < m + n → Within k r s (around t (m * up e * down d) (n * up d * down e))

abbrev pub NearAngle : Float → Float → Float → Type 0
NearAngle = NearBy 45

-- SCOPE 43: the arctangent is within 2 ^ -k of the exact angle. Proved for 45 as `near_angle`; for 52 it is refuted (`theorem_wrongs`).
abbrev pub AlwaysNear : ℕ → Type 0
AlwaysNear k = (y x : Float) → NearBy k y x (atan2 y x)
