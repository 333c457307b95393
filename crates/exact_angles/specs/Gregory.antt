-- SCOPE 42: Gregory's series, atan x = x - x³/3 + x⁵/5 - .., by partial sums over whole numbers, and that Euler's ends are honest. Definitions only.
use Rattle.std.specs.Prelude.{◌≡◌, Bool, true, false, not, ℕ, zero, suc, ◌+◌, ◌*◌, ◌^◌, ◌≤◌, ◌<◌}
use Rattle.fractions.specs.Frac.{Frac, ◌over◌, ◌⊟◌, ◌⊠◌, ◌≼◌}
use Rattle.exact_angles.specs.Exact.{Closing, slope, half, whole, first, around}

-- 1/(2a+1) - u/(2a+3) + u²/(2a+5) - .., n terms after the first, from the inside out
unfoldable pub alternate : Frac → ℕ → ℕ → Frac
alternate u a zero = 1 over (2 * a + 1)
alternate u a (suc n) = (1 over (2 * a + 1)) ⊟ u ⊠ alternate u (suc a) n

-- p/q - (p/q)³/3 + .., n terms after the first
unfoldable pub gregory : ℕ → ℕ → ℕ → Frac
unfolding alternate
gregory p q n = (p over q) ⊠ alternate ((p * p) over (q * q)) 0 n

-- the last term of an uneven n is taken off, so the sum lies below the angle; that of an even n above
abbrev pub uneven : ℕ → Bool
uneven zero = false
uneven (suc n) = not (uneven n)

-- SCOPE 42: the ends of the exact angle are honest
pub record Honest : Type 0 where
  -- the value that Euler's sums shut in lies from each uneven sum of Gregory's to each even one: both are sums of the same angle
  pub lower_agrees : (p q : ℕ) → 0 < q → p ≤ q → (n k : ℕ) → uneven k ≡ false → (slope p q).low n ≼ gregory p q k
  pub upper_agrees : (p q : ℕ) → 0 < q → p ≤ q → (n k : ℕ) → uneven k ≡ true → gregory p q k ≼ (slope p q).high n
  -- the ends of every angle are fractions that close in on one value
  pub one_value : (back : Bool) (p q : ℕ) → 0 < p + q → Closing (around back p q) 7
  -- no difference is cut at 0: what is taken off is at most what it is taken off from, in Gregory's sums, in π/2 less a slope and in π less an angle
  pub gregory_uncut : (p q : ℕ) → 0 < q → p ≤ q → (a n : ℕ) → ((p * p) over (q * q)) ⊠ alternate ((p * p) over (q * q)) (suc a) n ≼ (1 over (2 * a + 1))
  pub half_uncut : (p q : ℕ) → 0 < q → p ≤ q → (n : ℕ) → (slope p q).high n ≼ half.low n
  pub whole_uncut : (p q : ℕ) → 0 < p + q → (n : ℕ) → (first p q).high n ≼ whole.low n
  -- 3.14159265358979 ≤ π ≤ 3.14159265358980
  pub pi_digits : ((314159265358979 over (10 ^ 14)) ≼ whole.low 48) × (whole.high 48 ≼ (314159265358980 over (10 ^ 14)))
