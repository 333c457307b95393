-- The ends of slopes, of π/4, π/2 and π, and of the first quadrant close in on one value each: `Closing`. Assumes nothing.
use mathlib.Core.Path.{◌≡◌, refl, subst}
use mathlib.Core.Bool.{Bool, true, false, cond}
use mathlib.Core.Logic.{◌⊎◌, inl, inr}
use Prim.Native.Nat.{ℕ, zero, suc, ◌+◌, ◌-◌, ◌*◌, ◌^◌, ◌≤◌, ◌<◌}
use native.Mathlib.Nat.{le_of_eq, mul-pos, zero-lt-suc, mul-le-mul, mul-le-mul_right, eq-or-lt_of_le}
use native.Mathlib.Omega.{arith}
use lib.Dec.{T, ltb, ltb→lt, lit≤}
use Rattle.fractions.specs.Frac.{Frac, ◌over◌, ◌⊞◌, ◌⊟◌, ◌≼◌}
use Rattle.exact_angles.specs.Exact.{term, partial, Shut, Closing, slope, twice, less, quarter, half, whole, first}
use Rattle.fractions.proofs.Order.{≼_trans, sub_mono, mul_mono}
use Rattle.fractions.proofs.Frac.{LeAt, Pos, le_at_sub}
use Rattle.exact_angles.proofs.Ends.{term_pos, partial_pos, term_small, term_halves}

-- ---- the series
module _ (p q : ℕ) (Q : 0 < q) (l : p ≤ q) where
  abbrev Y : Frac
  Y = (p * p) over (p * p + q * q)

  Y_pos : Pos Y
  Y_pos = omega (arith, mul-pos Q Q)

  Y_half : 2 * (p * p) ≤ p * p + q * q
  Y_half = omega (arith, mul-le-mul l l)

  pub slope_closing : Closing (slope p q) 1
  unfolding slope partial
  slope_closing = record {
    low_is = λ n. mul-pos Y_pos (partial_pos Y Y_pos n);
    high_is = λ n. mul-pos Y_pos (mul-pos (partial_pos Y Y_pos n) (term_pos Y Y_pos n));
    rises = λ n. rise (p * q) (p * p + q * q) (partial Y n).num (partial Y n).den (term Y (suc n)).num (term Y (suc n)).den;
    falls = λ n. fall (p * q) (p * p + q * q) (partial Y n).num (partial Y n).den (term Y (suc n)).num (term Y (suc n)).den (term Y n).num (term Y n).den (term_halves Y Y_half n);
    ordered = λ n. rise (p * q) (p * p + q * q) (partial Y n).num (partial Y n).den (term Y n).num (term Y n).den;
    closes = λ n. close (p * q) (p * p + q * q) (partial Y n).num (partial Y n).den (term Y n).num (term Y n).den (2 ^ n) front (term_small Y Y_half n);
  }
    where
      front : p * q ≤ p * p + q * q
      front = omega (arith, mul-le-mul_right q l)

      rise : (f g a b c d : ℕ) → f * a * (g * (b * d)) ≤ f * (a * d + c * b) * (g * b)
      rise f g a b c d = omega arith

      fall : (f g a b c d m n : ℕ) → 2 * (c * n) ≤ m * d → f * ((a * d + c * b) * d + c * (b * d)) * (g * (b * n)) ≤ f * (a * n + m * b) * (g * (b * d * d))
      fall f g a b c d m n h = omega (arith, mul-le-mul_right (f * g * (b * b * d)) h)

      close : (f g a b c d w : ℕ) → f ≤ g → c * w ≤ d → f * (a * d + c * b) * (g * b * w) ≤ (f * a * w + 1 * (g * b)) * (g * (b * d))
      close f g a b c d w h k = omega (arith, mul-le-mul_right (g * (b * b)) (mul-le-mul h k))

-- ---- twice, and the difference
pub twice_closing : (a : Shut) (c : ℕ) → Closing a c → Closing (twice a) (2 * c)
twice_closing a c h = record {
  low_is = λ n. mul-pos (zero-lt-suc 0) (h.low_is n);
  high_is = λ n. mul-pos (zero-lt-suc 0) (h.high_is n);
  rises = λ n. mul_mono (2 over 1) (a.low n) (a.low (suc n)) (h.rises n);
  falls = λ n. mul_mono (2 over 1) (a.high (suc n)) (a.high n) (h.falls n);
  ordered = λ n. mul_mono (2 over 1) (a.low n) (a.high n) (h.ordered n);
  closes = λ n. double (a.high n).num (a.high n).den (a.low n).num (a.low n).den c (2 ^ n) (h.closes n);
}
  where
    double : (a b c d e w : ℕ) → a * (d * w) ≤ (c * w + e * d) * b → 2 * a * (1 * d * w) ≤ (2 * c * w + 2 * e * (1 * d)) * (1 * b)
    double a b c d e w h = omega arith

to_at : (w : ℕ) (a b : Frac) (c : ℕ) → a ≼ b ⊞ (c over w) → LeAt w a b c
to_at w a b c h = omega arith

from_at : (w : ℕ) (a b : Frac) (c : ℕ) → LeAt w a b c → a ≼ b ⊞ (c over w)
from_at w a b c h = omega arith

pub less_closing : (a b : Shut) (c d : ℕ) → Closing a c → Closing b d → Closing (less a b) (c + d)
less_closing a b c d h k = record {
  low_is = λ n. mul-pos (h.low_is n) (k.high_is n);
  high_is = λ n. mul-pos (h.high_is n) (k.low_is n);
  rises = λ n. sub_mono (a.low n) (a.low (suc n)) (b.high n) (b.high (suc n)) (h.rises n) (k.falls n);
  falls = λ n. sub_mono (a.high (suc n)) (a.high n) (b.low (suc n)) (b.low n) (h.falls n) (k.rises n);
  ordered = λ n. sub_mono (a.low n) (a.high n) (b.high n) (b.low n) (h.ordered n) (k.ordered n);
  closes = λ n.
      from_at (2 ^ n) (a.high n ⊟ b.low n) (a.low n ⊟ b.high n) (c + d)
      (le_at_sub (2 ^ n) (a.high n) (a.low n) (b.low n) (b.high n) c d (to_at (2 ^ n) (a.high n) (a.low n) c (h.closes n)) (to_at (2 ^ n) (b.high n) (b.low n) d (k.closes n)));
}

pub closing_grow : (a : Shut) (c d : ℕ) → c ≤ d → Closing a c → Closing a d
closing_grow a c d l h = record {
  low_is = h.low_is;
  high_is = h.high_is;
  rises = h.rises;
  falls = h.falls;
  ordered = h.ordered;
  closes = λ n. grow (a.high n).num (a.high n).den (a.low n).num (a.low n).den (2 ^ n) (h.closes n);
}
  where
    grow : (m n i j w : ℕ) → m * (j * w) ≤ (i * w + c * j) * n → m * (j * w) ≤ (i * w + d * j) * n
    grow m n i j w h = omega (arith, mul-le-mul_right (j * n) l)

-- ---- the quadrant
pub quarter_closing : Closing quarter 1
quarter_closing = slope_closing 1 1 (zero-lt-suc 0) (lit≤ tt)

pub half_closing : Closing half 2
half_closing = twice_closing quarter 1 quarter_closing

pub whole_closing : Closing whole 4
whole_closing = twice_closing half 2 half_closing

pub first_closing : (p q : ℕ) → 0 < p + q → Closing (first p q) 3
unfolding first
first_closing p q o = go (ltb p q) (ltb q p) (ltb→lt p q) (ltb→lt q p)
  where
    go : (b c : Bool) → (T b → p < q) → (T c → q < p) → Closing (cond b (slope p q) (cond c (less half (slope q p)) quarter)) 3
    go true c f g = closing_grow (slope p q) 1 3 (lit≤ tt) (slope_closing p q (omega (arith, f tt)) (omega (arith, f tt)))
    go false true f g = less_closing half (slope q p) 2 1 half_closing (slope_closing q p (omega (arith, g tt)) (omega (arith, g tt)))
    go false false f g = closing_grow quarter 1 3 (lit≤ tt) quarter_closing

-- ---- from an n on
from_on : (R : ℕ → Type 0) (N : ℕ) → R N → ((n : ℕ) → R n → R (suc n)) → (n : ℕ) → N ≤ n → R n
from_on R N r next zero l = subst R (none N l) r
  where
    none : (z : ℕ) → z ≤ 0 → z ≡ 0
    none z l = omega arith
from_on R N r next (suc n) l = go (eq-or-lt_of_le l) (from_on R N r next n)
  where
    go : (N ≡ suc n) ⊎ (N < suc n) → (N ≤ n → R n) → R (suc n)
    go (inl e) ih = subst R e r
    go (inr m) ih = next n (ih (omega arith))

module _ (a : Shut) (c : ℕ) (h : Closing a c) (N : ℕ) where
  pub low_from : (n : ℕ) → N ≤ n → a.low N ≼ a.low n
  low_from = from_on (λ n. a.low N ≼ a.low n) N (le_of_eq refl) (λ n r. ≼_trans (a.low N) (a.low n) (a.low (suc n)) (h.low_is n) r (h.rises n))

  pub high_from : (n : ℕ) → N ≤ n → a.high n ≼ a.high N
  high_from = from_on (λ n. a.high n ≼ a.high N) N (le_of_eq refl) (λ n r. ≼_trans (a.high (suc n)) (a.high n) (a.high N) (h.high_is n) (h.falls n) r)
