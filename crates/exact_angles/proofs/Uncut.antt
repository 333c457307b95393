-- The differences in the exact angles are never cut off at 0: each end that is taken off is at most the end that it is taken off from. Assumes nothing.
use mathlib.Core.Bool.{Bool, true, false, cond}
use mathlib.Core.Path.{refl}
use Prim.Native.Nat.{ℕ, zero, suc, ◌+◌, ◌-◌, ◌*◌, ◌≤◌, ◌<◌}
use native.Mathlib.Nat.{le_of_eq, zero-lt-suc, mul-le-mul, mul-le-mul_right}
use native.Mathlib.Omega.{arith}
use lib.Dec.{T, ltb, ltb→lt, lit≤}
use Rattle.fractions.specs.Frac.{Frac, ◌over◌, ◌⊟◌, ◌⊠◌, ◌≼◌}
use Rattle.exact_angles.specs.Exact.{coef, power, term, partial, slope, less, quarter, half, whole, first}
use Rattle.exact_angles.specs.Gregory.{alternate}
use Rattle.exact_angles.proofs.Sharp.{means}
use Rattle.fractions.proofs.Order.{≼_trans}
use Rattle.exact_angles.proofs.Shut.{slope_closing, half_closing, whole_closing, low_from, high_from}

-- an upper end of a slope is at most 1, and a lower end of π/2 at least 1
slope_one : (p q : ℕ) → 0 < q → p ≤ q → (n : ℕ) → (slope p q).high n ≼ (1 over 1)
slope_one p q Q l n =
    ≼_trans ((slope p q).high n) ((slope p q).high 0) (1 over 1) ((slope_closing p q Q l).high_is 0) (high_from (slope p q) 1 (slope_closing p q Q l) 0 n (omega arith)) top
  where
    top : (slope p q).high 0 ≼ (1 over 1)
    top = unfold slope partial term power coef in at (p * q) (p * p + q * q) (means p q l)
      where
        at : (a b : ℕ) → 2 * a ≤ b → a * (1 * 1 + 1 * 1) * 1 ≤ 1 * (b * (1 * 1))
        at a b h = omega arith

half_one : (n : ℕ) → (1 over 1) ≼ half.low n
half_one n = ≼_trans (1 over 1) (half.low 0) (half.low n) (half_closing.low_is 0) least (low_from half 2 half_closing 0 n (omega arith))
  where
    least : (1 over 1) ≼ half.low 0
    least = unfold slope partial term power coef in lit≤ tt

pub half_uncut : (p q : ℕ) → 0 < q → p ≤ q → (n : ℕ) → (slope p q).high n ≼ half.low n
half_uncut p q Q l n = ≼_trans ((slope p q).high n) (1 over 1) (half.low n) (zero-lt-suc 0) (slope_one p q Q l n) (half_one n)

-- an upper end of the first quadrant is at most 2, and a lower end of π at least 2
half_two : (n : ℕ) → half.high n ≼ (2 over 1)
half_two n = ≼_trans (half.high n) (half.high 0) (2 over 1) (half_closing.high_is 0) (high_from half 2 half_closing 0 n (omega arith)) most
  where
    most : half.high 0 ≼ (2 over 1)
    most = unfold slope partial term power coef in lit≤ tt

whole_two : (n : ℕ) → (2 over 1) ≼ whole.low n
whole_two n = ≼_trans (2 over 1) (whole.low 0) (whole.low n) (whole_closing.low_is 0) least (low_from whole 4 whole_closing 0 n (omega arith))
  where
    least : (2 over 1) ≼ whole.low 0
    least = unfold slope partial term power coef in lit≤ tt

one_two : (a : Frac) → a ≼ (1 over 1) → a ≼ (2 over 1)
one_two a h = omega arith

left_over : (x y : ℕ) → x - y ≤ x
left_over x y = omega arith

less_two : (a b : Frac) → a ≼ (2 over 1) → (a ⊟ b) ≼ (2 over 1)
less_two a b h = at a.num a.den b.num b.den h
  where
    at : (x y z w : ℕ) → x * 1 ≤ 2 * y → (x * w - z * y) * 1 ≤ 2 * (y * w)
    at x y z w h = omega (arith, mul-le-mul_right w h, left_over (x * w) (z * y))

pub whole_uncut : (p q : ℕ) → 0 < p + q → (n : ℕ) → (first p q).high n ≼ whole.low n
unfolding first
whole_uncut p q o n = go (ltb p q) (ltb q p) (ltb→lt p q) (ltb→lt q p)
  where
    up : (a : Frac) → a ≼ (2 over 1) → a ≼ whole.low n
    up a h = ≼_trans a (2 over 1) (whole.low n) (zero-lt-suc 0) h (whole_two n)

    go : (b c : Bool) → (T b → p < q) → (T c → q < p) → (cond b (slope p q) (cond c (less half (slope q p)) quarter)).high n ≼ whole.low n
    go true c f g = up ((slope p q).high n) (one_two ((slope p q).high n) (slope_one p q (omega (arith, f tt)) (omega (arith, f tt)) n))
    go false true f g = up (half.high n ⊟ (slope q p).low n) (less_two (half.high n) ((slope q p).low n) (half_two n))
    go false false f g = up (quarter.high n) (one_two (quarter.high n) (slope_one 1 1 (zero-lt-suc 0) (lit≤ tt) n))

-- ---- Gregory's sums from the a-th term on are at most that term
alternate_small : (u : Frac) (a n : ℕ) → alternate u a n ≼ (1 over (2 * a + 1))
unfolding alternate
alternate_small u a zero = le_of_eq refl
alternate_small u a (suc n) = left (2 * a + 1) (u ⊠ alternate u (suc a) n).num (u ⊠ alternate u (suc a) n).den
  where
    left : (d x w : ℕ) → (1 * w - x * d) * d ≤ 1 * (d * w)
    left d x w = omega (arith, mul-le-mul_right d (left_over (1 * w) (x * d)))

pub gregory_uncut : (p q : ℕ) → 0 < q → p ≤ q → (a n : ℕ) → ((p * p) over (q * q)) ⊠ alternate ((p * p) over (q * q)) (suc a) n ≼ (1 over (2 * a + 1))
gregory_uncut p q Q l a n =
    let u = (p * p) over (q * q) in
    let x = alternate u (suc a) n in
    under (p * p) (q * q) x.num x.den a (mul-le-mul l l) (alternate_small u (suc a) n)
  where
    under : (i j x y a : ℕ) → i ≤ j → x * (2 * suc a + 1) ≤ 1 * y → i * x * (2 * a + 1) ≤ 1 * (j * y)
    under i j x y a h k =
        let m : x * (2 * a + 1) ≤ y = omega arith in
        let o : i * (x * (2 * a + 1)) ≤ j * y = mul-le-mul h m in
        omega arith
