-- How far `round` goes from the fraction that it is handed: for a fraction of at most 2 ^ j, by at most 2 ^ j * 2 ^ -53. Assumes nothing.
use mathlib.Core.Path.{◌≡◌, refl, sym, ap, ◌∙◌, subst}
use mathlib.Core.Bool.{true, false, not}
use Prim.Native.Nat.{ℕ, suc, ◌+◌, ◌-◌, ◌*◌, ◌/◌, ◌%◌, ◌^◌, ◌≤◌, ◌<◌, compare, Ordering}
use native.Mathlib.Nat.{le_trans, le_of_eq, lt_of_le_of_lt, lt_of_lt_of_le, mul-le-mul_right, mul-lt-mul_of_pos_right, le_of_mul-le-mul_right, mul-pos, div-add-mod', mod-lt, div-lt_iff_lt-mul, pow-suc}
use native.Mathlib.Omega.{arith}
use lib.Dec.{T, is_le, compare_is_eq, eqb, leb→le, nleb→lt, eqb→eq, eqb_refl}
use lib.Arith.{lt_of_le-ne}
use lib.Pow.{pow-add, pow_pos, pow_mono, pow-lt}
use lib.Ieee.{Float, nan, inf, fin, binary64, up, down, size, nearest, round}
use lib.Ieee.Nearest.{closest}
use lib.Ieee.Order.{drop, kept}
use lib.Ieee.Scale.{round_val}
use lib.Ieee.Exact.{HasValue}
use lib.Ieee.Digits.{size-le}
use Rattle.fractions.specs.Frac.{Frac, ◌over◌, magnitude}
use Rattle.fractions.proofs.Frac.{Le}

-- ---- the nearest whole number is a half away at most
abbrev Cmp : Ordering → ℕ → ℕ → Type 0
Cmp Ordering.lt a b = a < b
Cmp Ordering.eq a b = a ≡ b
Cmp Ordering.gt a b = b < a

cmp : (a b : ℕ) → Cmp (compare a b) a b
cmp a b = go (compare a b) (leb→le a b) (nleb→lt a b) (eqb→eq a b) (λ (e : a ≡ b). subst (λ (x : ℕ). T (eqb a x)) e (eqb_refl a))
  where
    go : (o : Ordering) → (T (is_le o) → a ≤ b) → (T (not (is_le o)) → b < a) → (T (compare_is_eq o) → a ≡ b) → (a ≡ b → T (compare_is_eq o)) → Cmp o a b
    go Ordering.lt h k e n = lt_of_le-ne (h tt) n
    go Ordering.eq h k e n = e tt
    go Ordering.gt h k e n = k tt

record Half (c a b : ℕ) : Type 0 where
  above : c * b * 2 ≤ a * 2 + b
  below : a * 2 ≤ c * b * 2 + b

half_at : (q r b a : ℕ) (o : Ordering) → q * b + r ≡ a → r < b → Cmp o (r * 2) b → Half (nearest q o) a b
half_at q r b a Ordering.lt e l h = record { above = omega arith; below = omega arith }
half_at q r b a Ordering.eq e l h =
    let p : q % 2 * b ≤ 1 * b = mul-le-mul_right b (omega arith) in
    record { above = omega arith; below = omega arith }
half_at q r b a Ordering.gt e l h = record { above = omega arith; below = omega arith }

half : (a b : ℕ) → 0 < b → Half (closest a b) a b
half a b B = half_at (a / b) (a % b) b a (compare (a % b * 2) b) (div-add-mod' a b) (mod-lt a B) (cmp (a % b * 2) b)

-- ---- in units: k digits are dropped, the result is g = c * 2 ^ k units, and n / d is the fraction in units
grid_near : (c n d p : ℕ) → Half c n (d * p) → (c * p * d * 2 ≤ n * 2 + d * p) × (n * 2 ≤ c * p * d * 2 + d * p)
grid_near c n d p h = (omega (arith, h.above), omega (arith, h.below))

-- u is 2 ^ 1074, w is 2 ^ j
dropped : (n d j : ℕ) → 0 < d → n ≤ 2 ^ (j + 1074) * d → 2 ^ drop 53 n d ≤ 2 ^ (j + 1022)
dropped n d j D h =
    let l : n / d < 2 ^ (j + 1075) = (div-lt_iff_lt-mul D).1 (lt_of_le_of_lt h (mul-lt-mul_of_pos_right (pow-lt (omega arith)) D)) in
    pow_mono (less (size (n / d)) (size-le (n / d) (j + 1075) l))
  where
    less : (z : ℕ) → z ≤ j + 1075 → z - 53 ≤ j + 1022
    less z h = omega arith

-- ---- a finite value that is no less than 0, and lies within e * 2 ^ -53 of the fraction a
abbrev pub Plus : Float → Type 0
Plus nan = ⊥
Plus (inf s) = ⊥
Plus (fin true m e) = ⊥
Plus (fin false m e) = Unit {0}

pub record Near (x : Float) (a : Frac) (e : ℕ) : Type 0 where
  pub plus : Plus x
  pub above : Le (magnitude x) a e
  pub below : Le a (magnitude x) e

up_at : (A D g u num den J p : ℕ) → 0 < u → A * u ≡ g * D → g * den * 2 ≤ num * u * 2 + den * p → p * 9007199254740992 ≤ 2 * J * u
    → A * den * 9007199254740992 ≤ num * D * 9007199254740992 + J * (D * den)
up_at A D g u num den J p U e h k =
    le_of_mul-le-mul_right {k = u} (omega (arith, ap (λ (z : ℕ). z * den) e, mul-le-mul_right D h, mul-le-mul_right (den * D) k)) U

down_at : (A D g u num den J p : ℕ) → 0 < u → A * u ≡ g * D → num * u * 2 ≤ g * den * 2 + den * p → p * 9007199254740992 ≤ 2 * J * u
    → num * D * 9007199254740992 ≤ A * den * 9007199254740992 + J * (den * D)
down_at A D g u num den J p U e h k =
    le_of_mul-le-mul_right {k = u} (omega (arith, ap (λ (z : ℕ). z * den) e, mul-le-mul_right D h, mul-le-mul_right (den * D) k)) U

near_of_value : (x : Float) (g u num den J p : ℕ) → 0 < u → HasValue x false g u → (g * den * 2 ≤ num * u * 2 + den * p) × (num * u * 2 ≤ g * den * 2 + den * p)
    → p * 9007199254740992 ≤ 2 * J * u → Near x (num over den) J
near_of_value nan g u num den J p U v h k = absurd v
near_of_value (inf s) g u num den J p U v h k = absurd v
near_of_value (fin true m e) g u num den J p U v h k = absurd (subst T v.0 tt)
near_of_value (fin false m e) g u num den J p U v h k = record {
  plus = tt;
  above = up_at (m * up e) (down e) g u num den J p U v.1 h.0 k;
  below = down_at (m * up e) (down e) g u num den J p U v.1 h.1 k;
}

-- no overflow
under : (g d n J u p : ℕ) → 0 < d → g * d * 2 ≤ n * 2 + d * p → n ≤ J * u * d → p < J * u → g < J * u * 2
under g d n J u p D h k l =
    let x : g * 2 * d ≤ (J * u * 2 + p) * d = omega (arith, h, k) in
    let y : g * 2 ≤ J * u * 2 + p = le_of_mul-le-mul_right x D in
    omega arith

shift : (J a b c : ℕ) → a * b ≡ 2 * c → J * a * b ≡ 2 * J * c
shift J a b c e = omega (arith, ap (λ (z : ℕ). J * z) e)

regroup : (J d u n : ℕ) → n ≤ J * d → n * u ≤ J * u * d
regroup J d u n h = omega (arith, mul-le-mul_right u h)

pub round_near_at : (num den j : ℕ) → 0 < den → j ≤ 1000 → num ≤ 2 ^ j * den → Near (round binary64 false num den) (num over den) (2 ^ j)
round_near_at num den j D s h =
    let u = 2 ^ 1074 in
    let n = num * u in
    let p = 2 ^ drop 53 n den in
    let c = kept 53 n den in
    let m : n ≤ 2 ^ j * u * den = regroup (2 ^ j) den u num h in
    let q : p ≤ 2 ^ (j + 1022) = dropped n den j D (le_trans m (le_of_eq (ap (λ (z : ℕ). z * den) (sym (pow-add 2 j 1074))))) in
    let r : p * 9007199254740992 ≤ 2 * 2 ^ j * u =
    le_trans (mul-le-mul_right 9007199254740992 q) (le_of_eq (ap (λ (z : ℕ). z * 9007199254740992) (pow-add 2 j 1022) ∙ shift (2 ^ j) (2 ^ 1022) 9007199254740992 u refl)) in
    let g = grid_near c n den p (half n (den * p) (mul-pos D (pow_pos (drop 53 n den)))) in
    let o : p < 2 ^ j * u = lt_of_le_of_lt q (lt_of_lt_of_le (pow-lt (omega arith)) (le_of_eq (pow-add 2 j 1074))) in
    let t : c * p < 2 ^ 2098 =
    lt_of_lt_of_le (under (c * p) den n (2 ^ j) u p D g.0 m o)
    (le_trans (le_of_eq (ap (λ (z : ℕ). z * 2) (sym (pow-add 2 j 1074)) ∙ sym (pow-suc 2 (j + 1074)))) (pow_mono {i = suc (j + 1074)} {j = 2098} (omega arith))) in
    near_of_value (round binary64 false num den) (c * p) u num den (2 ^ j) p (pow_pos 1074) (round_val binary64 num den t) g r

pub round_near : (num den j : ℕ) → 0 < den → j ≤ 20 → num ≤ 2 ^ j * den → Near (round binary64 false num den) (num over den) (2 ^ j)
round_near num den j D s h = round_near_at num den j D (omega arith) h
