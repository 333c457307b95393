-- SCOPE 44: the ends of the exact sum of a list of pairs are fractions in order that close in on one value, and none is above 0 and below 0: `sums_close`, `not_both`. Assumes nothing.
use mathlib.Core.Bool.{Bool, true, false}
use mathlib.Core.List.{List, [], ◌∷◌}
use Prim.Native.Nat.{ℕ, suc, ◌+◌, ◌*◌, ◌^◌, ◌≤◌, ◌<◌}
use native.Mathlib.Nat.{mul-pos, mul-le-mul_right}
use native.Mathlib.Omega.{arith}
use lib.Dec.{lit≤, lit<}
use lib.Pow.{pow_pos}
use lib.ListN.{length}
use lib.Ieee.{Float, nan, inf, fin}
use Rattle.fractions.specs.Frac.{Frac, ◌over◌, ◌⊞◌, ◌≼◌}
use Rattle.fractions.proofs.Frac.{Pos}
use Rattle.fractions.proofs.Order.{Same, same_≼, add_same, interchange, ≼_trans, add_mono}
use Rattle.exact_angles.specs.Exact.{Shut, Closing}
use Rattle.exact_angles.specs.Steady.{Pair, Signed, ◌⊹◌, lowest, highest, exact_of, low_end, high_end, low_sum, high_sum, Aimed}
use Rattle.exact_angles.specs.Steady.{AtMost, Fractions, SumClosing, SumsClose, NotBoth}
use Rattle.exact_angles.proofs.Signs.{fractions_add}
use Rattle.exact_angles.proofs.Total.{placed}

-- ---- sums of signed fractions in order
module _ (a b : Signed) (A : Fractions a) (B : Fractions b) where
  at_most_pos : (c : Frac) → Pos c → Pos ((b.gain ⊞ a.loss) ⊞ c)
  at_most_pos c C = mul-pos (mul-pos B.gain_is A.loss_is) C

  -- c by another fraction of the same value
  at_most_same : (c d : Frac) → Pos c → Same c d → AtMost a b c → AtMost a b d
  at_most_same c d C e h =
      let t = b.gain ⊞ a.loss in
      ≼_trans (a.gain ⊞ b.loss) (t ⊞ c) (t ⊞ d) (at_most_pos c C) h (same_≼ (t ⊞ c) (t ⊞ d) (add_same t t c d itself e))
    where
      itself : Same (b.gain ⊞ a.loss) (b.gain ⊞ a.loss)
      itself = omega arith

  module _ (a' b' : Signed) (A' : Fractions a') (B' : Fractions b') where
    at_most_add : (c c' : Frac) → Pos c → Pos c' → AtMost a b c → AtMost a' b' c' → AtMost (a ⊹ a') (b ⊹ b') (c ⊞ c')
    at_most_add c c' C C' h h' =
        let x = a.gain ⊞ b.loss in
        let x' = a'.gain ⊞ b'.loss in
        let y = b.gain ⊞ a.loss in
        let y' = b'.gain ⊞ a'.loss in
        let u = (a ⊹ a').gain ⊞ (b ⊹ b').loss in
        let v = (y ⊞ c) ⊞ (y' ⊞ c') in
        let w = (y ⊞ y') ⊞ (c ⊞ c') in
        let z = ((b ⊹ b').gain ⊞ (a ⊹ a').loss) ⊞ (c ⊞ c') in
        let Y : Pos y = mul-pos B.gain_is A.loss_is in
        let Y' : Pos y' = mul-pos B'.gain_is A'.loss_is in
        let X : Pos (x ⊞ x') = mul-pos (mul-pos A.gain_is B.loss_is) (mul-pos A'.gain_is B'.loss_is) in
        let Vp : Pos v = mul-pos (mul-pos Y C) (mul-pos Y' C') in
        let W : Pos w = mul-pos (mul-pos Y Y') (mul-pos C C') in
        let left : u ≼ x ⊞ x' = same_≼ u (x ⊞ x') (interchange a.gain a'.gain b.loss b'.loss) in
        let both : x ⊞ x' ≼ v = add_mono x (y ⊞ c) x' (y' ⊞ c') h h' in
        let regrouped : v ≼ w = same_≼ v w (interchange y c y' c') in
        let ends = add_same (y ⊞ y') ((b ⊹ b').gain ⊞ (a ⊹ a').loss) (c ⊞ c') (c ⊞ c') (interchange b.gain a.loss b'.gain a'.loss) itself in
        ≼_trans u (x ⊞ x') z X left (≼_trans (x ⊞ x') v z Vp both (≼_trans v w z W regrouped (same_≼ w z ends)))
      where
        itself : Same (c ⊞ c') (c ⊞ c')
        itself = omega arith

-- ---- a size with a sign: x is at most y + c, and so with the sign plus; with the sign minus the sizes change places
plus_at_most : (x y c : Frac) → x ≼ y ⊞ c → AtMost (record { gain = x; loss = 0 over 1 }) (record { gain = y; loss = 0 over 1 }) c
plus_at_most x y c h = omega arith

minus_at_most : (x y c : Frac) → x ≼ y ⊞ c → AtMost (record { gain = 0 over 1; loss = y }) (record { gain = 0 over 1; loss = x }) c
minus_at_most x y c h = omega arith

abbrev nothing : Frac
nothing = 0 over 1

and_nothing : (x y : Frac) → x ≼ y → x ≼ y ⊞ nothing
and_nothing x y h = omega arith

-- ---- the ends of one pair
record PairClosing (low high : ℕ → Signed) : Type 0 where
  low_is : (i : ℕ) → Fractions (low i)
  high_is : (i : ℕ) → Fractions (high i)
  rises : (i : ℕ) → AtMost (low i) (low (suc i)) (0 over 1)
  falls : (i : ℕ) → AtMost (high (suc i)) (high i) (0 over 1)
  ordered : (i : ℕ) → AtMost (low i) (high i) (0 over 1)
  closes : (i : ℕ) → AtMost (high i) (low i) (7 over (2 ^ i))

signed_closing : (s : Bool) (a : Shut) → Closing a 7 → PairClosing (λ i. lowest s (a.low i) (a.high i)) (λ i. highest s (a.low i) (a.high i))
signed_closing false a c = record {
  low_is = λ i. record { gain_is = c.low_is i; loss_is = lit< tt };
  high_is = λ i. record { gain_is = c.high_is i; loss_is = lit< tt };
  rises = λ i. plus_at_most (a.low i) (a.low (suc i)) nothing (and_nothing (a.low i) (a.low (suc i)) (c.rises i));
  falls = λ i. plus_at_most (a.high (suc i)) (a.high i) nothing (and_nothing (a.high (suc i)) (a.high i) (c.falls i));
  ordered = λ i. plus_at_most (a.low i) (a.high i) nothing (and_nothing (a.low i) (a.high i) (c.ordered i));
  closes = λ i. plus_at_most (a.high i) (a.low i) (7 over (2 ^ i)) (c.closes i);
}
signed_closing true a c = record {
  low_is = λ i. record { gain_is = lit< tt; loss_is = c.high_is i };
  high_is = λ i. record { gain_is = lit< tt; loss_is = c.low_is i };
  rises = λ i. minus_at_most (a.high (suc i)) (a.high i) nothing (and_nothing (a.high (suc i)) (a.high i) (c.falls i));
  falls = λ i. minus_at_most (a.low i) (a.low (suc i)) nothing (and_nothing (a.low i) (a.low (suc i)) (c.rises i));
  ordered = λ i. minus_at_most (a.low i) (a.high i) nothing (and_nothing (a.low i) (a.high i) (c.ordered i));
  closes = λ i. minus_at_most (a.high i) (a.low i) (7 over (2 ^ i)) (c.closes i);
}

pair_closing : (y x : Float) → Aimed y x → PairClosing (low_end y x) (high_end y x)
pair_closing nan x h = absurd h
pair_closing (inf s) x h = absurd h
pair_closing (fin s m e) nan h = absurd h
pair_closing (fin s m e) (inf t) h = absurd h
pair_closing (fin s m e) (fin t n d) h = signed_closing s (exact_of t m e n d) (placed s t m n e d).within.one_value

-- ---- the list
-- seven more
seven_on : (n u : ℕ) → Same ((7 over u) ⊞ ((7 * n) over u)) ((7 * suc n) over u)
seven_on n u = omega arith

module _ (p : Pair) (ps : List Pair) (q : PairClosing (low_end p.y p.x) (high_end p.y p.x)) (r : SumClosing ps) where
  abbrev low : ℕ → Signed
  low i = low_end p.y p.x i

  abbrev high : ℕ → Signed
  high i = high_end p.y p.x i

  low_is_on : (i : ℕ) → Fractions (low i ⊹ low_sum ps i)
  low_is_on i = fractions_add (low i) (low_sum ps i) (q.low_is i) (r.low_is i)

  high_is_on : (i : ℕ) → Fractions (high i ⊹ high_sum ps i)
  high_is_on i = fractions_add (high i) (high_sum ps i) (q.high_is i) (r.high_is i)

  closes_on : (i : ℕ) → AtMost (high i ⊹ high_sum ps i) (low i ⊹ low_sum ps i) ((7 * suc (length ps)) over (2 ^ i))
  closes_on i =
      let c = 7 over (2 ^ i) in
      let d = (7 * length ps) over (2 ^ i) in
      let both = at_most_add (high i) (low i) (q.high_is i) (q.low_is i) (high_sum ps i) (low_sum ps i) (r.high_is i) (r.low_is i) c d (pow_pos i) (pow_pos i)
      (q.closes i) (r.closes i) in
      at_most_same (high i ⊹ high_sum ps i) (low i ⊹ low_sum ps i) (high_is_on i) (low_is_on i) (c ⊞ d) ((7 * suc (length ps)) over (2 ^ i))
      (mul-pos (pow_pos i) (pow_pos i)) (seven_on (length ps) (2 ^ i)) both

  one_more : SumClosing (p ∷ ps)
  unfolding low_sum high_sum
  one_more = record {
    low_is = low_is_on;
    high_is = high_is_on;
    rises = λ i.
        at_most_add (low i) (low (suc i)) (q.low_is i) (q.low_is (suc i)) (low_sum ps i) (low_sum ps (suc i)) (r.low_is i) (r.low_is (suc i))
        nothing nothing (lit< tt) (lit< tt) (q.rises i) (r.rises i);
    falls = λ i.
        at_most_add (high (suc i)) (high i) (q.high_is (suc i)) (q.high_is i) (high_sum ps (suc i)) (high_sum ps i) (r.high_is (suc i)) (r.high_is i)
        nothing nothing (lit< tt) (lit< tt) (q.falls i) (r.falls i);
    ordered = λ i.
        at_most_add (low i) (high i) (q.low_is i) (q.high_is i) (low_sum ps i) (high_sum ps i) (r.low_is i) (r.high_is i)
        nothing nothing (lit< tt) (lit< tt) (q.ordered i) (r.ordered i);
    closes = closes_on;
  }

pub sums_close : SumsClose
unfolding low_sum high_sum
sums_close [] h = record {
  low_is = λ i. record { gain_is = lit< tt; loss_is = lit< tt };
  high_is = λ i. record { gain_is = lit< tt; loss_is = lit< tt };
  rises = λ i. lit≤ tt;
  falls = λ i. lit≤ tt;
  ordered = λ i. lit≤ tt;
  closes = λ i. omega arith;
}
sums_close (p ∷ ps) h = one_more p ps (pair_closing p.y p.x h.0) (sums_close ps h.1)

-- ---- the lower end is not above the upper one, so no sum is above 0 and below 0
pub not_both : NotBoth
not_both ps a i u v =
    let c = sums_close ps a in
    let x = low_sum ps i in
    let y = high_sum ps i in
    clash x.gain.num x.gain.den x.loss.num x.loss.den y.gain.num y.gain.den y.loss.num y.loss.den
    (c.low_is i).gain_is (c.low_is i).loss_is (c.high_is i).gain_is (c.high_is i).loss_is u v (c.ordered i)
  where
    clash : (ag p al q bg r bl s : ℕ) → 0 < p → 0 < q → 0 < r → 0 < s → al * p < ag * q → bg * s < bl * r
        → (ag * s + bl * p) * (r * q * 1) ≤ ((bg * q + al * r) * 1 + 0 * (r * q)) * (p * s) → ⊥
    clash ag p al q bg r bl s P Q R S u v w =
        let x : suc (al * p) * (r * s) ≤ ag * q * (r * s) = mul-le-mul_right (r * s) u in
        let y : suc (bg * s) * (p * q) ≤ bl * r * (p * q) = mul-le-mul_right (p * q) v in
        let z : 0 < r * s = mul-pos R S in
        omega arith
