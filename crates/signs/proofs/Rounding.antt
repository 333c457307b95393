-- Rounding turns its sign with its argument, so a product of a negated float is the negated product. Assumes nothing.
use Prim.Native.Nat.{ℕ, zero, suc, ◌-◌, ◌*◌, ◌/◌, ◌%◌, ◌^◌, compare}
use mathlib.Core.Path.{◌≡◌, refl, sym, ap, ◌∙◌}
use mathlib.Core.Bool.{Bool, true, false, not, cond}
use lib.Dec.{ltb, eqb}
use lib.Ieee.{Float, nan, inf, fin, binary64, up, down, size, nearest, odd, units, round, neg, mul, unlike}
use lib.Ieee.Fits.{round_is}

odd_neg : (d : ℕ) (s : Bool) (q k l : ℕ) → odd d (not s) q k l ≡ neg (odd d s q k l)
unfolding odd neg
odd_neg d s zero k l = refl
odd_neg d s (suc q) k l = refl

units_by : (b : Bool) (s : Bool) (q k : ℕ) → cond b (odd 54 (not s) q k 1074) (inf (not s)) ≡ neg (cond b (odd 54 s q k 1074) (inf s))
unfolding neg
units_by true s q k = odd_neg 54 s q k 1074
units_by false s q k = refl

units_neg : (s : Bool) (q k : ℕ) → units binary64 (not s) q k ≡ neg (units binary64 s q k)
unfolding units
units_neg s q k = units_by (ltb (q * 2 ^ k) (2 ^ 2098)) s q k

pub round_neg : (s : Bool) (num den : ℕ) → round binary64 (not s) num den ≡ neg (round binary64 s num den)
round_neg s num den =
    let k = size (num * 2 ^ 1074 / den) - 53 in
    let u = den * 2 ^ k in
    round_is binary64 (not s) num den
    ∙ units_neg s (nearest (num * 2 ^ 1074 / u) (compare (num * 2 ^ 1074 % u * 2) u)) k
    ∙ ap neg (sym (round_is binary64 s num den))

unlike_not : (s t : Bool) → unlike (not s) t ≡ not (unlike s t)
unlike_not true true = refl
unlike_not true false = refl
unlike_not false true = refl
unlike_not false false = refl

neg_if : (b s : Bool) → cond b nan (inf (not s)) ≡ neg (cond b nan (inf s))
unfolding neg
neg_if true s = refl
neg_if false s = refl

pub mul_neg : (x y : Float) → mul binary64 (neg x) y ≡ neg (mul binary64 x y)
unfolding mul neg
mul_neg nan y = refl
mul_neg (inf s) nan = refl
mul_neg (inf s) (inf t) = ap inf (unlike_not s t)
mul_neg (inf s) (fin t n d) = ap (λ (b : Bool). cond (eqb n 0) nan (inf b)) (unlike_not s t) ∙ neg_if (eqb n 0) (unlike s t)
mul_neg (fin s m e) nan = refl
mul_neg (fin s m e) (inf t) = ap (λ (b : Bool). cond (eqb m 0) nan (inf b)) (unlike_not s t) ∙ neg_if (eqb m 0) (unlike s t)
mul_neg (fin s m e) (fin t n d) =
    ap (λ (b : Bool). round binary64 b (m * up e * (n * up d)) (down e * down d)) (unlike_not s t)
    ∙ round_neg (unlike s t) (m * up e * (n * up d)) (down e * down d)
