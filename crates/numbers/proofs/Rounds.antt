-- Zero rounds to zero, and so a finite float less itself is zero. Assumes nothing.
use mathlib.Core.Path.{◌≡◌, refl, sym, ap, ◌∙◌, subst}
use mathlib.Core.Bool.{Bool, true, false, not, cond}
use Prim.Native.Nat.compare
use Prim.Native.Nat.{ℕ, zero, suc, ◌-◌, ◌*◌, ◌/◌, ◌%◌, ◌^◌, ◌<◌, compare, Ordering}
use native.Mathlib.Nat.{zero-mul, zero-div, zero-mod, mul-pos, lt_irrefl}
use native.Mathlib.Omega.{arith}
use lib.IntN.{pos}
use lib.Dec.{T, ltb, ltb→lt, lt→ltb}
use lib.Pow.{pow_pos}
use lib.Ieee.{Float, nan, inf, fin, binary64, of_bits, up, down, size, nearest, odd, units, round, neg, add, sub, sum, eq}
use lib.Ieee.Fits.{down_pos, round_is, core}
use Rattle.numbers.specs.F64 as F
use Rattle.numbers.specs.Finite.{finite}

pub is_true : (b : Bool) → T b → b ≡ true
is_true true t = refl
is_true false t = absurd t

pub is_false : (b : Bool) → (T b → ⊥) → b ≡ false
is_false true f = absurd (f tt)
is_false false f = refl

above : (u : ℕ) → 0 < u → compare 0 u ≡ Ordering.lt
above zero h = absurd (lt_irrefl 0 h)
above (suc u) h = compare.zero-suc u

units_zero : (k : ℕ) → units binary64 false 0 k ≡ fin false 0 (pos 0)
unfolding units odd
units_zero k = ap (λ (b : Bool). cond b (fin false 0 (pos 0)) (inf false)) (is_true (ltb (0 * 2 ^ k) (2 ^ 2098)) (lt→ltb (0 * 2 ^ k) (2 ^ 2098) (subst (λ (z : ℕ). z < 2 ^ 2098) (sym (zero-mul (2 ^ k))) (pow_pos 2098))))

core_zero : (den k : ℕ) → 0 < den → core binary64 false 0 den k ≡ fin false 0 (pos 0)
core_zero den k D =
    let u = den * 2 ^ k in
    ap (λ (z : ℕ). units binary64 false (nearest z (compare (0 % u * 2) u)) k) (zero-div u)
    ∙ ap (λ (z : ℕ). units binary64 false (nearest 0 (compare (z * 2) u)) k) (zero-mod u)
    ∙ ap (λ (o : Ordering). units binary64 false (nearest 0 o) k) (above u (mul-pos D (pow_pos k)))
    ∙ units_zero k

pub round_zero : (num den : ℕ) → 0 < den → num ≡ 0 → round binary64 false num den ≡ fin false 0 (pos 0)
round_zero num den D e =
    ap (λ (z : ℕ). round binary64 false z den) e ∙ round_is binary64 false 0 den ∙ core_zero den (size (0 * 2 ^ 1074 / den) - 53) D

not_below_itself : (n : ℕ) → ltb n n ≡ false
not_below_itself n = is_false (ltb n n) (λ (t : T (ltb n n)). lt_irrefl n (ltb→lt n n t))

zero_is : eq (fin false 0 (pos 0)) F.zero ≡ true
unfolding eq of_bits
zero_is = refl

differ : (s : Bool) (n c : ℕ) → 0 < c → sum binary64 s n (not s) n c ≡ fin false 0 (pos 0)
unfolding sum
differ true n c h = rw (not_below_itself n) (round_zero (n - n) c h (omega arith))
differ false n c h = rw (not_below_itself n) (round_zero (n - n) c h (omega arith))

pub itself : (x : Float) → eq (sub binary64 x x) F.zero ≡ finite x
unfolding sub add neg eq of_bits
itself nan = refl
itself (inf true) = refl
itself (inf false) = refl
itself (fin s m e) = rw (differ s (m * up e * down e) (down e * down e) (mul-pos (down_pos e) (down_pos e))) zero_is
