-- How large a float operation's result can be: bounds that hold exactly, since `round` keeps the order and a power of two rounds to itself. Assumes nothing.
use mathlib.Core.Path.{◌≡◌, refl, sym, ap, ◌∙◌, subst}
use mathlib.Core.Bool.{Bool, true, false, cond, ◌&&◌, beq}
use Prim.Native.Nat.{ℕ, zero, suc, ◌+◌, ◌-◌, ◌*◌, ◌^◌, ◌≤◌, ◌<◌}
use native.Mathlib.Nat.{mul-pos, zero-lt-suc, mul-le-mul, mul-le-mul_right, le_of_mul-le-mul_right, lt_of_not-le, le_of_suc-le-suc, one-mul}
use native.Mathlib.Omega.{arith}
use lib.Dec.{T, ltb, lit<}
use lib.Pow.{pow_pos, pow-lt}
use lib.Ieee.{Float, nan, inf, fin, binary64, up, down, odd, units, round, neg, add, sub, mul, sum, lt, le, eq}
use lib.Ieee.Fits.{down_pos, round_is}
use lib.Ieee.Order.{round_mono}
use lib.Ieee.Exact.{HasValue, round_exact}
use lib.Ieee.Back.{round_whole}
use Rattle.fractions.specs.Frac.{magnitude}
use Rattle.fractions.proofs.Round.{Plus}
use Rattle.fractions.proofs.Ops.{le_cross}

pub le_by : (x y : ℕ) → (y < x → ⊥) → x ≤ y
le_by x y h = le_of_suc-le-suc (lt_of_not-le (λ (g : suc y ≤ x). h g))

-- ---- finite; and no minus: what `round` makes of a fraction
abbrev pub Fin : Float → Type 0
Fin nan = ⊥
Fin (inf s) = ⊥
Fin (fin s m e) = Unit {0}

abbrev pub Upward : Float → Type 0
Upward nan = ⊥
Upward (inf true) = ⊥
Upward (inf false) = Unit {0}
Upward (fin true m e) = ⊥
Upward (fin false m e) = Unit {0}

pub round_upward : (num den : ℕ) → Upward (round binary64 false num den)
round_upward num den = subst Upward (sym (round_is binary64 false num den)) (units_upward _ _)
  where
    odd_upward : (d q k l : ℕ) → Upward (odd d false q k l)
    odd_upward d zero k l = unfold odd in tt
    odd_upward d (suc q) k l = unfold odd in tt

    cases : (c : Bool) (q k : ℕ) → Upward (cond c (odd 54 false q k 1074) (inf false))
    cases true q k = odd_upward 54 q k 1074
    cases false q k = tt

    units_upward : (q k : ℕ) → Upward (units binary64 false q k)
    units_upward q k = unfold units in cases (ltb (q * 2 ^ k) (2 ^ 2098)) q k

-- ---- the sign goes through `round`
units_sign : (q k : ℕ) → units binary64 true q k ≡ neg (units binary64 false q k)
unfolding units
units_sign q k = cases (ltb (q * 2 ^ k) (2 ^ 2098)) q
  where
    odds : (q : ℕ) → odd 54 true q k 1074 ≡ neg (odd 54 false q k 1074)
    odds zero = unfold odd neg in refl
    odds (suc q) = unfold odd neg in refl

    cases : (c : Bool) (q : ℕ) → cond c (odd 54 true q k 1074) (inf true) ≡ neg (cond c (odd 54 false q k 1074) (inf false))
    cases true q = odds q
    cases false q = unfold neg in refl

pub round_sign : (num den : ℕ) → round binary64 true num den ≡ neg (round binary64 false num den)
round_sign num den = round_is binary64 true num den ∙ units_sign _ _ ∙ ap neg (sym (round_is binary64 false num den))

-- ---- a fraction that is at most b / c, where b / c rounds to itself, rounds to at most b / c
pub record Under (x : Float) (b c : ℕ) : Type 0 where
  pub finite : Fin x
  pub small : (magnitude x).num * c ≤ b * (magnitude x).den

under_by : (r w : Float) (b c : ℕ) → 0 < c → Upward r → HasValue w false b c → T (le r w) → Under r b c × Plus r
unfolding le lt eq
under_by nan w b c C u v t = absurd u
under_by (inf true) w b c C u v t = absurd u
under_by (fin true m e) w b c C u v t = absurd u
under_by (inf false) nan b c C u v t = absurd v
under_by (inf false) (inf s) b c C u v t = absurd v
under_by (inf false) (fin s n d) b c C u v t = absurd t
under_by (fin false m e) nan b c C u v t = absurd v
under_by (fin false m e) (inf s) b c C u v t = absurd v
under_by (fin false m e) (fin true n d) b c C u v t = absurd (subst T v.0 tt)
under_by (fin false m e) (fin false n d) b c C u v t =
    let l : m * up e * down d ≤ n * up d * down e = le_cross (fin false m e) (fin false n d) tt tt t in
    (record { finite = tt; small = at (m * up e) (down e) (n * up d) (down d) (down_pos d) l v.1 }, tt)
  where
    at : (a p x q : ℕ) → 0 < q → a * q ≤ x * p → x * c ≡ b * q → a * c ≤ b * p
    at a p x q Q h k = le_of_mul-le-mul_right {k = q} (omega (arith, mul-le-mul_right c h, ap (λ (z : ℕ). z * p) k)) Q

pub round_plain : (num den b c : ℕ) → 0 < den → 0 < c → HasValue (round binary64 false b c) false b c → num * c ≤ b * den → Under (round binary64 false num den) b c × Plus (round binary64 false num den)
round_plain num den b c D C v h = under_by (round binary64 false num den) (round binary64 false b c) b c C (round_upward num den) v (round_mono binary64 num den b c D C h)

pub neg_under : (x : Float) (b c : ℕ) → Under x b c → Under (neg x) b c
unfolding neg
neg_under nan b c h = absurd h.finite
neg_under (inf s) b c h = absurd h.finite
neg_under (fin s m e) b c h = record { finite = tt; small = h.small }

pub round_under : (s : Bool) (num den b c : ℕ) → 0 < den → 0 < c → HasValue (round binary64 false b c) false b c → num * c ≤ b * den → Under (round binary64 s num den) b c
round_under false num den b c D C v h = (round_plain num den b c D C v h).0
round_under true num den b c D C v h = subst (λ (z : Float). Under z b c) (sym (round_sign num den)) (neg_under (round binary64 false num den) b c (round_plain num den b c D C v h).0)

-- ---- by whole numbers
abbrev pub Size : Float → ℕ → Type 0
Size x b = Under x b 1

abbrev pub Whole : ℕ → Type 0
Whole b = b ≤ 9007199254740992

round_size : (s : Bool) (num den b : ℕ) → 0 < den → Whole b → num ≤ b * den → Size (round binary64 s num den) b
round_size s num den b D w h = round_under s num den b 1 D (zero-lt-suc 0) (round_whole binary64 false b w) (omega arith)

pub size_grow : (x : Float) (a b : ℕ) → a ≤ b → Size x a → Size x b
size_grow x a b l h = record { finite = h.finite; small = omega (arith, h.small, mul-le-mul_right (magnitude x).den l) }

pub mul_size : (x y : Float) (a b : ℕ) → Size x a → Size y b → Whole (a * b) → Size (mul binary64 x y) (a * b)
unfolding mul
mul_size nan y a b h k w = absurd h.finite
mul_size (inf s) y a b h k w = absurd h.finite
mul_size (fin s m e) nan a b h k w = absurd k.finite
mul_size (fin s m e) (inf t) a b h k w = absurd k.finite
mul_size (fin s m e) (fin t n d) a b h k w =
    round_size _ (m * up e * (n * up d)) (down e * down d) (a * b) (mul-pos (down_pos e) (down_pos d)) w
    (at (m * up e) (down e) (n * up d) (down d) h.small k.small)
  where
    at : (x p y q : ℕ) → x * 1 ≤ a * p → y * 1 ≤ b * q → x * y ≤ a * b * (p * q)
    at x p y q h k = omega (arith, mul-le-mul h k)

cond_size : (b : Bool) (x y : Float) (c : ℕ) → Size x c → Size y c → Size (cond b x y) c
cond_size true x y c h k = h
cond_size false x y c h k = k

pub add_size : (x y : Float) (a b : ℕ) → Size x a → Size y b → Whole (a + b) → Size (add binary64 x y) (a + b)
unfolding add
add_size nan y a b h k w = absurd h.finite
add_size (inf s) y a b h k w = absurd h.finite
add_size (fin s m e) nan a b h k w = absurd k.finite
add_size (fin s m e) (inf t) a b h k w = absurd k.finite
add_size (fin s m e) (fin t n d) a b h k w = sum_size (m * up e * down d) (n * up d * down e) (at (m * up e) (down e) (n * up d) (down d) h.small k.small)
  where
    at : (x p y q : ℕ) → x * 1 ≤ a * p → y * 1 ≤ b * q → x * q + y * p ≤ (a + b) * (p * q)
    at x p y q h k = omega (arith, mul-le-mul_right q h, mul-le-mul_right p k)

    c : ℕ
    c = down e * down d

    C : 0 < c
    C = mul-pos (down_pos e) (down_pos d)

    sum_size : (u v : ℕ) → u + v ≤ (a + b) * c → Size (sum binary64 s u t v c) (a + b)
    sum_size u v l = unfold sum in
        cond_size (beq s t) (round binary64 s (u + v) c) (cond (ltb u v) (round binary64 t (v - u) c) (round binary64 (s && ltb v u) (u - v) c)) (a + b) (round_size s (u + v) c (a + b) C w l)
        (cond_size (ltb u v) (round binary64 t (v - u) c) (round binary64 (s && ltb v u) (u - v) c) (a + b) (round_size t (v - u) c (a + b) C w (omega arith)) (round_size (s && ltb v u) (u - v) c (a + b) C w (omega arith)))

pub sub_size : (x y : Float) (a b : ℕ) → Size x a → Size y b → Whole (a + b) → Size (sub binary64 x y) (a + b)
unfolding sub
sub_size x y a b h k w = add_size x (neg y) a b h (neg_under y b 1 k) w

-- ---- at least 2 ^ i units of 2 ^ -1074, an infinity included
abbrev pub AtLeast : ℕ → Float → Type 0
AtLeast w nan = ⊥
AtLeast w (inf true) = ⊥
AtLeast w (inf false) = Unit {0}
AtLeast w (fin true m e) = ⊥
AtLeast w (fin false m e) = w * down e ≤ m * up e * 2 ^ 1074

-- 2 ^ i units round to themselves
pub power_value : (i : ℕ) → i < 2098 → HasValue (round binary64 false (2 ^ i) (2 ^ 1074)) false (2 ^ i) (2 ^ 1074)
power_value i h =
    round_exact binary64 false (2 ^ i) (2 ^ 1074) 1 i (pow_pos 1074) (lit< tt)
    (subst (λ (z : ℕ). z < 2 ^ 2098) (sym (one-mul (2 ^ i))) (pow-lt h))
    (ap (λ (z : ℕ). z * 2 ^ 1074) (sym (one-mul (2 ^ i))))

least_by : (w : ℕ) (x r : Float) → HasValue x false w (2 ^ 1074) → Upward r → T (le x r) → AtLeast w r
least_by w nan r v u t = absurd v
least_by w (inf s) r v u t = absurd v
least_by w (fin true m e) r v u t = absurd (subst T v.0 tt)
least_by w (fin false m e) nan v u t = absurd u
least_by w (fin false m e) (inf true) v u t = absurd u
least_by w (fin false m e) (inf false) v u t = tt
least_by w (fin false m e) (fin true n d) v u t = absurd u
least_by w (fin false m e) (fin false n d) v u t =
    let l : m * up e * down d ≤ n * up d * down e = le_cross (fin false m e) (fin false n d) tt tt t in
    at (m * up e) (down e) (n * up d) (down d) (2 ^ 1074) (down_pos e) l v.1
  where
    at : (a p x q c : ℕ) → 0 < p → a * q ≤ x * p → a * c ≡ w * p → w * q ≤ x * c
    at a p x q c P h k = le_of_mul-le-mul_right {k = p} (omega (arith, mul-le-mul_right c h, ap (λ (z : ℕ). z * q) k)) P

pub round_least : (i num den : ℕ) → i < 2098 → 0 < den → 2 ^ i * den ≤ num * 2 ^ 1074 → AtLeast (2 ^ i) (round binary64 false num den)
round_least i num den l D h =
    least_by (2 ^ i) (round binary64 false (2 ^ i) (2 ^ 1074)) (round binary64 false num den) (power_value i l) (round_upward num den)
    (round_mono binary64 (2 ^ i) (2 ^ 1074) num den (pow_pos 1074) D h)

pub square_upward : (x : Float) → Fin x → Upward (mul binary64 x x)
unfolding mul
square_upward nan h = absurd h
square_upward (inf s) h = absurd h
square_upward (fin true m e) h = round_upward (m * up e * (m * up e)) (down e * down e)
square_upward (fin false m e) h = round_upward (m * up e * (m * up e)) (down e * down e)

pub add_upward : (x y : Float) → Upward x → Upward y → Upward (add binary64 x y)
unfolding add sum
add_upward nan y u w = absurd u
add_upward (inf true) y u w = absurd u
add_upward (fin true m e) y u w = absurd u
add_upward (inf false) nan u w = absurd w
add_upward (inf false) (inf true) u w = absurd w
add_upward (inf false) (inf false) u w = tt
add_upward (inf false) (fin t n d) u w = tt
add_upward (fin false m e) nan u w = absurd w
add_upward (fin false m e) (inf true) u w = absurd w
add_upward (fin false m e) (inf false) u w = tt
add_upward (fin false m e) (fin true n d) u w = absurd w
add_upward (fin false m e) (fin false n d) u w = round_upward (m * up e * down d + n * up d * down e) (down e * down d)

-- a square of a value of at least 2 ^ k units, and a sum with such a part
pub square_least : (i : ℕ) (x : Float) → Fin x → i < 2098 → 2 ^ i * ((magnitude x).den * (magnitude x).den) ≤ (magnitude x).num * (magnitude x).num * 2 ^ 1074 → AtLeast (2 ^ i) (mul binary64 x x)
unfolding mul
square_least i nan f l h = absurd f
square_least i (inf s) f l h = absurd f
square_least i (fin true m e) f l h = round_least i _ _ l (mul-pos (down_pos e) (down_pos e)) h
square_least i (fin false m e) f l h = round_least i _ _ l (mul-pos (down_pos e) (down_pos e)) h

pub add_least : (i : ℕ) (x y : Float) → i < 2098 → AtLeast (2 ^ i) x → Upward y → AtLeast (2 ^ i) (add binary64 x y)
unfolding add sum
add_least i nan y l h w = absurd h
add_least i (inf true) y l h w = absurd h
add_least i (fin true m e) y l h w = absurd h
add_least i (inf false) nan l h w = absurd w
add_least i (inf false) (inf true) l h w = absurd w
add_least i (inf false) (inf false) l h w = tt
add_least i (inf false) (fin t n d) l h w = tt
add_least i (fin false m e) nan l h w = absurd w
add_least i (fin false m e) (inf true) l h w = absurd w
add_least i (fin false m e) (inf false) l h w = tt
add_least i (fin false m e) (fin true n d) l h w = absurd w
add_least i (fin false m e) (fin false n d) l h w =
    round_least i _ _ l (mul-pos (down_pos e) (down_pos d)) (at (2 ^ i) (m * up e) (down e) (n * up d) (down d) (2 ^ 1074) h)
  where
    at : (w a p x q c : ℕ) → w * p ≤ a * c → w * (p * q) ≤ (a * q + x * p) * c
    at w a p x q c h = omega (arith, mul-le-mul_right q h)

pub least_add : (i : ℕ) (x y : Float) → i < 2098 → Upward x → AtLeast (2 ^ i) y → AtLeast (2 ^ i) (add binary64 x y)
unfolding add sum
least_add i nan y l u h = absurd u
least_add i (inf true) y l u h = absurd u
least_add i (fin true m e) y l u h = absurd u
least_add i (inf false) nan l u h = absurd h
least_add i (inf false) (inf true) l u h = absurd h
least_add i (inf false) (inf false) l u h = tt
least_add i (inf false) (fin t n d) l u h = tt
least_add i (fin false m e) nan l u h = absurd h
least_add i (fin false m e) (inf true) l u h = absurd h
least_add i (fin false m e) (inf false) l u h = tt
least_add i (fin false m e) (fin true n d) l u h = absurd h
least_add i (fin false m e) (fin false n d) l u h =
    round_least i _ _ l (mul-pos (down_pos e) (down_pos d)) (at (2 ^ i) (m * up e) (down e) (n * up d) (down d) (2 ^ 1074) h)
  where
    at : (w a p x q c : ℕ) → w * q ≤ x * c → w * (p * q) ≤ (a * q + x * p) * c
    at w a p x q c h = omega (arith, mul-le-mul_right p h)
