-- A float sum of values of either sign, against the exact one. Assumes nothing.
use mathlib.Core.Path.{◌≡◌, refl, sym, ap, subst}
use mathlib.Core.Bool.{Bool, true, false, not, cond, ◌&&◌, beq}
use Prim.Native.Nat.{ℕ, ◌+◌, ◌-◌, ◌*◌, ◌^◌, ◌≤◌, ◌<◌}
use native.Mathlib.Nat.{mul-pos, zero-lt-suc, mul-le-mul_right}
use native.Mathlib.Omega.{arith}
use lib.IntN.{ℤ}
use lib.Dec.{T, ltb, ltb→lt, nltb→le, lit≤}
use lib.Ieee.{Float, nan, inf, fin, binary64, up, down, round, neg, add, sum}
use lib.Ieee.Fits.{down_pos}
use Rattle.fractions.specs.Frac.{Frac, ◌over◌, ◌⊞◌, magnitude}
use Rattle.exact_angles.specs.Steady.{Signed, ◌⊹◌, none, lowest, Fractions}
use Rattle.fractions.proofs.Frac.{Pos, le_bound}
use Rattle.fractions.proofs.Order.{Same, same_le}
use Rattle.fractions.proofs.Round.{Near, round_near}
use Rattle.fractions.proofs.Sizes.{Fin, round_sign}
use Rattle.exact_angles.proofs.Signs.{SLe, s_trans, s_grow, fractions_add}

-- ---- a finite value as a signed fraction
abbrev pub signed_of : Float → Signed
signed_of nan = none
signed_of (inf s) = none
signed_of (fin s m e) = lowest s ((m * up e) over (down e)) ((m * up e) over (down e))

pub signed_pos : (x : Float) → Fractions (signed_of x)
signed_pos nan = record { gain_is = zero-lt-suc 0; loss_is = zero-lt-suc 0 }
signed_pos (inf s) = record { gain_is = zero-lt-suc 0; loss_is = zero-lt-suc 0 }
signed_pos (fin false m e) = record { gain_is = down_pos e; loss_is = zero-lt-suc 0 }
signed_pos (fin true m e) = record { gain_is = zero-lt-suc 0; loss_is = down_pos e }

pub record SNear (x : Float) (a : Signed) (e : ℕ) : Type 0 where
  pub finite : Fin x
  pub above : SLe (signed_of x) a e
  pub below : SLe a (signed_of x) e

-- ---- a rounded fraction with a sign
pad_up : (a b c d e : ℕ) → a * d * 9007199254740992 ≤ c * b * 9007199254740992 + e * (b * d) → (a * 1 + 0 * b) * (d * 1) * 9007199254740992 ≤ (c * 1 + 0 * d) * (b * 1) * 9007199254740992 + e * (b * 1 * (d * 1))
pad_up a b c d e h = omega arith

pad_down : (a b c d e : ℕ) → a * d * 9007199254740992 ≤ c * b * 9007199254740992 + e * (b * d) → (0 * b + a * 1) * (1 * d) * 9007199254740992 ≤ (0 * d + c * 1) * (1 * b) * 9007199254740992 + e * (1 * b * (1 * d))
pad_down a b c d e h = omega arith

plus_snear : (x : Float) (a : Frac) (e : ℕ) → Near x a e → SNear x (lowest false a a) e
plus_snear nan a e h = absurd h.plus
plus_snear (inf s) a e h = absurd h.plus
plus_snear (fin true m d) a e h = absurd h.plus
plus_snear (fin false m d) a e h = record {
  finite = tt;
  above = pad_up (m * up d) (down d) a.num a.den e h.above;
  below = pad_up a.num a.den (m * up d) (down d) e h.below;
}

minus_snear : (x : Float) (a : Frac) (e : ℕ) → Near x a e → SNear (neg x) (lowest true a a) e
minus_snear nan a e h = absurd h.plus
minus_snear (inf s) a e h = absurd h.plus
minus_snear (fin true m d) a e h = absurd h.plus
minus_snear (fin false m d) a e h = unfold neg in record {
  finite = tt;
  above = pad_down a.num a.den (m * up d) (down d) e h.below;
  below = pad_down (m * up d) (down d) a.num a.den e h.above;
}

pub round_snear : (s : Bool) (num den j : ℕ) → 0 < den → j ≤ 20 → num ≤ 2 ^ j * den → SNear (round binary64 s num den) (lowest s (num over den) (num over den)) (2 ^ j)
round_snear false num den j D l h = plus_snear (round binary64 false num den) (num over den) (2 ^ j) (round_near num den j D l h)
round_snear true num den j D l h =
    subst (λ (z : Float). SNear z (lowest true (num over den) (num over den)) (2 ^ j)) (sym (round_sign num den)) (minus_snear (round binary64 false num den) (num over den) (2 ^ j) (round_near num den j D l h))

-- ---- the exact sum, by the signs. D is the difference, over the common denominator
abbrev pub SSame : Signed → Signed → Type 0
SSame a b = Same (a.gain ⊞ b.loss) (b.gain ⊞ a.loss)

pub snear_same : (x : Float) (a b : Signed) (e : ℕ) → Fractions a → Fractions b → SSame a b → SNear x a e → SNear x b e
snear_same x a b e A B s h = record {
  finite = h.finite;
  above = s_grow (signed_of x) b (e + 0) e (omega arith) (s_trans (signed_of x) a b e 0 (signed_pos x) A B h.above (same_le (a.gain ⊞ b.loss) (b.gain ⊞ a.loss) s));
  below = s_grow b (signed_of x) (0 + e) e (omega arith) (s_trans b a (signed_of x) 0 e B A (signed_pos x) (same_le (b.gain ⊞ a.loss) (a.gain ⊞ b.loss) (sym s)) h.below);
}

module _ (a b c d : ℕ) where
  abbrev X : Frac
  X = a over b

  abbrev Y : Frac
  Y = c over d

  abbrev O : Frac
  O = 0 over 1

  both_plus : SSame (lowest false ((a * d + c * b) over (b * d)) ((a * d + c * b) over (b * d))) (lowest false X X ⊹ lowest false Y Y)
  both_plus = omega arith

  both_minus : SSame (lowest true ((a * d + c * b) over (b * d)) ((a * d + c * b) over (b * d))) (lowest true X X ⊹ lowest true Y Y)
  both_minus = omega arith

  plus_more : (D : ℕ) → D + c * b ≡ a * d → SSame (lowest false (D over (b * d)) (D over (b * d))) (lowest false X X ⊹ lowest true Y Y)
  plus_more D e = omega (arith, ap (λ (z : ℕ). z * (b * d)) e)

  plus_less : (D : ℕ) → D + a * d ≡ c * b → SSame (lowest true (D over (b * d)) (D over (b * d))) (lowest false X X ⊹ lowest true Y Y)
  plus_less D e = omega (arith, ap (λ (z : ℕ). z * (b * d)) e)

  minus_less : (D : ℕ) → D + a * d ≡ c * b → SSame (lowest false (D over (b * d)) (D over (b * d))) (lowest true X X ⊹ lowest false Y Y)
  minus_less D e = omega (arith, ap (λ (z : ℕ). z * (b * d)) e)

  minus_more : (D : ℕ) → D + c * b ≡ a * d → SSame (lowest true (D over (b * d)) (D over (b * d))) (lowest true X X ⊹ lowest false Y Y)
  minus_more D e = omega (arith, ap (λ (z : ℕ). z * (b * d)) e)

pub lowest_pos : (s : Bool) (a : Frac) → Pos a → Fractions (lowest s a a)
lowest_pos false a h = record { gain_is = h; loss_is = zero-lt-suc 0 }
lowest_pos true a h = record { gain_is = zero-lt-suc 0; loss_is = h }

-- one rounding of a known exact value
step : (s t u : Bool) (m n : ℕ) (e d : ℤ) (N j : ℕ) → j ≤ 20 → N ≤ 2 ^ j * (down e * down d)
    → SSame (lowest u (N over (down e * down d)) (N over (down e * down d))) (signed_of (fin s m e) ⊹ signed_of (fin t n d))
    → SNear (round binary64 u N (down e * down d)) (signed_of (fin s m e) ⊹ signed_of (fin t n d)) (2 ^ j)
step s t u m n e d N j l h k =
    snear_same (round binary64 u N (down e * down d)) (lowest u (N over (down e * down d)) (N over (down e * down d))) (signed_of (fin s m e) ⊹ signed_of (fin t n d)) (2 ^ j)
    (lowest_pos u (N over (down e * down d)) (mul-pos (down_pos e) (down_pos d)))
    (fractions_add (signed_of (fin s m e)) (signed_of (fin t n d)) (signed_pos (fin s m e)) (signed_pos (fin t n d))) k
    (round_snear u N (down e * down d) j (mul-pos (down_pos e) (down_pos d)) l h)

back : (a b : ℕ) → b ≤ a → a - b + b ≡ a
back a b h = omega arith

add_cases : (s t : Bool) (m n : ℕ) (e d : ℤ) (j : ℕ) → j ≤ 20 → m * up e * down d + n * up d * down e ≤ 2 ^ j * (down e * down d)
    → SNear (sum binary64 s (m * up e * down d) t (n * up d * down e) (down e * down d)) (signed_of (fin s m e) ⊹ signed_of (fin t n d)) (2 ^ j)
unfolding sum
add_cases false false m n e d j l h = step false false false m n e d (m * up e * down d + n * up d * down e) j l h (both_plus (m * up e) (down e) (n * up d) (down d))
add_cases true true m n e d j l h = step true true true m n e d (m * up e * down d + n * up d * down e) j l h (both_minus (m * up e) (down e) (n * up d) (down d))
add_cases false true m n e d j l h = go (ltb a b) (ltb→lt a b) (nltb→le a b)
  where
    a : ℕ
    a = m * up e * down d

    b : ℕ
    b = n * up d * down e

    go : (c : Bool) → (T c → a < b) → (T (not c) → b ≤ a)
        → SNear (cond c (round binary64 true (b - a) (down e * down d)) (round binary64 false (a - b) (down e * down d))) (signed_of (fin false m e) ⊹ signed_of (fin true n d)) (2 ^ j)
    go true f g = step false true true m n e d (b - a) j l (omega arith) (plus_less (m * up e) (down e) (n * up d) (down d) (b - a) (back b a (omega (arith, f tt))))
    go false f g = step false true false m n e d (a - b) j l (omega arith) (plus_more (m * up e) (down e) (n * up d) (down d) (a - b) (back a b (g tt)))
add_cases true false m n e d j l h = go (ltb a b) (ltb b a) (ltb→lt a b) (nltb→le a b) (ltb→lt b a) (nltb→le b a)
  where
    a : ℕ
    a = m * up e * down d

    b : ℕ
    b = n * up d * down e

    go : (c w : Bool) → (T c → a < b) → (T (not c) → b ≤ a) → (T w → b < a) → (T (not w) → a ≤ b)
        → SNear (cond c (round binary64 false (b - a) (down e * down d)) (round binary64 w (a - b) (down e * down d))) (signed_of (fin true m e) ⊹ signed_of (fin false n d)) (2 ^ j)
    go true w f g p q = step true false false m n e d (b - a) j l (omega arith) (minus_less (m * up e) (down e) (n * up d) (down d) (b - a) (back b a (omega (arith, f tt))))
    go false true f g p q = step true false true m n e d (a - b) j l (omega arith) (minus_more (m * up e) (down e) (n * up d) (down d) (a - b) (back a b (g tt)))
    go false false f g p q = step true false false m n e d (a - b) j l (omega arith) (minus_less (m * up e) (down e) (n * up d) (down d) (a - b) (omega (arith, g tt, q tt)))

pub add_signed : (x y : Float) (j : ℕ) → Fin x → Fin y → j ≤ 20 → (magnitude x ⊞ magnitude y).num ≤ 2 ^ j * (magnitude x ⊞ magnitude y).den
    → SNear (add binary64 x y) (signed_of x ⊹ signed_of y) (2 ^ j)
unfolding add
add_signed nan y j p q l h = absurd p
add_signed (inf s) y j p q l h = absurd p
add_signed (fin s m e) nan j p q l h = absurd q
add_signed (fin s m e) (inf t) j p q l h = absurd q
add_signed (fin s m e) (fin t n d) j p q l h = add_cases s t m n e d j l h

-- ---- and its size
sizes : ℕ → Float → Type 0
sizes i z = (magnitude z).num ≤ (i + 1) * (magnitude z).den

neg_size : (z : Float) → magnitude (neg z) ≡ magnitude z
unfolding neg
neg_size nan = refl
neg_size (inf s) = refl
neg_size (fin s m e) = refl

plus_size : (num den i : ℕ) → 0 < den → num ≤ i * den → i ≤ 4096 → sizes i (round binary64 false num den)
unfolding sizes
plus_size num den i D h l =
    le_bound (magnitude (round binary64 false num den)) (num over den) 4096 i D (round_near num den 12 D (lit≤ tt) (omega (arith, h, mul-le-mul_right den l))).above (lit≤ tt) h

round_size : (s : Bool) (num den i : ℕ) → 0 < den → num ≤ i * den → i ≤ 4096 → sizes i (round binary64 s num den)
unfolding sizes
round_size false num den i D h l = plus_size num den i D h l
round_size true num den i D h l =
    subst (λ (z : Float). sizes i z) (sym (round_sign num den)) (subst (λ (z : Frac). z.num ≤ (i + 1) * z.den) (sym (neg_size (round binary64 false num den))) (plus_size num den i D h l))

cond_size : (b : Bool) (x y : Float) (i : ℕ) → sizes i x → sizes i y → sizes i (cond b x y)
cond_size true x y i h k = h
cond_size false x y i h k = k

pub add_size : (x y : Float) (i : ℕ) → Fin x → Fin y → (magnitude x ⊞ magnitude y).num ≤ i * (magnitude x ⊞ magnitude y).den → i ≤ 4096
    → (magnitude (add binary64 x y)).num ≤ (i + 1) * (magnitude (add binary64 x y)).den
unfolding add sizes
add_size nan y i p q h l = absurd p
add_size (inf s) y i p q h l = absurd p
add_size (fin s m e) nan i p q h l = absurd q
add_size (fin s m e) (inf t) i p q h l = absurd q
add_size (fin s m e) (fin t n d) i p q h l = sum_size s t (m * up e * down d) (n * up d * down e) (down e * down d) (mul-pos (down_pos e) (down_pos d)) h
  where
    sum_size : (s t : Bool) (a b c : ℕ) → 0 < c → a + b ≤ i * c → sizes i (sum binary64 s a t b c)
    sum_size s t a b c C h = unfold sum in
        cond_size (beq s t) (round binary64 s (a + b) c) (cond (ltb a b) (round binary64 t (b - a) c) (round binary64 (s && ltb b a) (a - b) c)) i (round_size s (a + b) c i C h l)
        (cond_size (ltb a b) (round binary64 t (b - a) c) (round binary64 (s && ltb b a) (a - b) c) i (round_size t (b - a) c i C (omega arith) l) (round_size (s && ltb b a) (a - b) c i C (omega arith) l))
