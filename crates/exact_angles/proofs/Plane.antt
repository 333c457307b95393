-- SCOPE 43: in all four quadrants the float angle is within 2 ^ -45 of the exact one: `near_angle`. Assumes nothing.
-- Errors are counted in 2 ^ -53. By the file: the sum of the series at a y that is off by 9 is off by 112 (Horner), times its factor by 81 (Sharp); with what
-- the ends leave open a slope's angle by 97 (Close); FRAC_PI_2 less it by 107, PI less that by 127 (here). 2 ^ -45 is 256.
use mathlib.Core.Path.{◌≡◌, refl, sym, ap, ◌∙◌, subst}
use mathlib.Core.Bool.{Bool, true, false, not, cond, ◌&&◌}
use Prim.Native.Nat.{ℕ, zero, suc, ◌+◌, ◌-◌, ◌*◌, ◌≤◌, ◌<◌}
use native.Mathlib.Nat.{le_antisymm, mul-pos, zero-lt-suc, mul-le-mul_right, lt_of_lt_of_le, zero-mul}
use native.Mathlib.Omega.{arith}
use lib.IntN.{ℤ}
use lib.Dec.{T, ltb, eqb, ltb→lt, nltb→le, eqb→eq, eqb_refl, lit≤}
use lib.Ieee.{Float, nan, inf, fin, binary64, of_bits, up, down, neg, sub, div, lt, eq}
use lib.Ieee.Fits.{down_pos, up_pos}
use Rattle.fractions.specs.Frac.{Frac, ◌over◌, ◌⊟◌, ◌≼◌, magnitude}
use Rattle.exact_angles.specs.Exact.{Shut, Closing, slope, less, quarter, half, whole, first, around, Within, AlwaysNear}
use Rattle.angle.specs.Arctan as A
use Rattle.numbers.specs.F64 as F
use Rattle.numbers.proofs.Rounds.{is_true, is_false}
use Rattle.angle.proofs.Signs.{atan2_is}
use Rattle.fractions.proofs.Frac.{le_bound, le_grow}
use Rattle.fractions.proofs.Round.{Plus, Near}
use Rattle.fractions.proofs.Ops.{den_pos, sub_op, div_op, div_le_one}
use Rattle.exact_angles.proofs.Close.{Close, Small, close_sub, quarter_close, half_close, whole_close, acute_close, acute_small}
use Rattle.exact_angles.proofs.Shut.{first_closing, whole_closing, less_closing, closing_grow}

-- ---- an angle with a bound on its size
pub record CloseAngle (x : Float) (a : Shut) (e : ℕ) : Type 0 where
  pub close : Close x a e
  pub small : (magnitude x).num ≤ 3 * (magnitude x).den

angle_grow : (x : Float) (a : Shut) (e f : ℕ) → e ≤ f → CloseAngle x a e → CloseAngle x a f
angle_grow x a e f l h = record {
  close = record {
    plus = h.close.plus;
    above = λ n m. le_grow (magnitude x) (a.low n) e f l (h.close.above n m);
    below = λ n m. le_grow (a.high n) (magnitude x) e f l (h.close.below n m);
  };
  small = h.small;
}

-- ---- a / b for a < b
ratio : (a b : Float) → Plus a → Plus b → (magnitude a).num * (magnitude b).den < (magnitude b).num * (magnitude a).den
    → CloseAngle (A.acute (div binary64 a b)) (slope ((magnitude a).num * (magnitude b).den) ((magnitude b).num * (magnitude a).den)) 97 × Small (A.acute (div binary64 a b)) 2 3
ratio a b p q h =
    let P = (magnitude a).num * (magnitude b).den in
    let Q = (magnitude b).num * (magnitude a).den in
    let o : 0 < (magnitude b).num = first_pos (magnitude b).num (magnitude a).den (lt_of_lt_of_le (zero-lt-suc P) h) in
    let l : P ≤ Q = omega arith in
    let z : 0 < Q = omega arith in
    let n : Near (div binary64 a b) (P over Q) 1 = div_op a b p q o l in
    let m : magnitude (div binary64 a b) ≼ (1 over 1) = div_le_one a b p q o l in
    let s : Small (A.acute (div binary64 a b)) 2 3 = acute_small (div binary64 a b) P Q z l n m in
    (record { close = acute_close (div binary64 a b) P Q z l n m; small = omega (arith, s.small) }, s)
  where
    first_pos : (n u : ℕ) → 0 < n * u → 0 < n
    first_pos zero u h = absurd (omega (arith, zero-mul u))
    first_pos (suc n) u h = zero-lt-suc n

-- FRAC_PI_2 less that
upright : (a b : Float) → Plus a → Plus b → (magnitude a).num * (magnitude b).den < (magnitude b).num * (magnitude a).den
    → CloseAngle (sub binary64 A.FRAC_PI_2 (A.acute (div binary64 a b))) (less half (slope ((magnitude a).num * (magnitude b).den) ((magnitude b).num * (magnitude a).den))) 107
upright a b p q h =
    let r = ratio a b p q h in
    let x = A.acute (div binary64 a b) in
    let l : magnitude x ≼ magnitude A.FRAC_PI_2 = under (magnitude x).num (magnitude x).den (magnitude A.FRAC_PI_2).num (magnitude A.FRAC_PI_2).den r.1.small half_ge in
    let o = top (magnitude A.FRAC_PI_2).num (magnitude A.FRAC_PI_2).den ((magnitude x).num * (magnitude A.FRAC_PI_2).den) (magnitude x).den half_le in
    let d = sub_op A.FRAC_PI_2 x 1 half_close.plus r.0.close.plus (lit≤ tt) l o in
    record {
      close = close_sub A.FRAC_PI_2 x half (slope ((magnitude a).num * (magnitude b).den) ((magnitude b).num * (magnitude a).den)) 8 97 1 half_close r.0.close (lit≤ tt) l o;
      small = le_bound (magnitude (sub binary64 A.FRAC_PI_2 x)) (magnitude A.FRAC_PI_2 ⊟ magnitude x) 2 2 (mul-pos (den_pos A.FRAC_PI_2) (den_pos x)) d.above (lit≤ tt) o;
    }
  where
    half_ge : 3 * (magnitude A.FRAC_PI_2).den ≤ 2 * (magnitude A.FRAC_PI_2).num
    half_ge = unfold of_bits in lit≤ tt

    half_le : (magnitude A.FRAC_PI_2).num ≤ 2 * (magnitude A.FRAC_PI_2).den
    half_le = unfold of_bits in lit≤ tt

    under : (a b c d : ℕ) → 2 * a ≤ 3 * b → 3 * d ≤ 2 * c → a * d ≤ c * b
    under a b c d h k = omega (arith, mul-le-mul_right d h, mul-le-mul_right b k)

    top : (a b c d : ℕ) → a ≤ 2 * b → a * d - c ≤ 2 * (b * d)
    top a b c d h = omega (arith, mul-le-mul_right d h)

-- ---- what the comparisons say
lt_is : (a b : Float) → Plus a → Plus b → lt a b ≡ ltb ((magnitude a).num * (magnitude b).den) ((magnitude b).num * (magnitude a).den)
unfolding lt
lt_is nan b p q = absurd p
lt_is (inf s) b p q = absurd p
lt_is (fin true m e) b p q = absurd p
lt_is (fin false m e) nan p q = absurd q
lt_is (fin false m e) (inf t) p q = absurd q
lt_is (fin false m e) (fin true n d) p q = absurd q
lt_is (fin false m e) (fin false n d) p q = refl

and_true : (a b : Bool) → T a → T b → a && b ≡ true
and_true a b s t = ap (λ (z : Bool). z && b) (is_true a s) ∙ is_true b t

eq_is : (a b : Float) → Plus a → Plus b → (magnitude a).num * (magnitude b).den ≡ (magnitude b).num * (magnitude a).den → eq a b ≡ true
unfolding eq
eq_is nan b p q h = absurd p
eq_is (inf s) b p q h = absurd p
eq_is (fin true m e) b p q h = absurd p
eq_is (fin false m e) nan p q h = absurd q
eq_is (fin false m e) (inf t) p q h = absurd q
eq_is (fin false m e) (fin true n d) p q h = absurd q
eq_is (fin false m e) (fin false n d) p q h =
    and_true (eqb (m * up e * down d) (n * up d * down e)) true (subst (λ (z : ℕ). T (eqb (m * up e * down d) z)) h (eqb_refl (m * up e * down d))) tt

not_zero : (a : Float) → Plus a → 0 < (magnitude a).num → eq a F.zero ≡ false
unfolding eq of_bits
not_zero nan p h = absurd p
not_zero (inf s) p h = absurd p
not_zero (fin true m e) p h = absurd p
not_zero (fin false m e) p h =
    ap (λ (z : Bool). z && true)
    (is_false (eqb (m * up e * 1) (0 * 1 * down e)) (λ (t : T (eqb (m * up e * 1) (0 * 1 * down e))). omega (arith, h, eqb→eq (m * up e * 1) (0 * 1 * down e) t)))

-- ---- the first quadrant
module _ (a b : Float) (p : Plus a) (q : Plus b) where
  abbrev P : ℕ
  P = (magnitude a).num * (magnitude b).den

  abbrev Q : ℕ
  Q = (magnitude b).num * (magnitude a).den

  abbrev rest : Float
  rest = cond (eq a F.zero) F.zero (cond (eq a b) A.FRAC_PI_4 (F.◌⊕◌ a b))

  equal : P ≡ Q → 0 < P + Q → CloseAngle rest quarter 107
  equal h o =
      let z : 0 < (magnitude a).num = positive (magnitude a).num (magnitude b).den (omega arith) in
      subst (λ (x : Bool). CloseAngle (cond x F.zero (cond (eq a b) A.FRAC_PI_4 (F.◌⊕◌ a b))) quarter 107) (sym (not_zero a p z))
      (subst (λ (x : Bool). CloseAngle (cond x A.FRAC_PI_4 (F.◌⊕◌ a b)) quarter 107) (sym (eq_is a b p q h))
      (angle_grow A.FRAC_PI_4 quarter 4 107 (lit≤ tt) (record { close = quarter_close; small = quarter_small })))
    where
      positive : (n u : ℕ) → 0 < n * u → 0 < n
      positive zero u h = absurd (omega (arith, zero-mul u))
      positive (suc n) u h = zero-lt-suc n

      quarter_small : (magnitude A.FRAC_PI_4).num ≤ 3 * (magnitude A.FRAC_PI_4).den
      quarter_small = unfold of_bits in lit≤ tt

  pub quadrant_angle : 0 < P + Q → CloseAngle (A.quadrant a b) (first P Q) 107
  unfolding A.quadrant first
  quadrant_angle o =
      subst (λ (x : Bool). CloseAngle (cond x (A.acute (div binary64 a b)) (cond (lt b a) (sub binary64 A.FRAC_PI_2 (A.acute (div binary64 b a))) rest)) (first P Q) 107) (sym (lt_is a b p q))
      (subst (λ (x : Bool). CloseAngle (cond (ltb P Q) (A.acute (div binary64 a b)) (cond x (sub binary64 A.FRAC_PI_2 (A.acute (div binary64 b a))) rest)) (first P Q) 107) (sym (lt_is b a q p))
      (go (ltb P Q) (ltb Q P) (ltb→lt P Q) (nltb→le P Q) (ltb→lt Q P) (nltb→le Q P)))
    where
      go : (x y : Bool) → (T x → P < Q) → (T (not x) → Q ≤ P) → (T y → Q < P) → (T (not y) → P ≤ Q)
          → CloseAngle (cond x (A.acute (div binary64 a b)) (cond y (sub binary64 A.FRAC_PI_2 (A.acute (div binary64 b a))) rest)) (cond x (slope P Q) (cond y (less half (slope Q P)) quarter)) 107
      go true y f g h k = angle_grow (A.acute (div binary64 a b)) (slope P Q) 97 107 (lit≤ tt) (ratio a b p q (f tt)).0
      go false true f g h k = upright b a q p (h tt)
      go false false f g h k = equal (le_antisymm (k tt) (g tt)) o

-- ---- the other three: PI less that where x's sign is minus
module _ (r : Float) (a : Shut) (h : CloseAngle r a 107) where
  not_above_pi : magnitude r ≼ magnitude A.PI
  not_above_pi = under (magnitude r).num (magnitude r).den (magnitude A.PI).num (magnitude A.PI).den h.small at_least_three
    where
      at_least_three : 3 * (magnitude A.PI).den ≤ (magnitude A.PI).num
      at_least_three = unfold of_bits in lit≤ tt

      under : (a b c d : ℕ) → a ≤ 3 * b → 3 * d ≤ c → a * d ≤ c * b
      under a b c d h k = omega (arith, mul-le-mul_right d h, mul-le-mul_right b k)

  pi_less_small : (magnitude A.PI ⊟ magnitude r).num ≤ 4 * (magnitude A.PI ⊟ magnitude r).den
  pi_less_small = top (magnitude A.PI).num (magnitude A.PI).den ((magnitude r).num * (magnitude A.PI).den) (magnitude r).den at_most_four
    where
      at_most_four : (magnitude A.PI).num ≤ 4 * (magnitude A.PI).den
      at_most_four = unfold of_bits in lit≤ tt

      top : (a b c d : ℕ) → a ≤ 4 * b → a * d - c ≤ 4 * (b * d)
      top a b c d h = omega (arith, mul-le-mul_right d h)

  turned_close : (t : Bool) → Close (A.turned t r) (cond t (less whole a) a) 127
  turned_close false = (angle_grow r a 107 127 (lit≤ tt) h).close
  turned_close true = close_sub A.PI r whole a 16 107 2 whole_close h.close (lit≤ tt) not_above_pi pi_less_small

  turned_small : (t : Bool) → (magnitude (A.turned t r)).num ≤ 5 * (magnitude (A.turned t r)).den
  turned_small false = omega (arith, h.small)
  turned_small true =
      let d = sub_op A.PI r 2 whole_close.plus h.close.plus (lit≤ tt) not_above_pi pi_less_small in
      le_bound (magnitude (sub binary64 A.PI r)) (magnitude A.PI ⊟ magnitude r) 4 4 (mul-pos (den_pos A.PI) (den_pos r)) d.above (lit≤ tt) pi_less_small

-- ---- signs, and the theorem
widen_up : (an ad bn bd : ℕ) → an * bd * 9007199254740992 ≤ bn * ad * 9007199254740992 + 127 * (ad * bd) → an * (bd * 35184372088832) ≤ (bn * 35184372088832 + 1 * bd) * ad
widen_up an ad bn bd h = omega arith

signed_within : (s : Bool) (r : Float) (a : Shut) → Closing a 7 → Close r a 127 → Within 45 (A.signed s r) s a
signed_within s nan a o h = absurd h.plus
signed_within s (inf t) a o h = absurd h.plus
signed_within s (fin true m e) a o h = absurd h.plus
signed_within s (fin false m e) a o h = subst (λ (z : Float). Within 45 z s a) (sym (is s)) within
  where
    is : (s : Bool) → A.signed s (fin false m e) ≡ fin s m e
    is true = unfold neg in refl
    is false = refl

    within : Within 45 (fin s m e) s a
    within = record {
      sign = (m, (e, refl));
      one_value = o;
      above = λ n l. widen_up (m * up e) (down e) (a.low n).num (a.low n).den (h.above n l);
      below = λ n l. widen_up (a.high n).num (a.high n).den (m * up e) (down e) (h.below n l);
    }

pub around_closing : (t : Bool) (p q : ℕ) → 0 < p + q → Closing (around t p q) 7
unfolding around
around_closing true p q o = less_closing whole (first p q) 4 3 whole_closing (first_closing p q o)
around_closing false p q o = closing_grow (first p q) 3 7 (lit≤ tt) (first_closing p q o)

not_both_zero : (m n u v w x : ℕ) → 0 < m + n → 0 < u → 0 < v → 0 < w → 0 < x → 0 < m * u * v + n * w * x
not_both_zero zero zero u v w x h i j k l = absurd (omega arith)
not_both_zero zero (suc n) u v w x h i j k l = omega (arith, mul-pos (mul-pos (zero-lt-suc n) k) l)
not_both_zero (suc m) n u v w x h i j k l = omega (arith, mul-pos (mul-pos (zero-lt-suc m) i) j)

-- within 2 ^ -45 of the exact angle, for every finite pair that is not (0, 0)
pub angle_within : (s t : Bool) (m n : ℕ) (e d : ℤ) → 0 < m + n → Within 45 (A.atan2 (fin s m e) (fin t n d)) s (around t (m * up e * down d) (n * up d * down e))
unfolding around
angle_within s t m n e d h =
    let p = m * up e * down d in
    let q = n * up d * down e in
    let o : 0 < p + q = not_both_zero m n (up e) (down d) (up d) (down e) h (up_pos e) (down_pos d) (up_pos d) (down_pos e) in
    subst (λ (z : Float). Within 45 z s (around t p q)) (sym (atan2_is s t m n e d))
    (signed_within s (A.turned t (A.quadrant (fin false m e) (fin false n d))) (around t p q) (around_closing t p q o)
    (turned_close (A.quadrant (fin false m e) (fin false n d)) (first p q) (quadrant_angle (fin false m e) (fin false n d) tt tt o) t))

pub near_angle : AlwaysNear 45
near_angle nan x = tt
near_angle (inf s) x = tt
near_angle (fin s m e) nan = tt
near_angle (fin s m e) (inf t) = tt
near_angle (fin s m e) (fin t n d) = angle_within s t m n e d

signed_size : (s : Bool) (r : Float) → Plus r → magnitude (A.signed s r) ≡ magnitude r
signed_size s nan p = absurd p
signed_size s (inf t) p = absurd p
signed_size s (fin true m e) p = absurd p
signed_size true (fin false m e) p = unfold neg in refl
signed_size false (fin false m e) p = refl

-- the float angle is at most 5 in size
pub angle_small : (s t : Bool) (m n : ℕ) (e d : ℤ) → 0 < m + n → (magnitude (A.atan2 (fin s m e) (fin t n d))).num ≤ 5 * (magnitude (A.atan2 (fin s m e) (fin t n d))).den
angle_small s t m n e d h =
    let p = m * up e * down d in
    let q = n * up d * down e in
    let o : 0 < p + q = not_both_zero m n (up e) (down d) (up d) (down e) h (up_pos e) (down_pos d) (up_pos d) (down_pos e) in
    let a = quadrant_angle (fin false m e) (fin false n d) tt tt o in
    let r = A.turned t (A.quadrant (fin false m e) (fin false n d)) in
    subst (λ (z : Float). (magnitude z).num ≤ 5 * (magnitude z).den) (sym (atan2_is s t m n e d))
    (subst (λ (z : Frac). z.num ≤ 5 * z.den) (sym (signed_size s r (turned_close (A.quadrant (fin false m e) (fin false n d)) (first p q) a t).plus))
    (turned_small (A.quadrant (fin false m e) (fin false n d)) (first p q) a t))
