-- SCOPE 42: Euler's series and Gregory's shut in the same value: `lower_agrees`, `upper_agrees`. By Euler's transformation: the weights of Gregory's terms
-- are differenced again and again, and each time the first of them is a term of Euler's. Assumes nothing.
use mathlib.Core.Path.{◌≡◌, refl, sym, ap, ap₂, ◌∙◌, subst}
use mathlib.Core.Bool.{Bool, true, false, not}
use Prim.Native.Nat.{ℕ, zero, suc, ◌+◌, ◌-◌, ◌*◌, ◌≤◌, ◌<◌}
use native.Mathlib.Nat.{zero-add, le_of_eq, mul-pos, zero-lt-suc, mul-le-mul, mul-le-mul_right, le_of_mul-le-mul_right}
use native.Mathlib.Omega.{arith}
use Rattle.fractions.specs.Frac.{Frac, ◌over◌, ◌⊞◌, ◌⊟◌, ◌⊠◌, ◌≼◌}
use Rattle.exact_angles.specs.Exact.{coef, power, term, partial, slope}
use Rattle.exact_angles.specs.Gregory.{alternate, gregory, uneven}
use Rattle.fractions.proofs.Order.{Same, same_trans, mul_same, add_same, same_≼, ≼-same, ≼_trans, add_mono, sub_mono, mul_mono}
use Rattle.fractions.proofs.Frac.{Pos, sub_mul}
use Rattle.exact_angles.proofs.Horner.{coef_pos, nest, nest_pos}
use Rattle.exact_angles.proofs.Ends.{upto, nest_all, power_pos}

-- ---- the weights: of m = 0 the reciprocals of the odd numbers, and each next m the differences
weight : ℕ → ℕ → Frac
weight zero a = 1 over (2 * a + 1)
weight (suc m) a = weight m a ⊠ ((2 * m + 2) over (2 * a + 2 * m + 3))

weight_pos : (m a : ℕ) → Pos (weight m a)
unfolding weight
weight_pos zero a = omega arith
weight_pos (suc m) a = mul-pos (weight_pos m a) (omega arith)

shifted : (m a : ℕ) → Same (weight m (suc a)) (weight m a ⊠ ((2 * a + 1) over (2 * a + 2 * m + 3)))
unfolding weight
shifted zero a = omega arith
shifted (suc m) a =
    same_trans (weight m (suc a) ⊠ ((2 * m + 2) over (2 * suc a + 2 * m + 3))) (weight m a ⊠ ((2 * a + 1) over (2 * a + 2 * m + 3)) ⊠ ((2 * m + 2) over (2 * suc a + 2 * m + 3)))
    (weight m a ⊠ ((2 * m + 2) over (2 * a + 2 * m + 3)) ⊠ ((2 * a + 1) over (2 * a + 2 * suc m + 3)))
    (mul-pos (mul-pos (weight_pos m a) (omega arith)) (omega arith))
    (times (weight m (suc a)) (weight m a ⊠ ((2 * a + 1) over (2 * a + 2 * m + 3))) ((2 * m + 2) over (2 * suc a + 2 * m + 3)) (shifted m a))
    (swap (weight m a).num (weight m a).den m a)
  where
    times : (x y c : Frac) → Same x y → Same (x ⊠ c) (y ⊠ c)
    times x y c h = omega (arith, ap (λ (z : ℕ). z * (c.num * c.den)) h)

    turn : (x r s d : ℕ) → x * r * s * d ≡ x * s * r * d
    turn x r s d = omega arith

    swap : (x y m a : ℕ)
        → x * (2 * a + 1) * (2 * m + 2) * (y * (2 * a + 2 * m + 3) * (2 * a + 2 * suc m + 3)) ≡ x * (2 * m + 2) * (2 * a + 1) * (y * (2 * a + 2 * m + 3) * (2 * suc a + 2 * m + 3))
    swap x y m a =
        let e : 2 * a + 2 * suc m + 3 ≡ 2 * suc a + 2 * m + 3 = omega arith in
        let left = x * (2 * a + 1) * (2 * m + 2) in
        let right = x * (2 * m + 2) * (2 * a + 1) in
        let d = y * (2 * a + 2 * m + 3) in
        subst (λ (z : ℕ). left * (d * z) ≡ right * (d * (2 * suc a + 2 * m + 3))) (sym e) (turn x (2 * a + 1) (2 * m + 2) (d * (2 * suc a + 2 * m + 3)))

-- ---- identities on the numbers
taken : (x y k : ℕ) → k + y ≡ x → x - y ≡ k
taken x y k h = omega arith

-- c (w - u S) is c w - u (c S)
spread : (a b c d p q s t : ℕ) → c * (a * (q * t) - p * s * b) * (d * b * (q * (d * t))) ≡ (c * a * (q * (d * t)) - p * (c * s) * (d * b)) * (d * (b * (q * t)))
spread a b c d p q s t =
    let e : c * a * (q * (d * t)) - p * (c * s) * (d * b) ≡ (a * (q * t) - p * s * b) * (c * d) =
    ap₂ (λ (x y : ℕ). x - y) (one a c d q t) (two b c d p s) ∙ sym (sub_mul (a * (q * t)) (p * s * b) (c * d)) in
    go (a * (q * t) - p * s * b) (c * a * (q * (d * t)) - p * (c * s) * (d * b)) e
  where
    one : (a c d q t : ℕ) → c * a * (q * (d * t)) ≡ a * (q * t) * (c * d)
    one a c d q t = omega arith

    two : (b c d p s : ℕ) → p * (c * s) * (d * b) ≡ p * s * b * (c * d)
    two b c d p s = omega arith

    go : (k l : ℕ) → l ≡ k * (c * d) → c * k * (d * b * (q * (d * t))) ≡ l * (d * (b * (q * t)))
    go k l e = subst (λ (z : ℕ). c * k * (d * b * (q * (d * t))) ≡ z * (d * (b * (q * t)))) (sym e) (omega arith)

-- (1 + u) w - u (w r/t + Z) is w + u (w s/t - Z), for r + s = t; w = a / b, u = p / q, Z = z / y
next : (a b p q r s t z y : ℕ) → r + s ≡ t → z * (b * t) ≤ a * s * y
    → ((1 * q + p * 1) * a * (q * (b * t * y)) - p * (a * r * y + z * (b * t)) * (1 * q * b)) * (b * (q * (b * t * y))) ≡ (a * (q * (b * t * y)) + p * (a * s * y - z * (b * t)) * b) * (1 * q * b * (q * (b * t * y)))
next a b p q r s t z y e h = go (a * s * y - z * (b * t)) (back (a * s * y) (z * (b * t)) h)
  where
    back : (x y : ℕ) → y ≤ x → x - y + y ≡ x
    back x y h = omega arith

    sum : (k : ℕ) → k + z * (b * t) ≡ a * s * y → q * b * (q * a * t * y + p * k) + p * (a * r * y + z * (b * t)) * (1 * q * b) ≡ (1 * q + p * 1) * a * (q * (b * t * y))
    sum k f = subst (λ (w : ℕ). q * b * (q * a * w * y + p * k) + p * (a * r * y + z * (b * w)) * (1 * q * b) ≡ (1 * q + p * 1) * a * (q * (b * w * y))) e
        (omega (arith, ap (λ (w : ℕ). w * (p * q * b)) (subst (λ (w : ℕ). k + z * (b * w) ≡ a * s * y) (sym e) f)))

    go : (k : ℕ) → k + z * (b * t) ≡ a * s * y
        → ((1 * q + p * 1) * a * (q * (b * t * y)) - p * (a * r * y + z * (b * t)) * (1 * q * b)) * (b * (q * (b * t * y))) ≡ (a * (q * (b * t * y)) + p * k * b) * (1 * q * b * (q * (b * t * y)))
    go k f =
        subst (λ (w : ℕ). w * (b * (q * (b * t * y))) ≡ (a * (q * (b * t * y)) + p * k * b) * (1 * q * b * (q * (b * t * y))))
        (sym (taken ((1 * q + p * 1) * a * (q * (b * t * y))) (p * (a * r * y + z * (b * t)) * (1 * q * b)) (q * b * (q * a * t * y + p * k)) (sum k f))) (omega arith)

-- ---- the alternating sums
module _ (u : Frac) (U : Pos u) (h : u.num ≤ u.den) where
  alt : ℕ → ℕ → ℕ → Frac
  alt m a zero = weight m a
  alt m a (suc n) = weight m a ⊟ u ⊠ alt m (suc a) n

  alt_pos : (m a n : ℕ) → Pos (alt m a n)
  unfolding alt
  alt_pos m a zero = weight_pos m a
  alt_pos m a (suc n) = mul-pos (weight_pos m a) (mul-pos U (alt_pos m (suc a) n))

  less_le : (x y : Frac) → (x ⊟ y) ≼ x
  less_le x y = at x.num x.den y.num y.den
    where
      at : (a b c d : ℕ) → (a * d - c * b) * b ≤ a * (b * d)
      at a b c d = omega (arith, mul-le-mul_right b (cut (a * d) (c * b)))
        where
          cut : (x y : ℕ) → x - y ≤ x
          cut x y = omega arith

  alt_le : (m a n : ℕ) → alt m a n ≼ weight m a
  unfolding alt
  alt_le m a zero = le_of_eq refl
  alt_le m a (suc n) = less_le (weight m a) (u ⊠ alt m (suc a) n)

  weight_falls : (m a : ℕ) → weight m (suc a) ≼ weight m a
  weight_falls m a =
      ≼_trans (weight m (suc a)) (weight m a ⊠ ((2 * a + 1) over (2 * a + 2 * m + 3))) (weight m a) (mul-pos (weight_pos m a) (omega arith))
      (same_≼ (weight m (suc a)) (weight m a ⊠ ((2 * a + 1) over (2 * a + 2 * m + 3))) (shifted m a)) (small (weight m a).num (weight m a).den)
    where
      small : (x y : ℕ) → x * (2 * a + 1) * y ≤ x * (y * (2 * a + 2 * m + 3))
      small x y = let k : 2 * a + 1 ≤ 2 * a + 2 * m + 3 = omega arith in omega (arith, mul-le-mul_right (x * y) k)

  -- nothing is cut off: u times the rest is at most the weight
  rest_le : (m a n : ℕ) → (u ⊠ alt m (suc a) n) ≼ weight m a
  rest_le m a n =
      ≼_trans (u ⊠ alt m (suc a) n) (alt m (suc a) n) (weight m a) (alt_pos m (suc a) n) (shrink (alt m (suc a) n).num (alt m (suc a) n).den)
      (≼_trans (alt m (suc a) n) (weight m (suc a)) (weight m a) (weight_pos m (suc a)) (alt_le m (suc a) n) (weight_falls m a))
    where
      shrink : (x y : ℕ) → u.num * x * y ≤ x * (u.den * y)
      shrink x y = omega (arith, mul-le-mul_right (x * y) h)

  abbrev more : Frac
  more = (1 over 1) ⊞ u

  -- the two sides of the step from m to m + 1: (1 + u) S against w + u S'
  abbrev Side : Bool → Frac → Frac → Type 0
  Side false x y = y ≼ x
  Side true x y = x ≼ y

  first_side : (m a : ℕ) → (weight m a ⊞ u ⊠ weight (suc m) a) ≼ (more ⊠ weight m a)
  unfolding weight
  first_side m a = at (weight m a).num (weight m a).den u.num u.den (2 * m + 2) (2 * a + 2 * m + 3) (omega arith)
    where
      at : (x y p q s t : ℕ) → s ≤ t → (x * (q * (y * t)) + p * (x * s) * y) * (1 * q * y) ≤ (1 * q + p * 1) * x * (y * (q * (y * t)))
      at x y p q s t l = omega (arith, mul-le-mul_right (x * y * y * p * q) l)

  -- what the step makes of the two sides: L is (1 + u) w - u X, for X = (1 + u) S or X = w r/t + u S'
  abbrev left : ℕ → ℕ → Frac → Frac
  left m a X = (more ⊠ weight m a) ⊟ u ⊠ X

  abbrev shiftedw : ℕ → ℕ → Frac
  shiftedw m a = weight m a ⊠ ((2 * a + 1) over (2 * a + 2 * m + 3))

  more_pos : Pos more
  more_pos = mul-pos (zero-lt-suc 0) U

  left_pos : (m a : ℕ) (X : Frac) → Pos X → Pos (left m a X)
  left_pos m a X P = mul-pos (mul-pos more_pos (weight_pos m a)) (mul-pos U P)

  left_anti : (m a : ℕ) (X Y : Frac) → X ≼ Y → left m a Y ≼ left m a X
  left_anti m a X Y k = sub_mono (more ⊠ weight m a) (more ⊠ weight m a) (u ⊠ Y) (u ⊠ X) (le_of_eq refl) (mul_mono u X Y k)

  module _ (m a n : ℕ) where
    abbrev S : Frac
    S = alt m (suc a) n

    abbrev S' : Frac
    S' = alt (suc m) (suc a) n

    abbrev X : Frac
    X = more ⊠ S

    abbrev X' : Frac
    X' = weight m (suc a) ⊞ u ⊠ S'

    abbrev X'' : Frac
    X'' = shiftedw m a ⊞ u ⊠ S'

    to : Same (more ⊠ (weight m a ⊟ u ⊠ S)) (left m a X)
    to = spread (weight m a).num (weight m a).den more.num more.den u.num u.den S.num S.den

    from : Same (left m a X'') (weight m a ⊞ u ⊠ (weight (suc m) a ⊟ u ⊠ S'))
    unfolding weight
    from =
        next (weight m a).num (weight m a).den u.num u.den (2 * a + 1) (2 * m + 2) (2 * a + 2 * m + 3) (u.num * S'.num) (u.den * S'.den) (omega arith) (rest_le (suc m) a n)

    X_pos : Pos X
    X_pos = mul-pos more_pos (alt_pos m (suc a) n)

    X'_pos : Pos X'
    X'_pos = mul-pos (weight_pos m (suc a)) (mul-pos U (alt_pos (suc m) (suc a) n))

    X''_pos : Pos X''
    X''_pos = mul-pos (mul-pos (weight_pos m a) (omega arith)) (mul-pos U (alt_pos (suc m) (suc a) n))

    plus_same : (x y c : Frac) → Same x y → Same (x ⊞ c) (y ⊞ c)
    plus_same x y c e = omega (arith, ap (λ (z : ℕ). z * (c.den * c.den)) e)

    both : Same X' X''
    both = plus_same (weight m (suc a)) (shiftedw m a) (u ⊠ S') (shifted m a)

    step : (b : Bool) → Side b X X' → Side (not b) (more ⊠ (weight m a ⊟ u ⊠ S)) (weight m a ⊞ u ⊠ (weight (suc m) a ⊟ u ⊠ S'))
    step true k =
        let x = more ⊠ (weight m a ⊟ u ⊠ S) in
        let y = weight m a ⊞ u ⊠ (weight (suc m) a ⊟ u ⊠ S') in
        let l : X ≼ X'' = ≼_trans X X' X'' X'_pos k (same_≼ X' X'' both) in
        ≼_trans y (left m a X'') x (left_pos m a X'' X''_pos) (≼-same (left m a X'') y from)
        (≼_trans (left m a X'') (left m a X) x (left_pos m a X X_pos) (left_anti m a X X'' l) (≼-same x (left m a X) to))
    step false k =
        let x = more ⊠ (weight m a ⊟ u ⊠ S) in
        let y = weight m a ⊞ u ⊠ (weight (suc m) a ⊟ u ⊠ S') in
        let l : X'' ≼ X = ≼_trans X'' X' X X'_pos (≼-same X' X'' both) k in
        ≼_trans x (left m a X) y (left_pos m a X X_pos) (same_≼ x (left m a X) to)
        (≼_trans (left m a X) (left m a X'') y (left_pos m a X'' X''_pos) (left_anti m a X'' X l) (same_≼ (left m a X'') y from))

  key : (m a n : ℕ) → Side (uneven n) (more ⊠ alt m a n) (weight m a ⊞ u ⊠ alt (suc m) a n)
  unfolding alt
  key m a zero = first_side m a
  key m a (suc n) = step m a n (uneven n) (key m (suc a) n)

-- ---- Euler's sums: the weights at a = 0 are the coefficients
coef_weight : (k : ℕ) → coef k ≡ weight k 0
unfolding coef weight
coef_weight zero = refl
coef_weight (suc k) = ap (λ (z : Frac). z ⊠ ((2 * k + 2) over (2 * k + 3))) (coef_weight k) ∙ ap (λ (z : ℕ). weight k 0 ⊠ ((2 * k + 2) over z)) (more k)
  where
    more : (k : ℕ) → 2 * k + 3 ≡ 2 * 0 + 2 * k + 3
    more k = omega arith

coef_falls : (k : ℕ) → coef (suc k) ≼ coef k
unfolding coef
coef_falls k = at (coef k).num (coef k).den
  where
    at : (x y : ℕ) → x * (2 * k + 2) * y ≤ x * (y * (2 * k + 3))
    at x y = let l : 2 * k + 2 ≤ 2 * k + 3 = omega arith in omega (arith, mul-le-mul_right (x * y) l)

-- the last term of `nest y k j`
tip : Frac → ℕ → ℕ → Frac
tip y k zero = coef k
tip y k (suc j) = y ⊠ tip y (suc k) j

module _ (p q : ℕ) (Q : 0 < q) (l : p ≤ q) where
  abbrev pp : ℕ
  pp = p * p

  abbrev qq : ℕ
  qq = q * q

  abbrev v : Frac
  v = pp over qq

  abbrev y : Frac
  y = pp over (pp + qq)

  abbrev f : Frac
  f = qq over (pp + qq)

  v_pos : Pos v
  v_pos = mul-pos Q Q

  v_one : pp ≤ qq
  v_one = mul-le-mul l l

  y_pos : 0 < pp + qq
  y_pos = omega (arith, v_pos)

  sums : ℕ → ℕ → Frac
  sums k n = alt v v_pos v_one k 0 n

  sums_pos : (k n : ℕ) → Pos (sums k n)
  unfolding sums
  sums_pos k n = alt_pos v v_pos v_one k 0 n

  sums_le : (k n : ℕ) → sums k n ≼ coef k
  unfolding sums
  sums_le k n = subst (λ (z : Frac). alt v v_pos v_one k 0 n ≼ z) (sym (coef_weight k)) (alt_le v v_pos v_one k 0 n)

  -- S against f c + y S'
  abbrev split : ℕ → ℕ → Frac
  split k n = f ⊠ coef k ⊞ y ⊠ sums (suc k) n

  split_side : (k n : ℕ) → Side v v_pos v_one (uneven n) (sums k n) (split k n)
  unfolding sums
  split_side k n =
      subst (λ (z : Frac). Side v v_pos v_one (uneven n) (sums k n) (f ⊠ z ⊞ y ⊠ sums (suc k) n)) (sym (coef_weight k))
      (go (uneven n) (key v v_pos v_one k 0 n))
    where
      a : Frac
      a = alt v v_pos v_one k 0 n

      b : Frac
      b = alt v v_pos v_one (suc k) 0 n

      w : Frac
      w = weight k 0

      at_low : (a b w x s t P Q : ℕ) → 0 < Q → (w * (Q * t) + P * s * x) * (1 * Q * b) ≤ (1 * Q + P * 1) * a * (x * (Q * t)) → (Q * w * ((P + Q) * t) + P * s * ((P + Q) * x)) * b ≤ a * ((P + Q) * x * ((P + Q) * t))
      at_low a b w x s t P Q Z h = le_of_mul-le-mul_right {k = Q} (omega (arith, mul-le-mul_right (P + Q) h)) Z

      at_high : (a b w x s t P Q : ℕ) → 0 < Q → (1 * Q + P * 1) * a * (x * (Q * t)) ≤ (w * (Q * t) + P * s * x) * (1 * Q * b) → a * ((P + Q) * x * ((P + Q) * t)) ≤ (Q * w * ((P + Q) * t) + P * s * ((P + Q) * x)) * b
      at_high a b w x s t P Q Z h = le_of_mul-le-mul_right {k = Q} (omega (arith, mul-le-mul_right (P + Q) h)) Z

      go : (c : Bool) → Side v v_pos v_one c (((1 over 1) ⊞ v) ⊠ a) (w ⊞ v ⊠ b) → Side v v_pos v_one c a (f ⊠ w ⊞ y ⊠ b)
      go true h = at_high a.num a.den w.num w.den b.num b.den pp qq v_pos h
      go false h = at_low a.num a.den w.num w.den b.num b.den pp qq v_pos h

  f_pos : Pos f
  f_pos = y_pos

  split_pos : (k n : ℕ) → Pos (split k n)
  split_pos k n = mul-pos (mul-pos f_pos (coef_pos k)) (mul-pos y_pos (sums_pos (suc k) n))

  add_right : (a b : Frac) → a ≼ a ⊞ b
  add_right a b = omega arith

  -- f (c + y N) is f c + y (f N)
  inner : (a b c d s t g h : ℕ) → a * (c * (g * t) + s * h * d) * (b * d * (g * (b * t))) ≡ (a * c * (g * (b * t)) + s * (a * h) * (b * d)) * (b * (d * (g * t)))
  inner a b c d s t g h = omega arith

  within : (c N : Frac) → Same (f ⊠ (c ⊞ y ⊠ N)) (f ⊠ c ⊞ y ⊠ (f ⊠ N))
  within c N = inner qq (pp + qq) c.num c.den pp N.den (pp + qq) N.num

  lows : (j k n : ℕ) → uneven n ≡ false → (f ⊠ nest y k j) ≼ sums k n
  unfolding nest
  lows zero k n e =
      ≼_trans (f ⊠ coef k) (split k n) (sums k n) (split_pos k n) (add_right (f ⊠ coef k) (y ⊠ sums (suc k) n))
      (subst (λ (b : Bool). Side v v_pos v_one b (sums k n) (split k n)) e (split_side k n))
  lows (suc j) k n e =
      let N = nest y (suc k) j in
      let m = f ⊠ coef k ⊞ y ⊠ (f ⊠ N) in
      let M : Pos m = mul-pos (mul-pos f_pos (coef_pos k)) (mul-pos y_pos (mul-pos f_pos (nest_pos y y_pos j (suc k)))) in
      ≼_trans (f ⊠ (coef k ⊞ y ⊠ N)) m (sums k n) M (same_≼ (f ⊠ (coef k ⊞ y ⊠ N)) m (within (coef k) N))
      (≼_trans m (split k n) (sums k n) (split_pos k n) (add_mono (f ⊠ coef k) (f ⊠ coef k) (y ⊠ (f ⊠ N)) (y ⊠ sums (suc k) n) (le_of_eq refl) (mul_mono y (f ⊠ N) (sums (suc k) n) (lows j (suc k) n e)))
      (subst (λ (b : Bool). Side v v_pos v_one b (sums k n) (split k n)) e (split_side k n)))

  tip_pos : (j k : ℕ) → Pos (tip y k j)
  unfolding tip
  tip_pos zero k = coef_pos k
  tip_pos (suc j) k = mul-pos y_pos (tip_pos j (suc k))

  outer : (c d s t g h i o : ℕ) → ((c * (g * t) + s * h * d) * (g * o) + s * i * (d * (g * t))) * (d * (g * (t * o))) ≡ (c * (g * (t * o)) + s * (h * o + i * t) * d) * (d * (g * t) * (g * o))
  outer c d s t g h i o = omega arith

  without : (c N E : Frac) → Pos c → Pos N → Pos E → Same (f ⊠ c ⊞ y ⊠ (f ⊠ (N ⊞ E))) (f ⊠ ((c ⊞ y ⊠ N) ⊞ y ⊠ E))
  without c N E C n e =
      same_trans (f ⊠ c ⊞ y ⊠ (f ⊠ (N ⊞ E))) (f ⊠ (c ⊞ y ⊠ (N ⊞ E))) (f ⊠ ((c ⊞ y ⊠ N) ⊞ y ⊠ E)) (mul-pos f_pos (mul-pos C (mul-pos y_pos (mul-pos n e)))) (sym (within c (N ⊞ E)))
      (mul_same f (c ⊞ y ⊠ (N ⊞ E)) ((c ⊞ y ⊠ N) ⊞ y ⊠ E) (sym (outer c.num c.den pp N.den (pp + qq) N.num E.num E.den)))

  ups : (j k n : ℕ) → uneven n ≡ true → sums k n ≼ f ⊠ (nest y k j ⊞ tip y k j)
  unfolding nest tip
  ups zero k n e =
      let w : sums (suc k) n ≼ coef k = ≼_trans (sums (suc k) n) (coef (suc k)) (coef k) (coef_pos (suc k)) (sums_le (suc k) n) (coef_falls k) in
      ≼_trans (sums k n) (split k n) (f ⊠ (coef k ⊞ coef k)) (split_pos k n) (subst (λ (b : Bool). Side v v_pos v_one b (sums k n) (split k n)) e (split_side k n))
      (twice (coef k).num (coef k).den (sums (suc k) n).num (sums (suc k) n).den w)
    where
      twice : (c d s t : ℕ) → s * d ≤ c * t → (qq * c * ((pp + qq) * t) + pp * s * ((pp + qq) * d)) * ((pp + qq) * (d * d)) ≤ qq * (c * d + c * d) * ((pp + qq) * d * ((pp + qq) * t))
      twice c d s t h = go pp qq v_one
        where
          go : (P R : ℕ) → P ≤ R → (R * c * ((P + R) * t) + P * s * ((P + R) * d)) * ((P + R) * (d * d)) ≤ R * (c * d + c * d) * ((P + R) * d * ((P + R) * t))
          go P R z = abs (P + R)
            where
              abs : (K : ℕ) → (R * c * (K * t) + P * s * (K * d)) * (K * (d * d)) ≤ R * (c * d + c * d) * (K * d * (K * t))
              abs K = omega (arith, mul-le-mul_right (K * K * (d * d)) (mul-le-mul z h))
  ups (suc j) k n e =
      let N = nest y (suc k) j in
      let E = tip y (suc k) j in
      let m = f ⊠ coef k ⊞ y ⊠ (f ⊠ (N ⊞ E)) in
      let M : Pos m = mul-pos (mul-pos f_pos (coef_pos k)) (mul-pos y_pos (mul-pos f_pos (mul-pos (nest_pos y y_pos j (suc k)) (tip_pos j (suc k))))) in
      ≼_trans (sums k n) (split k n) (f ⊠ ((coef k ⊞ y ⊠ N) ⊞ y ⊠ E)) (split_pos k n) (subst (λ (b : Bool). Side v v_pos v_one b (sums k n) (split k n)) e (split_side k n))
      (≼_trans (split k n) m (f ⊠ ((coef k ⊞ y ⊠ N) ⊞ y ⊠ E)) M
      (add_mono (f ⊠ coef k) (f ⊠ coef k) (y ⊠ sums (suc k) n) (y ⊠ (f ⊠ (N ⊞ E))) (le_of_eq refl) (mul_mono y (sums (suc k) n) (f ⊠ (N ⊞ E)) (ups j (suc k) n e)))
      (same_≼ m (f ⊠ ((coef k ⊞ y ⊠ N) ⊞ y ⊠ E)) (without (coef k) N E (coef_pos k) (nest_pos y y_pos j (suc k)) (tip_pos j (suc k)))))

  -- ---- in the spec's terms
  upto_is : (k j : ℕ) → upto k j ≡ suc (k + j)
  upto_is k zero = less k
    where
      less : (k : ℕ) → suc k ≡ suc (k + 0)
      less k = omega arith
  upto_is k (suc j) = upto_is (suc k) j ∙ on k j
    where
      on : (k j : ℕ) → suc (suc k + j) ≡ suc (k + suc j)
      on k j = omega arith

  nest_is : (n : ℕ) → Same (nest y 0 n) (partial y n)
  nest_is zero = unfold nest partial term power coef in refl
  nest_is (suc m) = subst (λ (z : ℕ). Same (nest y 0 (suc m)) (partial y z)) (upto_is 0 m ∙ ap suc (zero-add m)) (nest_all y y_pos m)

  tip_term : (j k : ℕ) → Same (tip y k j ⊠ power y k) (term y (k + j))
  unfolding tip term
  tip_term zero k = subst (λ (z : ℕ). Same (coef k ⊠ power y k) (coef z ⊠ power y z)) (none k) refl
    where
      none : (k : ℕ) → k ≡ k + 0
      none k = omega arith
  tip_term (suc j) k =
      subst (λ (z : ℕ). Same (y ⊠ tip y (suc k) j ⊠ power y k) (coef z ⊠ power y z)) (on k j)
      (same_trans (y ⊠ tip y (suc k) j ⊠ power y k) (tip y (suc k) j ⊠ power y (suc k)) (term y (suc k + j)) (mul-pos (tip_pos j (suc k)) (power_pos y y_pos (suc k)))
      (unfold power in turn (tip y (suc k) j).num (tip y (suc k) j).den (power y k).num (power y k).den pp (pp + qq))
      (tip_term j (suc k)))
    where
      on : (k j : ℕ) → suc k + j ≡ k + suc j
      on k j = omega arith

      turn : (a b c d s g : ℕ) → s * a * c * (b * (d * g)) ≡ a * (c * s) * (g * b * d)
      turn a b c d s g = omega arith

  tip_is : (n : ℕ) → Same (tip y 0 n) (term y n)
  tip_is n = subst (λ (z : ℕ). Same (tip y 0 n) (term y z)) (zero-add n)
      (same_trans (tip y 0 n) (tip y 0 n ⊠ power y 0) (term y (0 + n)) (mul-pos (tip_pos n 0) (power_pos y y_pos 0)) (unfold power in one (tip y 0 n).num (tip y 0 n).den) (tip_term n 0))
    where
      one : (a b : ℕ) → a * (b * 1) ≡ a * 1 * b
      one a b = omega arith

  sums_is : (a n : ℕ) → alt v v_pos v_one 0 a n ≡ alternate v a n
  unfolding alt alternate weight
  sums_is a zero = refl
  sums_is a (suc n) = ap (λ (z : Frac). (1 over (2 * a + 1)) ⊟ v ⊠ z) (sums_is (suc a) n)

  front : (a b : ℕ) → p * (qq * a) * ((pp + qq) * b) ≡ p * q * a * (q * ((pp + qq) * b))
  front a b = go pp
    where
      go : (P : ℕ) → p * (q * q * a) * ((P + q * q) * b) ≡ p * q * a * (q * ((P + q * q) * b))
      go P = omega arith

  ahead : (G : Frac) → Same ((p over q) ⊠ (f ⊠ G)) (((p * q) over (pp + qq)) ⊠ G)
  ahead G = front G.num G.den

  -- each of Euler's lower ends is at most each even sum of Gregory's, and each uneven sum of his is at most each of Euler's upper ends
  pub lower_agrees : (n N : ℕ) → uneven N ≡ false → (slope p q).low n ≼ gregory p q N
  unfolding slope gregory sums
  lower_agrees n N e =
      let F = (p * q) over (pp + qq) in
      let x = p over q in
      let M : Pos (F ⊠ nest y 0 n) = mul-pos y_pos (nest_pos y y_pos n 0) in
      let K : Pos (x ⊠ (f ⊠ nest y 0 n)) = mul-pos Q (mul-pos y_pos (nest_pos y y_pos n 0)) in
      subst (λ (z : Frac). F ⊠ partial y n ≼ x ⊠ z) (sums_is 0 N)
      (≼_trans (F ⊠ partial y n) (F ⊠ nest y 0 n) (x ⊠ sums 0 N) M (≼-same (F ⊠ nest y 0 n) (F ⊠ partial y n) (mul_same F (nest y 0 n) (partial y n) (nest_is n)))
      (≼_trans (F ⊠ nest y 0 n) (x ⊠ (f ⊠ nest y 0 n)) (x ⊠ sums 0 N) K (≼-same (x ⊠ (f ⊠ nest y 0 n)) (F ⊠ nest y 0 n) (ahead (nest y 0 n)))
      (mul_mono x (f ⊠ nest y 0 n) (sums 0 N) (lows n 0 N e))))

  pub upper_agrees : (n N : ℕ) → uneven N ≡ true → gregory p q N ≼ (slope p q).high n
  unfolding slope gregory sums
  upper_agrees n N e =
      let F = (p * q) over (pp + qq) in
      let x = p over q in
      let G = nest y 0 n ⊞ tip y 0 n in
      let g : Pos G = mul-pos (nest_pos y y_pos n 0) (tip_pos n 0) in
      subst (λ (z : Frac). x ⊠ z ≼ F ⊠ (partial y n ⊞ term y n)) (sums_is 0 N)
      (≼_trans (x ⊠ sums 0 N) (x ⊠ (f ⊠ G)) (F ⊠ (partial y n ⊞ term y n)) (mul-pos Q (mul-pos y_pos g)) (mul_mono x (sums 0 N) (f ⊠ G) (ups n 0 N e))
      (≼_trans (x ⊠ (f ⊠ G)) (F ⊠ G) (F ⊠ (partial y n ⊞ term y n)) (mul-pos y_pos g) (same_≼ (x ⊠ (f ⊠ G)) (F ⊠ G) (ahead G))
      (same_≼ (F ⊠ G) (F ⊠ (partial y n ⊞ term y n)) (mul_same F G (partial y n ⊞ term y n) (add_same (nest y 0 n) (partial y n) (tip y 0 n) (term y n) (nest_is n) (tip_is n))))))
