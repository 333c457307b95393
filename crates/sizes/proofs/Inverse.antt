-- 1 over the root of a sum, times a value whose square is a part of that sum, is at most 2, whatever was rounded on the way, underflow too. Assumes nothing.
use mathlib.Core.Path.{◌≡◌, refl, sym, ap, ◌∙◌, subst}
use mathlib.Core.Bool.{Bool, true, false, ◌&&◌}
use mathlib.Core.Logic.{◌⊎◌, inl, inr}
use Prim.Native.Nat.{ℕ, zero, suc, ◌+◌, ◌-◌, ◌*◌, ◌/◌, ◌%◌, ◌^◌, ◌≤◌, ◌<◌}
use native.Mathlib.Nat.{mul-pos, zero-lt-suc, mul-le-mul, mul-le-mul_right, le_of_mul-le-mul_right, lt_of_mul-lt-mul_right, lt_of_lt_of_le, lt_of_le_of_lt, le_trans, le_of_eq}
use native.Mathlib.Nat.{zero-mul, mul-one, one-mul, mul_assoc, mul-div_cancel, add-sub_of_le, add_comm, lt_irrefl, lt_of_not-le, pow-suc}
use native.Mathlib.Omega.{arith}
use lib.IntN.{ℤ, pos, negsuc}
use lib.Dec.{T, ltb, leb, eqb, leb→le, lit<, lit≤}
use lib.Pow.{pow-add, pow_pos, pow-lt, pow_mono}
use lib.Ieee.{Float, nan, inf, fin, binary64, of_bits, up, down, size, round, fits, mul, div, eq}
use lib.Ieee.Fits.{down_pos, up_pos, and_l, and_r, round-fits}
use lib.Ieee.Exact.{HasValue, round_exact}
use lib.Ieee.Digits.{size-lt, size_reaches, size-le}
use Rattle.numbers.specs.F64 as F
use Rattle.numbers.proofs.Rounds.{is_true}
use Rattle.root.specs.Root.{root_of, in_units, NearestRoot, Nearer}
use Rattle.root.proofs.Units.{in_units_lem, exponent_le}
use Rattle.root.proofs.Nearest.{root_is}
use Rattle.fractions.proofs.Ops.{div_is}
use Rattle.fractions.specs.Frac.{magnitude}
use Rattle.fractions.proofs.Round.{Plus}
use Rattle.fractions.proofs.Sizes.{Fin, AtLeast, Under, Size, le_by, round_plain, round_under, power_value}

-- ---- a value that fits is a whole number of units
exactly : (x y q : ℕ) → 0 < y → x ≡ q * y → x ≡ x / y * y
exactly x y q Y h = h ∙ ap (λ (z : ℕ). z * y) (sym (mul-div_cancel q Y)) ∙ ap (λ (z : ℕ). z / y * y) (sym h)

lowest_exponent : (m : ℕ) (e : ℤ) → T (fits binary64 (fin false (suc m) e)) → down e ≤ 2 ^ 1074
unfolding fits
lowest_exponent m e t =
    let a = eqb (suc m % 2) 1 in
    let b = ltb (suc m) 9007199254740992 in
    let c = leb (down e) (2 ^ 1074) in
    let d = ltb (suc m * up e) (2 ^ 1024 * down e) in
    leb→le (down e) (2 ^ 1074) (and_r (a && b) c (and_l (a && b && c) d t))

pub units_of : (m : ℕ) (e : ℤ) → T (fits binary64 (fin false (suc m) e)) → suc m * up e * 2 ^ 1074 ≡ in_units (fin false (suc m) e) * down e
units_of m (pos k) t = exactly (suc m * 2 ^ k * 2 ^ 1074) 1 (suc m * 2 ^ k * 2 ^ 1074) (zero-lt-suc 0) (sym (mul-one (suc m * 2 ^ k * 2 ^ 1074)))
units_of m (negsuc k) t =
    let h : suc k ≤ 1074 = exponent_le (suc k) 1074 (lowest_exponent m (negsuc k) t) in
    exactly (suc m * 1 * 2 ^ 1074) (2 ^ suc k) (suc m * 2 ^ (1074 - suc k)) (pow_pos (suc k))
    (ap (λ (z : ℕ). z * 2 ^ 1074) (mul-one (suc m))
    ∙ ap (λ (z : ℕ). suc m * 2 ^ z) (sym (add-sub_of_le h) ∙ add_comm (suc k) (1074 - suc k))
    ∙ ap (λ (z : ℕ). suc m * z) (pow-add 2 (1074 - suc k) (suc k))
    ∙ sym (mul_assoc (suc m) (2 ^ (1074 - suc k)) (2 ^ suc k)))

-- ---- 2 ^ i units as a value that fits
pub record Power (i : ℕ) : Type 0 where
  pub m : ℕ
  pub e : ℤ
  pub held : T (fits binary64 (fin false m e))
  pub is : in_units (fin false m e) ≡ 2 ^ i

pub power : (i : ℕ) → i < 2098 → Power i
power i h = go (round binary64 false (2 ^ i) (2 ^ 1074)) (power_value i h) (round-fits binary64 false (2 ^ i) (2 ^ 1074))
  where
    go : (x : Float) → HasValue x false (2 ^ i) (2 ^ 1074) → T (fits binary64 x) → Power i
    go nan v t = absurd v
    go (inf s) v t = absurd v
    go (fin true m e) v t = absurd (subst T v.0 tt)
    go (fin false m e) v t = record { m = m; e = e; held = t; is = in_units_lem (fin false m e) false (2 ^ i) v }

-- ---- what the root of N units says of its R units, for 2 ^ k ≤ R < 2 ^ (k + 1)
record Placed (N R : ℕ) : Type 0 where
  k : ℕ
  least : 2 ^ k ≤ R
  under : R < 2 ^ suc k
  most : N * 2 ^ 1074 < 2 ^ suc k * 2 ^ suc k
  large : 1074 < suc k + suc k
  small : suc k ≤ 1101

squared : (a p M : ℕ) → a < p → 4 * M < (a + p) * (a + p) → M < p * p
squared a p M h k =
    let l : (a + p) * (a + p) ≤ (p + p) * (p + p) = mul-le-mul (omega arith) (omega arith) in
    lt_of_mul-lt-mul_right 4 (omega arith)

far : (a y M : ℕ) → y < a → (a + y) * (a + y) < 4 * M → y * y < M
far a y M h k =
    let l : (y + y) * (y + y) ≤ (a + y) * (a + y) = mul-le-mul (omega arith) (omega arith) in
    lt_of_mul-lt-mul_right 4 (omega arith)

under_far : (N R : ℕ) → N ≤ 2 ^ 1096 → Nearer N R (2 ^ 1085) → R ≤ 2 ^ 1085
under_far N R h w = le_by R (2 ^ 1085) (λ (g : 2 ^ 1085 < R). clash (far R (2 ^ 1085) (N * 2 ^ 1074) g (w.over g)))
  where
    clash : 2 ^ 1085 * 2 ^ 1085 < N * 2 ^ 1074 → ⊥
    clash k = lt_irrefl (2 ^ 2170) (lt_of_lt_of_le (lt_of_le_of_lt (le_of_eq (pow-add 2 1085 1085)) k) (le_trans (mul-le-mul_right (2 ^ 1074) h) (le_of_eq (sym (pow-add 2 1096 1074)))))

wide : (N K : ℕ) → 0 < N → N * 2 ^ 1074 < 2 ^ K * 2 ^ K → 1074 < K + K
wide N K P m = lt_of_not-le (λ (g : K + K ≤ 1074). lt_irrefl (2 ^ 1074)
    (lt_of_le_of_lt (le_trans (le_of_eq (sym (one-mul (2 ^ 1074)))) (mul-le-mul_right (2 ^ 1074) P)) (lt_of_lt_of_le m (le_trans (le_of_eq (sym (pow-add 2 K K))) (pow_mono g)))))

place : (N R : ℕ) → 0 < N → 0 < R → R ≤ 2 ^ 1085 → ((i : ℕ) → i < 2098 → Nearer N R (2 ^ i)) → Placed N R
place N R P Q h w = go (size R) (size-lt R) (size_reaches R) (size-le R 1101 (lt_of_le_of_lt h (pow-lt {i = 1085} {j = 1101} (lit< tt))))
  where
    go : (K : ℕ) → R < 2 ^ K → ((j : ℕ) → j < K → 2 ^ j ≤ R) → K ≤ 1101 → Placed N R
    go zero a b c = absurd (omega (arith, a))
    go (suc k) a b c =
        let s : suc k < 2098 = omega arith in
        let m : N * 2 ^ 1074 < 2 ^ suc k * 2 ^ suc k = squared R (2 ^ suc k) (N * 2 ^ 1074) a ((w (suc k) s).under a) in
        record { k = k; least = b k (omega arith); under = a; most = m; large = wide N (suc k) P m; small = c }

-- ---- a component whose square is a part of the sum S: at most 2 ^ K units, and its quotient at most 2
-- U is 2 ^ 1074, p is 2 ^ K, and W * U is p * p
bounded : (an ad p U W : ℕ) → 0 < U → W * U ≡ p * p → p * ad < an * U → W * (ad * ad) ≤ an * an * U
bounded an ad p U W P e h =
    let l : p * ad * (p * ad) ≤ an * U * (an * U) = mul-le-mul (omega arith) (omega arith) in
    le_of_mul-le-mul_right {k = U} (omega (arith, ap (λ (z : ℕ). z * (ad * ad)) e)) P

mul_two : (x y : Float) → Fin x → Fin y → (magnitude x).num * (magnitude y).num ≤ 2 * ((magnitude x).den * (magnitude y).den) → Size (mul binary64 x y) 2
unfolding mul
mul_two nan y f g h = absurd f
mul_two (inf s) y f g h = absurd f
mul_two (fin s m e) nan f g h = absurd g
mul_two (fin s m e) (inf t) f g h = absurd g
mul_two (fin s m e) (fin t n d) f g h = round_under _ (m * up e * (n * up d)) (down e * down d) 2 1 (mul-pos (down_pos e) (down_pos d)) (zero-lt-suc 0) (lib.Ieee.Back.round_whole binary64 false 2 (lit≤ tt)) (omega (arith, h))

-- 1 over n, where n is at least 2 ^ k units
inverse : (m : ℕ) (e : ℤ) (R k : ℕ) → suc m * up e * 2 ^ 1074 ≡ R * down e → 2 ^ k ≤ R → 50 < k → k ≤ 2098
    → Under (div binary64 F.one (fin false (suc m) e)) (2 ^ 1074) (2 ^ k) × Plus (div binary64 F.one (fin false (suc m) e))
unfolding of_bits
inverse m e R k u l a b =
    subst (λ (z : Float). Under z (2 ^ 1074) (2 ^ k) × Plus z) (sym (div_is F.one (fin false (suc m) e) tt tt (mul-pos (zero-lt-suc m) (up_pos e))))
    (round_plain (1 * 1 * down e) (suc m * up e * 1) (2 ^ 1074) (2 ^ k) (at_one (suc m * up e) (mul-pos (zero-lt-suc m) (up_pos e))) (pow_pos k) value (at (suc m * up e) (down e) (2 ^ 1074) (2 ^ k) l u))
  where
    at_one : (x : ℕ) → 0 < x → 0 < x * 1
    at_one x h = omega arith

    at : (x d U p : ℕ) → p ≤ R → x * U ≡ R * d → 1 * 1 * d * p ≤ U * (x * 1)
    at x d U p h k = omega (arith, mul-le-mul_right d h)

    back : (k : ℕ) → k ≤ 2098 → 2148 - k + k ≡ 2148
    back k h = omega arith

    value : HasValue (round binary64 false (2 ^ 1074) (2 ^ k)) false (2 ^ 1074) (2 ^ k)
    value = round_exact binary64 false (2 ^ 1074) (2 ^ k) 1 (2148 - k) (pow_pos k) (lit< tt)
        (subst (λ (z : ℕ). z < 2 ^ 2098) (sym (one-mul (2 ^ (2148 - k)))) (pow-lt {i = 2148 - k} {j = 2098} (omega arith)))
        (sym (pow-add 2 1074 1074) ∙ ap (λ (z : ℕ). 2 ^ z) (sym (back k b)) ∙ pow-add 2 (2148 - k) k ∙ ap (λ (z : ℕ). z * 2 ^ k) (sym (one-mul (2 ^ (2148 - k)))))

cancelled : (qn qd an ad p U : ℕ) → 0 < p → 0 < U → qn * p ≤ U * qd → an * U ≤ p * 2 * ad → qn * an ≤ 2 * (qd * ad)
cancelled qn qd an ad p U P Q h k = le_of_mul-le-mul_right {k = p * U} (omega (arith, mul-le-mul h k)) (mul-pos P Q)

eq_zero : (e : ℤ) → eq (fin false 0 e) F.zero ≡ true
unfolding eq of_bits
eq_zero e = is_true (eqb (0 * up e * 1) (0 * 1 * down e) && true) (flat (0 * up e * 1) (0 * 1 * down e) (nought (up e)) (nought' (down e)))
  where
    nought : (u : ℕ) → 0 * u * 1 ≡ 0
    nought u = omega (arith, zero-mul u)

    nought' : (u : ℕ) → 0 * 1 * u ≡ 0
    nought' u = zero-mul u

    flat : (x y : ℕ) → x ≡ 0 → y ≡ 0 → T (eqb x y && true)
    flat x y h k = subst (λ (z : ℕ). T (eqb z y && true)) (sym h) (subst (λ (z : ℕ). T (eqb 0 z && true)) (sym k) tt)

-- every square above 2 ^ i units is a part of S
abbrev pub Part : Float → Float → Type 0
Part a S = (i : ℕ) → i < 2098 → 2 ^ i * ((magnitude a).den * (magnitude a).den) ≤ (magnitude a).num * (magnitude a).num * 2 ^ 1074 → AtLeast (2 ^ i) S

-- the root n of a sum S that is not 0: n is R units, 2 ^ k ≤ R < 2 ^ (k + 1), and no part of S is above 2 ^ (k + 1) units
pub record Rooting (S : Float) : Type 0 where
  pub m : ℕ
  pub e : ℤ
  pub is : root_of S ≡ fin false (suc m) e
  pub R : ℕ
  pub units : suc m * up e * 2 ^ 1074 ≡ R * down e
  pub k : ℕ
  pub least : 2 ^ k ≤ R
  pub most : R < 2 ^ suc k
  pub large : 537 ≤ k
  pub few : k ≤ 1100
  pub bound : R ≤ 2 ^ 1085
  pub reach : (a : Float) → Part a S → (magnitude a).num * 2 ^ 1074 ≤ 2 ^ k * 2 * (magnitude a).den

rooting_at : (m : ℕ) (e : ℤ) → T (fits binary64 (fin false (suc m) e)) → Size (fin false (suc m) e) 4194304
    → (m' : ℕ) (e' : ℤ) → T (fits binary64 (fin false (suc m') e')) → root_of (fin false (suc m) e) ≡ fin false (suc m') e' → NearestRoot (in_units (fin false (suc m) e)) (fin false (suc m') e') → Rooting (fin false (suc m) e)
rooting_at m e t b m' e' t' q r = record {
  m = m';
  e = e';
  is = q;
  R = R;
  units = u_r;
  k = pl.k;
  least = pl.least;
  most = pl.under;
  large = omega (arith, pl.large);
  few = omega (arith, pl.small);
  bound = far_off;
  reach = reach;
}
  where
    U : ℕ
    U = 2 ^ 1074

    N : ℕ
    N = in_units (fin false (suc m) e)

    R : ℕ
    R = in_units (fin false (suc m') e')

    u_n : suc m * up e * 2 ^ 1074 ≡ N * down e
    u_n = units_of m e t

    u_r : suc m' * up e' * 2 ^ 1074 ≡ R * down e'
    u_r = units_of m' e' t'

    above : (x y n d : ℕ) → 0 < x → 0 < y → x * y ≡ n * d → 0 < n
    above x y zero d X Y h = absurd (omega (arith, mul-pos X Y, zero-mul d))
    above x y (suc n) d X Y h = zero-lt-suc n

    near : (i : ℕ) → i < 2098 → Nearer N R (2 ^ i)
    near i h = let p = power i h in subst (λ (z : ℕ). Nearer N R z) p.is (r.nearest p.m p.e p.held)

    few : N ≤ 2 ^ 1096
    few = le_trans (at N (suc m * up e) (down e) (2 ^ 1074) (down_pos e) b.small u_n) (le_of_eq (sym (pow-add 2 22 1074)))
      where
        at : (n x d u : ℕ) → 0 < d → x * 1 ≤ 4194304 * d → x * u ≡ n * d → n ≤ 4194304 * u
        at n x d u D h k = le_of_mul-le-mul_right {k = d} (omega (arith, mul-le-mul_right u h)) D

    far_off : R ≤ 2 ^ 1085
    far_off = under_far N R few (near 1085 (lit< tt))

    pl : Placed N R
    pl = place N R (above (suc m * up e) (2 ^ 1074) N (down e) (mul-pos (zero-lt-suc m) (up_pos e)) (pow_pos 1074) u_n) (above (suc m' * up e') (2 ^ 1074) R (down e') (mul-pos (zero-lt-suc m') (up_pos e')) (pow_pos 1074) u_r)
        far_off near

    K : ℕ
    K = suc pl.k

    i : ℕ
    i = K + K - 1074

    powers : 2 ^ i * 2 ^ 1074 ≡ 2 ^ K * 2 ^ K
    powers = sym (pow-add 2 i 1074) ∙ ap (λ (z : ℕ). 2 ^ z) (back (K + K) pl.large) ∙ pow-add 2 K K
      where
        back : (x : ℕ) → 1074 < x → x - 1074 + 1074 ≡ x
        back x h = omega arith

    clash : (W p n d x : ℕ) → 0 < d → W * U ≡ p * p → n * U < p * p → x * U ≡ n * d → W * d ≤ x * U → ⊥
    clash W p n d x D a b c h =
        let l : W ≤ n = le_of_mul-le-mul_right {k = d} (le_trans h (le_of_eq c)) D in
        lt_irrefl (W * U) (lt_of_le_of_lt (mul-le-mul_right U l) (lt_of_lt_of_le b (le_of_eq (sym a))))

    reach' : (a : Float) → Part a (fin false (suc m) e) → (magnitude a).num * U ≤ 2 ^ K * (magnitude a).den
    reach' a part = le_by ((magnitude a).num * U) (2 ^ K * (magnitude a).den) (λ (g : 2 ^ K * (magnitude a).den < (magnitude a).num * U).
        clash (2 ^ i) (2 ^ K) N (down e) (suc m * up e) (down_pos e) powers pl.most u_n
        (part i (omega (arith, pl.small)) (bounded (magnitude a).num (magnitude a).den (2 ^ K) U (2 ^ i) (pow_pos 1074) powers g)))

    reach : (a : Float) → Part a (fin false (suc m) e) → (magnitude a).num * U ≤ 2 ^ pl.k * 2 * (magnitude a).den
    reach a part = subst (λ (z : ℕ). (magnitude a).num * U ≤ z * (magnitude a).den) (pow-suc 2 pl.k) (reach' a part)

pub rooting : (S : Float) → Plus S → T (fits binary64 S) → Size S 4194304 → eq (root_of S) F.zero ≡ false → Rooting S
rooting nan p t b z = absurd p
rooting (inf s) p t b z = absurd p
rooting (fin true m e) p t b z = absurd p
rooting (fin false zero e) p t b z = absurd (subst T (sym (ap (λ (w : Float). eq w F.zero) zero_root ∙ eq_zero e) ∙ z) tt)
  where
    zero_root : root_of (fin false zero e) ≡ fin false zero e
    zero_root = unfold root_of in refl
rooting (fin false (suc m) e) p t b z = go w.plus.0 w.plus.1.0 w.plus.1.1
  where
    w : NearestRoot (in_units (fin false (suc m) e)) (root_of (fin false (suc m) e))
    w = root_is (fin false (suc m) e) t

    go : (m' : ℕ) (e' : ℤ) → root_of (fin false (suc m) e) ≡ fin false m' e' → Rooting (fin false (suc m) e)
    go zero e' q = absurd (subst T (sym (ap (λ (v : Float). eq v F.zero) q ∙ eq_zero e') ∙ z) tt)
    go (suc m') e' q = rooting_at m e t b m' e' (subst (λ (v : Float). T (fits binary64 v)) q w.held) q (subst (λ (v : Float). NearestRoot (in_units (fin false (suc m) e)) v) q w)

-- 1 over the root, and its product with a part
pub inverse_under : (S : Float) (r : Rooting S) → Under (div binary64 F.one (root_of S)) (2 ^ 1074) (2 ^ r.k) × Plus (div binary64 F.one (root_of S))
inverse_under S r =
    subst (λ (z : Float). Under (div binary64 F.one z) (2 ^ 1074) (2 ^ r.k) × Plus (div binary64 F.one z)) (sym r.is)
    (inverse r.m r.e r.R r.k r.units r.least (omega (arith, r.large)) (omega (arith, r.few)))

pub at_most_two : (S : Float) (r : Rooting S) (a : Float) → Part a S
    → (magnitude (div binary64 F.one (root_of S))).num * (magnitude a).num ≤ 2 * ((magnitude (div binary64 F.one (root_of S))).den * (magnitude a).den)
at_most_two S r a part =
    let q = div binary64 F.one (root_of S) in
    cancelled (magnitude q).num (magnitude q).den (magnitude a).num (magnitude a).den (2 ^ r.k) (2 ^ 1074) (pow_pos r.k) (pow_pos 1074) (inverse_under S r).0.small (r.reach a part)

pub quotient : (S : Float) (r : Rooting S) (a : Float) → Fin a → Part a S → Size (mul binary64 (div binary64 F.one (root_of S)) a) 2
quotient S r a f part = mul_two (div binary64 F.one (root_of S)) a (inverse_under S r).0.finite f (at_most_two S r a part)

-- the factors exchanged
pub quotient_of : (S : Float) (r : Rooting S) (a : Float) → Fin a → Part a S → Size (mul binary64 a (div binary64 F.one (root_of S))) 2
quotient_of S r a f part =
    let q = div binary64 F.one (root_of S) in
    mul_two a q f (inverse_under S r).0.finite (turned (magnitude q).num (magnitude q).den (magnitude a).num (magnitude a).den (at_most_two S r a part))
  where
    turned : (qn qd an ad : ℕ) → qn * an ≤ 2 * (qd * ad) → an * qn ≤ 2 * (ad * qd)
    turned qn qd an ad h = omega arith

-- ---- the root itself, of a finite value: a NaN below 0, else at most 2048
pub rooted_size : (S : Float) (r : Rooting S) → Size (root_of S) 2048
rooted_size S r = subst (λ (z : Float). Size z 2048) (sym r.is) (record { finite = tt; small = at (suc r.m * up r.e) (down r.e) (2 ^ 1074) r.R (pow_pos 1074) r.units below })
  where
    below : r.R ≤ 2048 * 2 ^ 1074
    below = le_trans r.bound (le_of_eq (pow-add 2 11 1074))

    at : (x d U R : ℕ) → 0 < U → x * U ≡ R * d → R ≤ 2048 * U → x * 1 ≤ 2048 * d
    at x d U R P u b = le_of_mul-le-mul_right {k = U} (omega (arith, mul-le-mul_right d b)) P

none_size : (s : Bool) (e : ℤ) (b : ℕ) → Size (fin s zero e) b
none_size s e b = record { finite = tt; small = omega (arith, zero-mul (up e)) }

pub root_size : (S : Float) → T (fits binary64 S) → Size S 4194304 → (root_of S ≡ nan) ⊎ Size (root_of S) 2048
root_size nan t b = absurd b.finite
root_size (inf s) t b = absurd b.finite
root_size (fin s zero e) t b = unfold root_of in inr (none_size s e 2048)
root_size (fin true (suc m) e) t b = unfold root_of in inl refl
root_size (fin false (suc m) e) t b = inr (go w.plus.0 w.plus.1.0 w.plus.1.1)
  where
    w : NearestRoot (in_units (fin false (suc m) e)) (root_of (fin false (suc m) e))
    w = root_is (fin false (suc m) e) t

    go : (m' : ℕ) (e' : ℤ) → root_of (fin false (suc m) e) ≡ fin false m' e' → Size (root_of (fin false (suc m) e)) 2048
    go zero e' q = subst (λ (z : Float). Size z 2048) (sym q) (none_size false e' 2048)
    go (suc m') e' q = rooted_size (fin false (suc m) e)
        (rooting_at m e t b m' e' (subst (λ (v : Float). T (fits binary64 v)) q w.held) q (subst (λ (v : Float). NearestRoot (in_units (fin false (suc m) e)) v) q w))
