-- The sign of a product with a vector, before and after it is brought to unit length: beyond a limit before, it is beyond a lower one after. Assumes nothing.
use mathlib.Core.Path.{◌≡◌, refl, sym, ap, ◌∙◌, subst}
use mathlib.Core.Bool.{Bool, true, false, not, ◌&&◌}
use mathlib.Core.Logic.{◌⊎◌, inl, inr}
use Prim.Native.Nat.{ℕ, zero, suc, ◌+◌, ◌-◌, ◌*◌, ◌/◌, ◌^◌, ◌≤◌, ◌<◌}
use native.Mathlib.Nat.{mul-pos, zero-lt-suc, mul-le-mul, mul-le-mul_left, mul-le-mul_right, le_of_mul-le-mul_right, le_trans, le_of_eq}
use native.Mathlib.Nat.{zero-mul, mul-zero, zero-div, pow-suc, lt_of_le_of_lt, lt_irrefl, lt_of_lt_of_le, lt_of_mul-lt-mul_right}
use native.Mathlib.Omega.{arith}
use lib.IntN.{ℤ}
use lib.Dec.{T, ltb→lt, nltb→le, eqb, eqb→eq, lit<, lit≤}
use lib.Pow.{pow-add, pow_pos, pow_mono}
use lib.Ieee.{Float, nan, inf, fin, binary64, of_bits, up, down, round, fits, neg, mul, div, lt, eq}
use lib.Ieee.Fits.{down_pos, up_pos, add-fits, and_l}
use Rattle.numbers.specs.F64 as F
use Rattle.std.specs.Prelude.{if◌then◌else◌}
use Rattle.root.specs.Root.{root_of, in_units, NearestRoot, Nearer}
use Rattle.root.proofs.Nearest.{root_is}
use Rattle.vec3.specs.declared.Vec3.{Vec3}
use Rattle.vec3.specs.Vec.{origin, dot, unit_vec}
use Rattle.fractions.specs.Frac.{Frac, ◌over◌, ◌⊠◌, magnitude}
use Rattle.fractions.proofs.Frac.{Le, Pos, le_grow, le_add, le_mul, mul_le}
use Rattle.fractions.proofs.Frac as Fr
use Rattle.fractions.proofs.Round.{Plus, Near, round_near_at}
use Rattle.fractions.proofs.Ops.{den_pos, div_is}
use Rattle.fractions.proofs.Sizes.{Fin, Size, size_grow, le_by}
use Rattle.exact_angles.specs.Steady.{Signed, Fractions, ◌⊹◌, none}
use Rattle.exact_angles.proofs.Signs.{SLe, fractions_add, s_trans, s_add, s_grow}
use Rattle.exact_angles.proofs.Adds.{signed_of, signed_pos, SNear, SSame, snear_same}
use Rattle.sizes.proofs.Inverse.{Rooting, inverse_under, at_most_two, quotient, Part, power, units_of}
use Rattle.sizes.proofs.Unit.{Sized, zero_size, dot_size, square_plus, parts, vec_sized, rooting_of}
use Rattle.sure_sides.specs.Sure.{limit, margin, wide}
use Rattle.sure_sides.proofs.Scales.{le_split, zero_near, none_pos, nothing_added, scale, scale_pos, s_scale, scale_out, scale_in, Both, product_both, times, times_pos, minus, mul_signed, snear_add, dot3, dot_signed}

-- ---- a sum that is at most 4096 has a root that is at most 64
root_small : (S : Float) → T (fits binary64 S) → Size S 4096 → Rooting S → (magnitude (root_of S)).num ≤ 64 * (magnitude (root_of S)).den
root_small nan t s r = absurd s.finite
root_small (inf u) t s r = absurd s.finite
root_small (fin u zero e) t s r = subst (λ (z : Float). (magnitude z).num ≤ 64 * (magnitude z).den) (sym zero_root) (nought (up e) (down e))
  where
    zero_root : root_of (fin u zero e) ≡ fin u zero e
    zero_root = unfold root_of in refl

    nought : (a d : ℕ) → 0 * a ≤ 64 * d
    nought a d = omega (arith, zero-mul a)
root_small (fin true (suc m) e) t s r = absurd (none_there (sym none_is ∙ r.is))
  where
    none_is : root_of (fin true (suc m) e) ≡ nan
    none_is = unfold root_of in refl

    none_there : nan ≡ fin false (suc r.m) r.e → ⊥
    none_there h = subst Fin (sym h) tt
root_small (fin false (suc m) e) t s r = subst (λ (z : Float). (magnitude z).num ≤ 64 * (magnitude z).den) (sym r.is) (at (suc r.m * up r.e) (down r.e) (in_units (root_of S)) (pow_pos 1074) units below)
  where
    S : Float
    S = fin false (suc m) e

    w : NearestRoot (in_units S) (root_of S)
    w = root_is S t

    N : ℕ
    N = in_units S

    units : suc r.m * up r.e * 2 ^ 1074 ≡ in_units (root_of S) * down r.e
    units = subst (λ (z : Float). suc r.m * up r.e * 2 ^ 1074 ≡ in_units z * down r.e) (sym r.is) (units_of r.m r.e (subst (λ (z : Float). T (fits binary64 z)) r.is w.held))

    few : N ≤ 2 ^ 1086
    few = le_trans (by N (suc m * up e) (down e) (2 ^ 1074) (down_pos e) s.small (units_of m e t)) (le_of_eq (sym (pow-add 2 12 1074)))
      where
        by : (n x d u : ℕ) → 0 < d → x * 1 ≤ 4096 * d → x * u ≡ n * d → n ≤ 4096 * u
        by n x d u D h k = le_of_mul-le-mul_right {k = d} (omega (arith, mul-le-mul_right u h)) D

    far : (a y M : ℕ) → y < a → (a + y) * (a + y) < 4 * M → y * y < M
    far a y M h k =
        let l : (y + y) * (y + y) ≤ (a + y) * (a + y) = mul-le-mul (omega arith) (omega arith) in
        lt_of_mul-lt-mul_right 4 (omega arith)

    clash : 2 ^ 1080 * 2 ^ 1080 < N * 2 ^ 1074 → ⊥
    clash k = lt_irrefl (2 ^ 2160) (lt_of_lt_of_le (lt_of_le_of_lt (le_of_eq (pow-add 2 1080 1080)) k) (le_trans (mul-le-mul_right (2 ^ 1074) few) (le_of_eq (sym (pow-add 2 1086 1074)))))

    next : Nearer N (in_units (root_of S)) (2 ^ 1080)
    next = let p = power 1080 (lit< tt) in subst (λ (z : ℕ). Nearer N (in_units (root_of S)) z) p.is (w.nearest p.m p.e p.held)

    below : in_units (root_of S) ≤ 64 * 2 ^ 1074
    below = le_trans (le_by (in_units (root_of S)) (2 ^ 1080) (λ (g : 2 ^ 1080 < in_units (root_of S)). clash (far (in_units (root_of S)) (2 ^ 1080) (N * 2 ^ 1074) g (next.over g)))) (le_of_eq (pow-add 2 6 1074))

    at : (x d R : ℕ) → 0 < 2 ^ 1074 → x * 2 ^ 1074 ≡ R * d → R ≤ 64 * 2 ^ 1074 → x ≤ 64 * d
    at x d R P h l = go x d R (2 ^ 1074) P h l
      where
        go : (x d R U : ℕ) → 0 < U → x * U ≡ R * d → R ≤ 64 * U → x ≤ 64 * d
        go x d R U P h l = le_of_mul-le-mul_right {k = U} (omega (arith, mul-le-mul_right d l)) P

-- ---- the root times its inverse is within 64 units of 1
abbrev near_one : Frac → Type 0
near_one x = Le x (1 over 1) 64 × Le (1 over 1) x 64

-- q is within g of d / n, and g * n / d is at most 64
by_one : (n d : ℕ) (q : Frac) (g : ℕ) → 0 < n → 0 < d → Le q (d over n) g → Le (d over n) q g → g * n ≤ 64 * d → near_one ((n over d) ⊠ q)
by_one n d q g N D h k l =
    let c = n over d in
    let a : Le (c ⊠ q) (c ⊠ (d over n)) 64 = mul_le q (d over n) c g 64 h l in
    let b : Le (c ⊠ (d over n)) (c ⊠ q) 64 = mul_le (d over n) q c g 64 k l in (
      le_grow (c ⊠ q) (1 over 1) (64 + 0) 64 (omega arith) (Fr.le_trans (c ⊠ q) (c ⊠ (d over n)) (1 over 1) 64 0 (mul-pos D N) a (one_up n d)),
      le_grow (1 over 1) (c ⊠ q) (0 + 64) 64 (omega arith) (Fr.le_trans (1 over 1) (c ⊠ (d over n)) (c ⊠ q) 0 64 (mul-pos D N) (one_down n d) b),
    )
  where
    one_up : (n d : ℕ) → Le ((n over d) ⊠ (d over n)) (1 over 1) 0
    one_up n d = omega arith

    one_down : (n d : ℕ) → Le (1 over 1) ((n over d) ⊠ (d over n)) 0
    one_down n d = omega arith

-- n is x / d with x * U = R * d, and 2 ^ k ≤ R < 2 ^ (k + 1)
cut : (x d R p U : ℕ) → 0 < U → p ≤ R → x * U ≡ R * d → U ≤ p → d ≤ x
cut x d R p U P l e h = le_of_mul-le-mul_right {k = U} (omega (arith, mul-le-mul_right d l, mul-le-mul_right d h)) P

cut_at_lem : (x d R p w U : ℕ) → 0 < p → p ≤ R → x * U ≡ R * d → p * w ≡ U → d ≤ w * x
cut_at_lem x d R p w U P l e h = le_of_mul-le-mul_right {k = p} (omega (arith, mul-le-mul_right d l, ap (λ (z : ℕ). x * z) h)) P

bounded_at : (x d R p w U : ℕ) → 0 < U → R < 2 * p → x * U ≡ R * d → p * w ≡ U → w * x ≤ 64 * d
bounded_at x d R p w U P l e h =
    le_of_mul-le-mul_right {k = U}
    (let a : R * (w * d) ≤ 2 * p * (w * d) = mul-le-mul_right (w * d) (omega arith) in
    let b : x * U * w ≡ R * d * w = ap (λ (z : ℕ). z * w) e in
    let c : p * w * (2 * d) ≡ U * (2 * d) = ap (λ (z : ℕ). z * (2 * d)) h in
    omega arith) P

inverse_near : (S : Float) (r : Rooting S) → (magnitude (root_of S)).num ≤ 64 * (magnitude (root_of S)).den → near_one (magnitude (root_of S) ⊠ magnitude (div binary64 F.one (root_of S)))
inverse_near S r few = subst (λ (z : Float). near_one (magnitude z ⊠ magnitude (div binary64 F.one z))) (sym r.is) (at r.m r.e r.units (subst (λ (z : Float). (magnitude z).num ≤ 64 * (magnitude z).den) r.is few))
  where
    quotient_is : (m : ℕ) (e : ℤ) → div binary64 F.one (fin false (suc m) e) ≡ round binary64 false (1 * 1 * down e) (suc m * up e * 1)
    quotient_is m e = unfold of_bits in div_is F.one (fin false (suc m) e) tt tt (mul-pos (zero-lt-suc m) (up_pos e))

    at : (m : ℕ) (e : ℤ) → suc m * up e * 2 ^ 1074 ≡ r.R * down e → suc m * up e ≤ 64 * down e → near_one (magnitude (fin false (suc m) e) ⊠ magnitude (div binary64 F.one (fin false (suc m) e)))
    at m e u low = subst (λ (z : Float). near_one ((x over d) ⊠ magnitude z)) (sym (quotient_is m e)) (go (le_split 1074 r.k))
      where
        x : ℕ
        x = suc m * up e

        d : ℕ
        d = down e

        X : 0 < x
        X = mul-pos (zero-lt-suc m) (up_pos e)

        q : Float
        q = round binary64 false (1 * 1 * d) (x * 1)

        plain : (j : ℕ) → Near q ((1 * 1 * d) over (x * 1)) (2 ^ j) → 2 ^ j * x ≤ 64 * d → near_one ((x over d) ⊠ magnitude q)
        plain j n l = by_one x d (magnitude q) (2 ^ j) X (down_pos e) (up_one (magnitude q) d x (2 ^ j) n.above) (down_one (magnitude q) d x (2 ^ j) n.below) l
          where
            up_one : (a : Frac) (d x g : ℕ) → Le a ((1 * 1 * d) over (x * 1)) g → Le a (d over x) g
            up_one a d x g h = omega arith

            down_one : (a : Frac) (d x g : ℕ) → Le ((1 * 1 * d) over (x * 1)) a g → Le (d over x) a g
            down_one a d x g h = omega arith

        go : (1074 ≤ r.k) ⊎ (r.k ≤ 1074) → near_one ((x over d) ⊠ magnitude q)
        go (inl h) = plain 0 (round_near_at (1 * 1 * d) (x * 1) 0 (omega (arith, X)) (omega arith) (one_at x d (cut x d r.R (2 ^ r.k) (2 ^ 1074) (pow_pos 1074) r.least u (pow_mono h)))) (once x d low)
          where
            once : (x d : ℕ) → x ≤ 64 * d → 1 * x ≤ 64 * d
            once x d h = omega arith

            one_at : (x d : ℕ) → d ≤ x → 1 * 1 * d ≤ 1 * (x * 1)
            one_at x d h = omega arith
        go (inr h) =
            plain j (round_near_at (1 * 1 * d) (x * 1) j (omega (arith, X)) (omega (arith, r.large)) (one_at x d (2 ^ j) (cut_at_lem x d r.R (2 ^ r.k) (2 ^ j) (2 ^ 1074) (pow_pos r.k) r.least u powers)))
            (bounded_at x d r.R (2 ^ r.k) (2 ^ j) (2 ^ 1074) (pow_pos 1074) twice u powers)
          where
            j : ℕ
            j = 1074 - r.k

            one_at : (x d w : ℕ) → d ≤ w * x → 1 * 1 * d ≤ w * (x * 1)
            one_at x d w h = omega arith

            whole : (k : ℕ) → k ≤ 1074 → k + (1074 - k) ≡ 1074
            whole k h = omega arith

            powers : 2 ^ r.k * 2 ^ j ≡ 2 ^ 1074
            powers = sym (pow-add 2 r.k j) ∙ ap (λ (z : ℕ). 2 ^ z) (whole r.k h)

            twice : r.R < 2 * 2 ^ r.k
            twice = omega (arith, r.most, pow-suc 2 r.k)

-- ---- a component: the root times that of the unit vector is within 2304 units of the one before
by_first : (Q x : Float) → Plus Q → Fin x → SSame (times Q x) (scale (magnitude Q) (signed_of x))
by_first nan x p f = absurd p
by_first (inf s) x p f = absurd p
by_first (fin true m e) x p f = absurd p
by_first (fin false m e) nan p f = absurd f
by_first (fin false m e) (inf s) p f = absurd f
by_first (fin false m e) (fin false n d) p f = go (m * up e) (down e) (n * up d) (down d)
  where
    go : (a b c d : ℕ) → (c * a * (b * 1) + a * 0 * (d * b)) * (b * d * (d * 1)) ≡ (a * c * (d * 1) + c * 0 * (b * d)) * (d * b * (b * 1))
    go a b c d = omega arith
by_first (fin false m e) (fin true n d) p f = go (m * up e) (down e) (n * up d) (down d)
  where
    go : (a b c d : ℕ) → (c * 0 * (b * d) + a * c * (d * 1)) * (b * 1 * (d * b)) ≡ (a * 0 * (d * b) + c * a * (b * 1)) * (d * 1 * (b * d))
    go a b c d = omega arith

-- q is the inverse of the root, x the component, and the unit vector's is 0.0 + q * x
abbrev stored : Float → Float → Float
stored q x = F.◌⊕◌ F.zero (F.◌⊗◌ q x)

stored_near : (q x : Float) → Plus q → Fin q → Fin x → (magnitude q).num * (magnitude x).num ≤ 2 * ((magnitude q).den * (magnitude x).den) → Size (mul binary64 q x) 2 → SNear (stored q x) (scale (magnitude q) (signed_of x)) 4
stored_near q x p f g h s =
    let a = scale (magnitude q) (signed_of x) in
    let A : Fractions a = scale_pos (magnitude q) (signed_of x) (den_pos q) (signed_pos x) in
    let n : SNear (mul binary64 q x) a 2 = snear_same (mul binary64 q x) (times q x) a 2 (times_pos q x) A (by_first q x p g) (mul_signed q x 1 f g (lit≤ tt) h) in
    snear_same (stored q x) (none ⊹ a) a 4 (fractions_add none a none_pos A) A (nothing_added a) (snear_add F.zero (mul binary64 q x) none a 0 2 0 2 1 none_pos A zero_near n (zero_size 0) s (lit≤ tt) (lit≤ tt))

-- n q is near 1, so n (q x) is near x
associated : (n q x : Frac) → Le (n ⊠ (q ⊠ x)) (n ⊠ q ⊠ x) 0
associated n q x = omega arith

associated' : (n q x : Frac) → Le (n ⊠ q ⊠ x) (n ⊠ (q ⊠ x)) 0
associated' n q x = omega arith

once : (x : Frac) → Le ((1 over 1) ⊠ x) x 0
once x = omega arith

once' : (x : Frac) → Le x ((1 over 1) ⊠ x) 0
once' x = omega arith

back_up : (n q x : Frac) → Pos n → Pos q → Pos x → near_one (n ⊠ q) → x.num ≤ 32 * x.den → Le (n ⊠ (q ⊠ x)) x 2048
back_up n q x N Q X h l =
    le_grow (n ⊠ (q ⊠ x)) x (0 + (2048 + 0)) 2048 (omega arith)
    (Fr.le_trans (n ⊠ (q ⊠ x)) (n ⊠ q ⊠ x) x 0 (2048 + 0) (mul-pos (mul-pos N Q) X) (associated n q x)
    (Fr.le_trans (n ⊠ q ⊠ x) ((1 over 1) ⊠ x) x 2048 0 (mul-pos (zero-lt-suc 0) X) (le_mul (n ⊠ q) (1 over 1) x 64 2048 h.0 (omega arith)) (once x)))

back_down : (n q x : Frac) → Pos n → Pos q → Pos x → near_one (n ⊠ q) → x.num ≤ 32 * x.den → Le x (n ⊠ (q ⊠ x)) 2048
back_down n q x N Q X h l =
    le_grow x (n ⊠ (q ⊠ x)) (0 + 2048 + 0) 2048 (omega arith)
    (Fr.le_trans x (n ⊠ q ⊠ x) (n ⊠ (q ⊠ x)) (0 + 2048) 0 (mul-pos (mul-pos N Q) X)
    (Fr.le_trans x ((1 over 1) ⊠ x) (n ⊠ q ⊠ x) 0 2048 (mul-pos (zero-lt-suc 0) X) (once' x) (le_mul (1 over 1) (n ⊠ q) x 64 2048 h.1 (omega arith))) (associated' n q x))

nought_up : (n q : Frac) → Le (0 over 1) (n ⊠ (q ⊠ (0 over 1))) 0
nought_up n q = omega arith

nought_down : (n q : Frac) → Le (n ⊠ (q ⊠ (0 over 1))) (0 over 1) 0
nought_down n q = go n.num n.den q.num q.den
  where
    go : (a b c d : ℕ) → a * (c * 0) * 1 * 9007199254740992 ≤ 0 * (b * (d * 1)) * 9007199254740992 + 0 * (b * (d * 1) * 1)
    go a b c d = omega arith

undone : (n q : Frac) (x : Float) → Fin x → Pos n → Pos q → near_one (n ⊠ q) → Size x 32 → Both (scale n (scale q (signed_of x))) (signed_of x) 2048
undone n q nan f N Q h s = absurd f
undone n q (inf t) f N Q h s = absurd f
undone n q (fin false m e) f N Q h s =
    let x = (m * up e) over (down e) in
    let l : m * up e ≤ 32 * down e = omega (arith, s.small) in
    record {
      up_to = le_add (n ⊠ (q ⊠ x)) x (0 over 1) (n ⊠ (q ⊠ (0 over 1))) 2048 0 (back_up n q x N Q (down_pos e) h l) (nought_up n q);
      down_to = le_add x (n ⊠ (q ⊠ x)) (n ⊠ (q ⊠ (0 over 1))) (0 over 1) 2048 0 (back_down n q x N Q (down_pos e) h l) (nought_down n q);
    }
undone n q (fin true m e) f N Q h s =
    let x = (m * up e) over (down e) in
    let l : m * up e ≤ 32 * down e = omega (arith, s.small) in
    record {
      up_to = le_add (n ⊠ (q ⊠ (0 over 1))) (0 over 1) x (n ⊠ (q ⊠ x)) 0 2048 (nought_down n q) (back_down n q x N Q (down_pos e) h l);
      down_to = le_add (0 over 1) (n ⊠ (q ⊠ (0 over 1))) (n ⊠ (q ⊠ x)) x 0 2048 (nought_up n q) (back_up n q x N Q (down_pos e) h l);
    }

component : (S : Float) (r : Rooting S) → (magnitude (root_of S)).num ≤ 64 * (magnitude (root_of S)).den → (x : Float) → Size x 32 → Part x S
    → Both (scale (magnitude (root_of S)) (signed_of (stored (div binary64 F.one (root_of S)) x))) (signed_of x) 2304
component S r few x s part =
    let n = magnitude (root_of S) in
    let q = div binary64 F.one (root_of S) in
    let i = inverse_near S r few in
    let u = inverse_under S r in
    let w = stored_near q x u.1 u.0.finite s.finite (at_most_two S r x part) (quotient S r x s.finite part) in
    let a = scale n (signed_of (stored q x)) in
    let b = scale n (scale (magnitude q) (signed_of x)) in
    let c = signed_of x in
    let P = den_pos (root_of S) in
    let Z = scale_pos (magnitude q) c (den_pos q) (signed_pos x) in
    let A : Fractions a = scale_pos n (signed_of (stored q x)) P (signed_pos (stored q x)) in
    let B : Fractions b = scale_pos n (scale (magnitude q) c) P Z in
    let k : 4 * n.num ≤ 256 * n.den = omega (arith, few) in
    let o = undone n (magnitude q) x s.finite P (den_pos q) i s in
    record {
      up_to = s_trans a b c 256 2048 A B (signed_pos x) (s_scale n (signed_of (stored q x)) (scale (magnitude q) c) 4 256 P (signed_pos (stored q x)) Z w.above k) o.up_to;
      down_to = s_trans c b a 2048 256 (signed_pos x) B A o.down_to (s_scale n (scale (magnitude q) c) (signed_of (stored q x)) 4 256 P Z (signed_pos (stored q x)) w.below k);
    }

-- ---- the three together: the root times the exact product of the unit vector is within 55296 units of the exact product before
sum_both : (f : Frac) (a b c d : Signed) (e g : ℕ) → Pos f → Fractions a → Fractions b → Fractions c → Fractions d → Both (scale f a) c e → Both (scale f b) d g → Both (scale f (a ⊹ b)) (c ⊹ d) (e + g)
sum_both f a b c d e g P A B C D h k =
    let x = scale f (a ⊹ b) in
    let y = scale f a ⊹ scale f b in
    let z = c ⊹ d in
    let fa = scale_pos f a P A in
    let fb = scale_pos f b P B in
    let X : Fractions x = scale_pos f (a ⊹ b) P (fractions_add a b A B) in
    let Y : Fractions y = fractions_add (scale f a) (scale f b) fa fb in
    let Z : Fractions z = fractions_add c d C D in
    record {
      up_to = s_grow x z (0 + (e + g)) (e + g) (omega arith) (s_trans x y z 0 (e + g) X Y Z (scale_out f a b) (s_add (scale f a) c (scale f b) d e g fa C fb D h.up_to k.up_to));
      down_to = s_grow z x (e + g + 0) (e + g) (omega arith) (s_trans z y x (e + g) 0 Z Y X (s_add c (scale f a) d (scale f b) e g C fa D fb h.down_to k.down_to) (scale_in f a b));
    }

abbrev unit_of : Vec3 → Vec3
unit_of r =
    let q = F.◌⊘◌ F.one (root_of (dot r r)) in
    record { x = stored q r.x; y = stored q r.y; z = stored q r.z }

-- the root of a vector's square
root_few : (r : Vec3) → Sized r 32 → Rooting (dot r r) → (magnitude (root_of (dot r r))).num ≤ 64 * (magnitude (root_of (dot r r))).den
root_few r h t =
    root_small (dot r r) (add-fits binary64 (F.◌⊕◌ (F.◌⊗◌ r.x r.x) (F.◌⊗◌ r.y r.y)) (F.◌⊗◌ r.z r.z)) (size_grow (dot r r) 3072 4096 (lit≤ tt) (dot_size r r 32 32 (lit≤ tt) (lit≤ tt) h h)) t

products : (r c : Vec3) → Sized r 32 → Sized c 8 → Rooting (dot r r) → Both (scale (magnitude (root_of (dot r r))) (dot3 (unit_of r) c)) (dot3 r c) 55296
products r c h k t =
    let S = dot r r in
    let n = magnitude (root_of S) in
    let q = F.◌⊘◌ F.one (root_of S) in
    let N = den_pos (root_of S) in
    let p = parts r 32 h in
    let few = root_few r h t in
    let x = product_both n (magnitude c.x) (minus c.x) (signed_of (stored q r.x)) (signed_of r.x) 2304 8 N (den_pos c.x) (signed_pos (stored q r.x)) (signed_pos r.x)
    (omega (arith, k.x_is.small)) (component S t few r.x h.x_is p.x_part) in
    let y = product_both n (magnitude c.y) (minus c.y) (signed_of (stored q r.y)) (signed_of r.y) 2304 8 N (den_pos c.y) (signed_pos (stored q r.y)) (signed_pos r.y)
    (omega (arith, k.y_is.small)) (component S t few r.y h.y_is p.y_part) in
    let z = product_both n (magnitude c.z) (minus c.z) (signed_of (stored q r.z)) (signed_of r.z) 2304 8 N (den_pos c.z) (signed_pos (stored q r.z)) (signed_pos r.z)
    (omega (arith, k.z_is.small)) (component S t few r.z h.z_is p.z_part) in
    let ix = times (stored q r.x) c.x in
    let iy = times (stored q r.y) c.y in
    let iz = times (stored q r.z) c.z in
    let rx = times r.x c.x in
    let ry = times r.y c.y in
    let rz = times r.z c.z in
    let xy = sum_both n ix iy rx ry 18432 18432 N (times_pos (stored q r.x) c.x) (times_pos (stored q r.y) c.y) (times_pos r.x c.x) (times_pos r.y c.y) x y in
    sum_both n (ix ⊹ iy) iz (rx ⊹ ry) rz 36864 18432 N (fractions_add ix iy (times_pos (stored q r.x) c.x) (times_pos (stored q r.y) c.y)) (times_pos (stored q r.z) c.z)
    (fractions_add rx ry (times_pos r.x c.x) (times_pos r.y c.y)) (times_pos r.z c.z) xy z

-- ---- what the tests say, in units of 2 ^ -53: t is a limit of no more than K units, or of no less than E
not_above : (t x : Float) (K : ℕ) → Plus t → Fin x → (magnitude t).num * 9007199254740992 ≤ K * (magnitude t).den → lt t x ≡ false → SLe (signed_of x) none K
unfolding lt
not_above nan x K p f l h = absurd p
not_above (inf s) x K p f l h = absurd p
not_above (fin true n d) x K p f l h = absurd p
not_above (fin false n d) nan K p f l h = absurd f
not_above (fin false n d) (inf s) K p f l h = absurd f
not_above (fin false n d) (fin false m e) K p f l h = at (n * up d) (down d) (m * up e) (down e) (down_pos d) l (nltb→le (n * up d * down e) (m * up e * down d) (subst (λ (b : Bool). T (not b)) (sym h) tt))
  where
    at : (b c a d : ℕ) → 0 < c → b * 9007199254740992 ≤ K * c → a * c ≤ b * d → (a * 1 + 0 * d) * (1 * 1) * 9007199254740992 ≤ (0 * 1 + 0 * 1) * (d * 1) * 9007199254740992 + K * (d * 1 * (1 * 1))
    at b c a d C l h = le_of_mul-le-mul_right {k = c} (omega (arith, mul-le-mul_right d l)) C
not_above (fin false n d) (fin true m e) K p f l h = at (m * up e) (down e)
  where
    at : (a d : ℕ) → (0 * 1 + 0 * 1) * (1 * d) * 9007199254740992 ≤ (0 * d + a * 1) * (1 * 1) * 9007199254740992 + K * (1 * 1 * (1 * d))
    at a d = omega arith

not_below : (t x : Float) (K : ℕ) → Plus t → Fin x → (magnitude t).num * 9007199254740992 ≤ K * (magnitude t).den → lt x (neg t) ≡ false → SLe none (signed_of x) K
unfolding lt neg
not_below nan x K p f l h = absurd p
not_below (inf s) x K p f l h = absurd p
not_below (fin true n d) x K p f l h = absurd p
not_below (fin false n d) nan K p f l h = absurd f
not_below (fin false n d) (inf s) K p f l h = absurd f
not_below (fin false n d) (fin true m e) K p f l h = at (n * up d) (down d) (m * up e) (down e) (down_pos d) l (nltb→le (n * up d * down e) (m * up e * down d) (subst (λ (b : Bool). T (not b)) (sym h) tt))
  where
    at : (b c a d : ℕ) → 0 < c → b * 9007199254740992 ≤ K * c → a * c ≤ b * d → (0 * d + a * 1) * (1 * 1) * 9007199254740992 ≤ (0 * 1 + 0 * 1) * (1 * d) * 9007199254740992 + K * (1 * d * (1 * 1))
    at b c a d C l h = le_of_mul-le-mul_right {k = c} (omega (arith, mul-le-mul_right d l)) C
not_below (fin false n d) (fin false m e) K p f l h = at (m * up e) (down e)
  where
    at : (a d : ℕ) → (0 * 1 + 0 * 1) * (d * 1) * 9007199254740992 ≤ (a * 1 + 0 * d) * (1 * 1) * 9007199254740992 + K * (1 * 1 * (d * 1))
    at a d = omega arith

pub above_limit : (t x : Float) (E : ℕ) → Plus t → Fin x → E * (magnitude t).den ≤ (magnitude t).num * 9007199254740992 → lt t x ≡ true → SLe (signed_of x) none E → ⊥
unfolding lt
above_limit nan x E p f l h k = p
above_limit (inf s) x E p f l h k = p
above_limit (fin true n d) x E p f l h k = p
above_limit (fin false n d) nan E p f l h k = f
above_limit (fin false n d) (inf s) E p f l h k = f
above_limit (fin false n d) (fin true m e) E p f l h k = subst T (sym h) tt
above_limit (fin false n d) (fin false m e) E p f l h k = at (n * up d) (down d) (m * up e) (down e) l (ltb→lt (n * up d * down e) (m * up e * down d) (subst T (sym h) tt)) k
  where
    at : (b c a d : ℕ) → E * c ≤ b * 9007199254740992 → b * d < a * c → (a * 1 + 0 * d) * (1 * 1) * 9007199254740992 ≤ (0 * 1 + 0 * 1) * (d * 1) * 9007199254740992 + E * (d * 1 * (1 * 1)) → ⊥
    at b c a d l h k = omega (arith, mul-le-mul_right d l, mul-le-mul_right c k)

pub below_limit : (t x : Float) (E : ℕ) → Plus t → Fin x → E * (magnitude t).den ≤ (magnitude t).num * 9007199254740992 → lt x (neg t) ≡ true → SLe none (signed_of x) E → ⊥
unfolding lt neg
below_limit nan x E p f l h k = p
below_limit (inf s) x E p f l h k = p
below_limit (fin true n d) x E p f l h k = p
below_limit (fin false n d) nan E p f l h k = f
below_limit (fin false n d) (inf s) E p f l h k = f
below_limit (fin false n d) (fin false m e) E p f l h k = subst T (sym h) tt
below_limit (fin false n d) (fin true m e) E p f l h k = at (n * up d) (down d) (m * up e) (down e) l (ltb→lt (n * up d * down e) (m * up e * down d) (subst T (sym h) tt)) k
  where
    at : (b c a d : ℕ) → E * c ≤ b * 9007199254740992 → b * d < a * c → (0 * d + a * 1) * (1 * 1) * 9007199254740992 ≤ (0 * 1 + 0 * 1) * (1 * d) * 9007199254740992 + E * (1 * d * (1 * 1)) → ⊥
    at b c a d l h k = omega (arith, mul-le-mul_right d l, mul-le-mul_right c k)

-- ---- the root is not 0
module _ (r c : Vec3) (h : Sized r 32) (k : Sized c 8) (t : Rooting (dot r r)) where
  unit_is : Sized (unit_of r) 2
  unit_is =
      let q = F.◌⊘◌ F.one (root_of (dot r r)) in
      let p = parts r 32 h in
      vec_sized (F.◌⊗◌ q r.x) (F.◌⊗◌ q r.y) (F.◌⊗◌ q r.z) 2 (lit≤ tt) (quotient (dot r r) t r.x h.x_is.finite p.x_part) (quotient (dot r r) t r.y h.y_is.finite p.y_part)
      (quotient (dot r r) t r.z h.z_is.finite p.z_part)

  before : SNear (dot r c) (dot3 r c) 2304
  before = dot_signed r c 32 8 8 h k (lit≤ tt) (lit≤ tt)

  after : SNear (dot (unit_of r) c) (dot3 (unit_of r) c) 144
  after = dot_signed (unit_of r) c 2 8 4 unit_is k (lit≤ tt) (lit≤ tt)

  dot3_pos : (u v : Vec3) → Fractions (dot3 u v)
  dot3_pos u v = fractions_add (times u.x v.x ⊹ times u.y v.y) (times u.z v.z) (fractions_add (times u.x v.x) (times u.y v.y) (times_pos u.x v.x) (times_pos u.y v.y)) (times_pos u.z v.z)

  abbrev n : Frac
  n = magnitude (root_of (dot r r))

  N : Pos n
  N = den_pos (root_of (dot r r))

  scaled_none : (f : Frac) → SLe (scale f none) none 0 × SLe none (scale f none) 0
  scaled_none f = (go f.num f.den, go' f.num f.den)
    where
      go : (a d : ℕ) → (a * 0 * 1 + 0 * (d * 1)) * (1 * (d * 1)) * 9007199254740992 ≤ (0 * (d * 1) + a * 0 * 1) * (d * 1 * 1) * 9007199254740992 + 0 * (d * 1 * 1 * (1 * (d * 1)))
      go a d = omega arith

      go' : (a d : ℕ) → (0 * (d * 1) + a * 0 * 1) * (d * 1 * 1) * 9007199254740992 ≤ (a * 0 * 1 + 0 * (d * 1)) * (1 * (d * 1)) * 9007199254740992 + 0 * (1 * (d * 1) * (d * 1 * 1))
      go' a d = omega arith

  few : n.num ≤ 64 * n.den
  few = root_few r h t

  -- from a bound on the product after the root to one on that before it
  upper : (K : ℕ) → SLe (signed_of (dot (unit_of r) c)) none K → SLe (signed_of (dot r c)) none (64 * K + 66816)
  upper K s =
      let B = dot3 (unit_of r) c in
      let A = dot3 r c in
      let D = signed_of (dot r c) in
      let Bp = dot3_pos (unit_of r) c in
      let Ap = dot3_pos r c in
      let G = 64 * (144 + K) in
      let u : SLe B none (144 + K) = s_trans B (signed_of (dot (unit_of r) c)) none 144 K Bp (signed_pos (dot (unit_of r) c)) none_pos after.below s in
      let v : SLe (scale n B) (scale n none) G = s_scale n B none (144 + K) G N Bp none_pos u (omega (arith, mul-le-mul_right (144 + K) few)) in
      let w : SLe (scale n B) none (G + 0) = s_trans (scale n B) (scale n none) none G 0 (scale_pos n B N Bp) (scale_pos n none N none_pos) none_pos v (scaled_none n).0 in
      let y : SLe A none (55296 + (G + 0)) = s_trans A (scale n B) none 55296 (G + 0) Ap (scale_pos n B N Bp) none_pos (products r c h k t).down_to w in
      s_grow D none (2304 + (55296 + (G + 0))) (64 * K + 66816) (omega arith) (s_trans D A none 2304 (55296 + (G + 0)) (signed_pos (dot r c)) Ap none_pos before.above y)

  lower : (K : ℕ) → SLe none (signed_of (dot (unit_of r) c)) K → SLe none (signed_of (dot r c)) (64 * K + 66816)
  lower K s =
      let B = dot3 (unit_of r) c in
      let A = dot3 r c in
      let D = signed_of (dot r c) in
      let Bp = dot3_pos (unit_of r) c in
      let Ap = dot3_pos r c in
      let G = 64 * (K + 144) in
      let u : SLe none B (K + 144) = s_trans none (signed_of (dot (unit_of r) c)) B K 144 none_pos (signed_pos (dot (unit_of r) c)) Bp s after.above in
      let v : SLe (scale n none) (scale n B) G = s_scale n none B (K + 144) G N none_pos Bp u (omega (arith, mul-le-mul_right (K + 144) few)) in
      let w : SLe none (scale n B) (0 + G) = s_trans none (scale n none) (scale n B) 0 G none_pos (scale_pos n none N none_pos) (scale_pos n B N Bp) (scaled_none n).1 v in
      let y : SLe none A (0 + G + 55296) = s_trans none (scale n B) A (0 + G) 55296 none_pos (scale_pos n B N Bp) Ap w (products r c h k t).up_to in
      s_grow none D (0 + G + 55296 + 2304) (64 * K + 66816) (omega arith) (s_trans none A D (0 + G + 55296) 2304 none_pos Ap (signed_pos (dot r c)) y before.below)

-- ---- the root is 0: then the vector is next to nothing, and so is its product
zero_units : (e : ℤ) → in_units (fin false zero e) ≡ 0
zero_units e = ap (λ (z : ℕ). z * 2 ^ 1074 / down e) (zero-mul (up e)) ∙ ap (λ (z : ℕ). z / down e) (zero-mul (2 ^ 1074)) ∙ zero-div (down e)

unequal : (m : ℕ) (e : ℤ) → eq (fin false (suc m) e) F.zero ≡ true → ⊥
unfolding eq of_bits
unequal m e h =
    let t : T (eqb (suc m * up e * 1) (0 * 1 * down e) && true) = subst T (sym h) tt in
    clash (suc m * up e) (down e) (mul-pos (zero-lt-suc m) (up_pos e)) (eqb→eq (suc m * up e * 1) (0 * 1 * down e) (and_l (eqb (suc m * up e * 1) (0 * 1 * down e)) true t))
  where
    clash : (a d : ℕ) → 0 < a → a * 1 ≡ 0 * 1 * d → ⊥
    clash a d h k = omega (arith, zero-mul d)

no_root : (m : ℕ) (e : ℤ) → T (fits binary64 (fin false (suc m) e)) → eq (root_of (fin false (suc m) e)) F.zero ≡ true → ⊥
no_root m e t h = go w.plus.0 w.plus.1.0 w.plus.1.1
  where
    w : NearestRoot (in_units (fin false (suc m) e)) (root_of (fin false (suc m) e))
    w = root_is (fin false (suc m) e) t

    N : ℕ
    N = in_units (fin false (suc m) e)

    above : (x y n d : ℕ) → 0 < x → 0 < y → x * y ≡ n * d → 0 < n
    above x y zero d X Y h = absurd (omega (arith, mul-pos X Y, zero-mul d))
    above x y (suc n) d X Y h = zero-lt-suc n

    P : 0 < N * 2 ^ 1074
    P = mul-pos (above (suc m * up e) (2 ^ 1074) N (down e) (mul-pos (zero-lt-suc m) (up_pos e)) (pow_pos 1074) (units_of m e t)) (pow_pos 1074)

    small : (M : ℕ) → 0 < M → 4 * M < (0 + 1) * (0 + 1) → ⊥
    small M p h = omega arith

    go : (m' : ℕ) (e' : ℤ) → root_of (fin false (suc m) e) ≡ fin false m' e' → ⊥
    go zero e' q =
        let p = power 0 (lit< tt) in
        let u = w.nearest p.m p.e p.held in
        let z : in_units (root_of (fin false (suc m) e)) ≡ 0 = ap in_units q ∙ zero_units e' in
        let v = subst (λ (x : ℕ). Nearer N x (2 ^ 0)) z (subst (λ (y : ℕ). Nearer N (in_units (root_of (fin false (suc m) e))) y) p.is u) in
        small (N * 2 ^ 1074) P (v.under (lit< tt))
    go (suc m') e' q = unequal m' e' (subst (λ (x : Float). eq x F.zero ≡ true) q h)

-- every square is less than a unit of 2 ^ -1074, so the component is below 2 ^ -53
tiny : (S a : Float) → Plus S → T (fits binary64 S) → eq (root_of S) F.zero ≡ true → Part a S → (magnitude a).num * 9007199254740992 ≤ (magnitude a).den
tiny nan a p t h part = absurd p
tiny (inf s) a p t h part = absurd p
tiny (fin true m e) a p t h part = absurd p
tiny (fin false (suc m) e) a p t h part = absurd (no_root m e t h)
tiny (fin false zero e) a p t h part =
    le_by ((magnitude a).num * 9007199254740992) (magnitude a).den (λ (g : (magnitude a).den < (magnitude a).num * 9007199254740992).
    none_left (up e) (down e) (2 ^ 1074) (down_pos e) (part 0 (lit< tt) (at (magnitude a).num (magnitude a).den g)))
  where
    none_left : (u d w : ℕ) → 0 < d → 1 * d ≤ 0 * u * w → ⊥
    none_left u d w D k = omega (arith, zero-mul u, zero-mul w)

    at : (n d : ℕ) → d < n * 9007199254740992 → 1 * (d * d) ≤ n * n * 2 ^ 1074
    at n d g =
        let x : d * d ≤ n * 9007199254740992 * (n * 9007199254740992) = mul-le-mul (omega arith) (omega arith) in
        let y : n * n * 81129638414606681695789005144064 ≤ n * n * 2 ^ 1074 = mul-le-mul_left (n * n) (pow_mono {i = 106} {j = 1074} (lit≤ tt)) in
        le_trans (le_trans (one d) x) (le_trans (le_of_eq (square n)) y)
      where
        one : (d : ℕ) → 1 * (d * d) ≤ d * d
        one d = omega arith

        square : (n : ℕ) → n * 9007199254740992 * (n * 9007199254740992) ≡ n * n * 81129638414606681695789005144064
        square n = omega arith

small_gain : (G Z : Frac) → G.num * 9007199254740992 ≤ 8 * G.den → Z.num ≡ 0 → Both (record { gain = G; loss = Z }) none 8
small_gain G Z h z = record { up_to = up_at G.num G.den Z.num Z.den h z; down_to = down_at G.num G.den Z.num Z.den z }
  where
    up_at : (a b c d : ℕ) → a * 9007199254740992 ≤ 8 * b → c ≡ 0 → (a * 1 + 0 * b) * (1 * d) * 9007199254740992 ≤ (0 * d + c * 1) * (b * 1) * 9007199254740992 + 8 * (b * 1 * (1 * d))
    up_at a b c d h z = omega (arith, mul-le-mul_right d h)

    down_at : (a b c d : ℕ) → c ≡ 0 → (0 * d + c * 1) * (b * 1) * 9007199254740992 ≤ (a * 1 + 0 * b) * (1 * d) * 9007199254740992 + 8 * (1 * d * (b * 1))
    down_at a b c d z = rw z (omega arith)

small_loss : (G Z : Frac) → G.num * 9007199254740992 ≤ 8 * G.den → Z.num ≡ 0 → Both (record { gain = Z; loss = G }) none 8
small_loss G Z h z = record { up_to = up_at G.num G.den Z.num Z.den z; down_to = down_at G.num G.den Z.num Z.den h z }
  where
    up_at : (a b c d : ℕ) → c ≡ 0 → (c * 1 + 0 * d) * (1 * b) * 9007199254740992 ≤ (0 * b + a * 1) * (d * 1) * 9007199254740992 + 8 * (d * 1 * (1 * b))
    up_at a b c d z = rw z (omega arith)

    down_at : (a b c d : ℕ) → a * 9007199254740992 ≤ 8 * b → c ≡ 0 → (0 * b + a * 1) * (d * 1) * 9007199254740992 ≤ (c * 1 + 0 * d) * (1 * b) * 9007199254740992 + 8 * (1 * b * (d * 1))
    down_at a b c d h z = omega (arith, mul-le-mul_right d h)

tiny_times : (x y : Float) → Fin x → Fin y → (magnitude x).num * 9007199254740992 ≤ (magnitude x).den → Size y 8 → Both (times x y) none 8
tiny_times nan y f g h s = absurd f
tiny_times (inf u) y f g h s = absurd f
tiny_times (fin u m e) nan f g h s = absurd g
tiny_times (fin u m e) (inf v) f g h s = absurd g
tiny_times (fin u m e) (fin v n d) f g h s = go u v
  where
    prod : (a b c d : ℕ) → a * 9007199254740992 ≤ b → c * 1 ≤ 8 * d → c * a * 9007199254740992 ≤ 8 * (d * b)
    prod a b c d h k = omega (arith, mul-le-mul h k)

    G : Frac
    G = (n * up d * (m * up e)) over (down d * down e)

    l : n * up d * (m * up e) * 9007199254740992 ≤ 8 * (down d * down e)
    l = prod (m * up e) (down e) (n * up d) (down d) h s.small

    z : n * up d * 0 ≡ 0
    z = mul-zero (n * up d)

    go : (u v : Bool) → Both (times (fin u m e) (fin v n d)) none 8
    go false false = small_gain ((n * up d * (m * up e)) over (down d * down e)) ((n * up d * 0) over (down d * 1)) l z
    go true true = small_gain ((n * up d * (m * up e)) over (down d * down e)) ((n * up d * 0) over (down d * 1)) l z
    go false true = small_loss ((n * up d * (m * up e)) over (down d * down e)) ((n * up d * 0) over (down d * 1)) l z
    go true false = small_loss ((n * up d * (m * up e)) over (down d * down e)) ((n * up d * 0) over (down d * 1)) l z

none_twice : SLe (none ⊹ none) none 0 × SLe none (none ⊹ none) 0
none_twice = (lit≤ tt, lit≤ tt)

add_both : (a b : Signed) (e f : ℕ) → Fractions a → Fractions b → Both a none e → Both b none f → Both (a ⊹ b) none (e + f)
add_both a b e f A B h k =
    let N = fractions_add none none none_pos none_pos in
    let X = fractions_add a b A B in
    record {
      up_to = s_grow (a ⊹ b) none (e + f + 0) (e + f) (omega arith) (s_trans (a ⊹ b) (none ⊹ none) none (e + f) 0 X N none_pos (s_add a none b none e f A none_pos B none_pos h.up_to k.up_to) none_twice.0);
      down_to = s_grow none (a ⊹ b) (0 + (e + f)) (e + f) (omega arith) (s_trans none (none ⊹ none) (a ⊹ b) 0 (e + f) none_pos N X none_twice.1 (s_add none a none b e f none_pos A none_pos B h.down_to k.down_to));
    }

next_to_nothing : (r c : Vec3) → Sized r 32 → Sized c 8 → eq (root_of (dot r r)) F.zero ≡ true → Both (signed_of (dot r c)) none 2328
next_to_nothing r c h k e =
    let S = dot r r in
    let p = square_plus r 32 (lit≤ tt) h in
    let t = add-fits binary64 (F.◌⊕◌ (F.◌⊗◌ r.x r.x) (F.◌⊗◌ r.y r.y)) (F.◌⊗◌ r.z r.z) in
    let q = parts r 32 h in
    let x = tiny_times r.x c.x h.x_is.finite k.x_is.finite (tiny S r.x p t e q.x_part) k.x_is in
    let y = tiny_times r.y c.y h.y_is.finite k.y_is.finite (tiny S r.y p t e q.y_part) k.y_is in
    let z = tiny_times r.z c.z h.z_is.finite k.z_is.finite (tiny S r.z p t e q.z_part) k.z_is in
    let xy = add_both (times r.x c.x) (times r.y c.y) 8 8 (times_pos r.x c.x) (times_pos r.y c.y) x y in
    let XY = fractions_add (times r.x c.x) (times r.y c.y) (times_pos r.x c.x) (times_pos r.y c.y) in
    let a = add_both (times r.x c.x ⊹ times r.y c.y) (times r.z c.z) 16 8 XY (times_pos r.z c.z) xy z in
    let A = fractions_add (times r.x c.x ⊹ times r.y c.y) (times r.z c.z) XY (times_pos r.z c.z) in
    let n : SNear (dot r c) (dot3 r c) 2304 = dot_signed r c 32 8 8 h k (lit≤ tt) (lit≤ tt) in
    record {
      up_to = s_trans (signed_of (dot r c)) (dot3 r c) none 2304 24 (signed_pos (dot r c)) A none_pos n.above a.up_to;
      down_to = s_trans none (dot3 r c) (signed_of (dot r c)) 24 2304 none_pos A (signed_pos (dot r c)) a.down_to n.below;
    }

-- ---- the law
pub is_not : (b : Bool) → (b ≡ false → ⊥) → b ≡ true
is_not true h = refl
is_not false h = absurd (h refl)

product_finite : (r c : Vec3) → Sized r 32 → Sized c 8 → Fin (dot r c)
product_finite r c h k = (dot_size r c 32 8 (lit≤ tt) (lit≤ tt) h k).finite

-- beyond `high` before the root is beyond `low` after it: in units of 2 ^ -53 low is at most K, and high at least 64 K + 66816
pub record Step (low high : Float) : Type 0 where
  pub K : ℕ
  pub low_plus : Plus low
  pub high_plus : Plus high
  pub low_is : (magnitude low).num * 9007199254740992 ≤ K * (magnitude low).den
  pub high_is : (64 * K + 66816) * (magnitude high).den ≤ (magnitude high).num * 9007199254740992

module _ (low high : Float) (s : Step low high) (r c : Vec3) (h : Sized r 32) (k : Sized c 8) where
  pub left_after : lt high (dot r c) ≡ true → lt low (dot (unit_vec r.x r.y r.z) c) ≡ true
  unfolding unit_vec
  left_after l = go (eq (root_of (dot r r)) F.zero) refl
    where
      no : SLe (signed_of (dot r c)) none (64 * s.K + 66816) → ⊥
      no b = above_limit high (dot r c) (64 * s.K + 66816) s.high_plus (product_finite r c h k) s.high_is l b

      go : (b : Bool) → eq (root_of (dot r r)) F.zero ≡ b → lt low (dot (if b then origin else unit_of r) c) ≡ true
      go true e = absurd (no (s_grow (signed_of (dot r c)) none 2328 (64 * s.K + 66816) (omega arith) (next_to_nothing r c h k e).up_to))
      go false e =
          let w = rooting_of r 32 (lit≤ tt) h e in
          let d = dot (unit_of r) c in
          is_not (lt low d) (λ (z : lt low d ≡ false). no (upper r c h k w s.K (not_above low d s.K s.low_plus (after r c h k w).finite s.low_is z)))

  pub right_after : lt (dot r c) (neg high) ≡ true → lt (dot (unit_vec r.x r.y r.z) c) (neg low) ≡ true
  unfolding unit_vec
  right_after l = go (eq (root_of (dot r r)) F.zero) refl
    where
      no : SLe none (signed_of (dot r c)) (64 * s.K + 66816) → ⊥
      no b = below_limit high (dot r c) (64 * s.K + 66816) s.high_plus (product_finite r c h k) s.high_is l b

      go : (b : Bool) → eq (root_of (dot r r)) F.zero ≡ b → lt (dot (if b then origin else unit_of r) c) (neg low) ≡ true
      go true e = absurd (no (s_grow none (signed_of (dot r c)) 2328 (64 * s.K + 66816) (omega arith) (next_to_nothing r c h k e).down_to))
      go false e =
          let w = rooting_of r 32 (lit≤ tt) h e in
          let d = dot (unit_of r) c in
          is_not (lt d (neg low)) (λ (z : lt d (neg low) ≡ false). no (lower r c h k w s.K (not_below low d s.K s.low_plus (after r c h k w).finite s.low_is z)))

-- ---- the two steps that are taken
pub to_settled : Step F.ten_epsilon limit
unfolding of_bits
to_settled = record { K = 20; low_plus = tt; high_plus = tt; low_is = lit≤ tt; high_is = lit≤ tt }

pub to_margin : Step margin wide
unfolding of_bits
to_margin = record { K = 8388608; low_plus = tt; high_plus = tt; low_is = lit≤ tt; high_is = lit≤ tt }
