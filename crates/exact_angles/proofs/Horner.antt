-- The float sum of Euler's series at y is near the exact one at Y, for a y near Y: its table is right, and two terms at a time keep the error. Assumes nothing.
use mathlib.Core.Path.{◌≡◌, refl, sym, subst}
use mathlib.Core.Bool.{Bool, true, false, ◌&&◌}
use mathlib.Core.List.{List, [], ◌∷◌}
use Prim.Native.Nat.{ℕ, zero, suc, ◌+◌, ◌-◌, ◌*◌, ◌≤◌}
use native.Mathlib.Nat.{mul-pos, zero-lt-suc, mul-le-mul, mul-le-mul_right}
use native.Mathlib.Omega.{arith}
use lib.Dec.{T, leb, leb→le, lit≤}
use lib.ListN.{length}
use lib.Ieee.{Float, nan, inf, fin, binary64, of_bits, up, down, add, mul}
use lib.Ieee.Fits.{and_l, and_r}
use Rattle.fractions.specs.Frac.{Frac, ◌over◌, ◌⊞◌, ◌⊠◌, ◌≼◌, magnitude}
use Rattle.exact_angles.specs.Exact.{coef}
use Rattle.angle.specs.Arctan.{pairs, coefs, sum_of}
use Rattle.fractions.proofs.Order.{same_le}
use Rattle.fractions.proofs.Frac.{Pos, le_bound}
use Rattle.fractions.proofs.Round.{Near}
use Rattle.fractions.proofs.Ops.{near_mul, near_add, near_grow, near_move, mul_le_one}

-- ---- the coefficients: at most 1
pub coef_pos : (k : ℕ) → Pos (coef k)
unfolding coef
coef_pos zero = zero-lt-suc 0
coef_pos (suc k) = mul-pos (coef_pos k) (omega arith)

pub coef_small : (k : ℕ) → (coef k).num ≤ (coef k).den
unfolding coef
coef_small zero = lit≤ tt
coef_small (suc k) = mul-le-mul (coef_small k) (omega arith)

-- the sum from the k-th term on, m terms more, over yᵏ: from the inside out
unfoldable pub nest : Frac → ℕ → ℕ → Frac
nest y k zero = coef k
nest y k (suc m) = coef k ⊞ y ⊠ nest y (suc k) m

module _ (y : Frac) (Y : Pos y) where
  pub nest_pos : (m k : ℕ) → Pos (nest y k m)
  unfolding nest
  nest_pos zero k = coef_pos k
  nest_pos (suc m) k = mul-pos (coef_pos k) (mul-pos Y (nest_pos m (suc k)))

  -- at most 2, for a y of at most a half
  pub nest_small : 2 * y.num ≤ y.den → (m k : ℕ) → (nest y k m).num ≤ 2 * (nest y k m).den
  unfolding nest
  nest_small h zero k = omega (arith, coef_small k)
  nest_small h (suc m) k = at (coef k).num (coef k).den y.num y.den (nest y (suc k) m).num (nest y (suc k) m).den (coef_small k) h (nest_small h m (suc k))
    where
      at : (a b c d n m : ℕ) → a ≤ b → 2 * c ≤ d → n ≤ 2 * m → a * (d * m) + c * n * b ≤ 2 * (b * (d * m))
      at a b c d n m h k l = omega (arith, mul-le-mul_right (d * m) h, mul-le-mul_right b (mul-le-mul k l))

-- ---- the table of coefficients is right, each within 2 ^ -53, by one test that is computed
closeb : Frac → Frac → Bool
closeb a b = leb (a.num * b.den * 9007199254740992) (b.num * a.den * 9007199254740992 + 1 * (a.den * b.den)) && leb (b.num * a.den * 9007199254740992) (a.num * b.den * 9007199254740992 + 1 * (b.den * a.den))

pub nearb : Float → Frac → Bool
unfolding closeb
nearb nan a = false
nearb (inf s) a = false
nearb (fin true m e) a = false
nearb (fin false m e) a = closeb ((m * up e) over (down e)) a

pub nearb_near : (x : Float) (a : Frac) → T (nearb x a) → Near x a 1
unfolding nearb
nearb_near nan a t = absurd t
nearb_near (inf s) a t = absurd t
nearb_near (fin true m e) a t = absurd t
nearb_near (fin false m e) a t =
    let x = (m * up e) over (down e) in
    let l = leb (x.num * a.den * 9007199254740992) (a.num * x.den * 9007199254740992 + 1 * (x.den * a.den)) in
    let r = leb (a.num * x.den * 9007199254740992) (x.num * a.den * 9007199254740992 + 1 * (a.den * x.den)) in
    record { plus = tt; above = leb→le _ _ (and_l l r t); below = leb→le _ _ (and_r l r t) }

pub tableb : ℕ → List Float → Bool
unfolding nearb
tableb k [] = true
tableb k (c ∷ cs) = nearb c (coef k) && tableb (suc k) cs

pub table_good : T (tableb 0 coefs)
unfolding tableb coef of_bits
table_good = tt

-- ---- the float sum, two terms at a time
abbrev Even : List Float → Type 0
Even [] = Unit {0}
Even (d ∷ []) = ⊥
Even (d ∷ e ∷ es) = Even es

abbrev Uneven : List Float → Type 0
Uneven [] = ⊥
Uneven (c ∷ cs) = Even cs

-- (C + Y D) + Y Y G is C + Y (D + Y G)
regroup : (a b c d m n u v : ℕ) → ((a * (v * d) + u * c * b) * (v * v * n) + u * u * m * (b * (v * d))) * (b * (v * (d * (v * n)))) ≡ (a * (v * (d * (v * n))) + u * (c * (v * n) + u * m * d) * b) * (b * (v * d) * (v * v * n))
regroup a b c d m n u v = omega arith

module _ (y : Float) (Y : Frac) (P : Pos Y) (h : 2 * Y.num ≤ Y.den) (n : Near y Y 9) (o : magnitude y ≼ (1 over 1)) where
  abbrev w : Float
  w = mul binary64 y y

  w_near : Near w (Y ⊠ Y) 15
  w_near = near_mul y y Y Y 9 9 9 5 0 n n P (lit≤ tt) (sq (magnitude y).num (magnitude y).den o) (omega (arith, o)) (omega arith)
    where
      sq : (a b : ℕ) → a * 1 ≤ 1 * b → a * a ≤ 1 * (b * b)
      sq a b h = omega (arith, mul-le-mul h h)

  w_le : magnitude w ≼ (1 over 1)
  w_le = mul_le_one y y n.plus n.plus o o

  step : (c d g : Float) (C D G : Frac) → Near c C 1 → Near d D 1 → Near g G 112 → Pos C → Pos D → Pos G → C.num ≤ C.den → D.num ≤ D.den → G.num ≤ 2 * G.den
      → Near (add binary64 (add binary64 c (mul binary64 y d)) (mul binary64 w g)) (C ⊞ Y ⊠ (D ⊞ Y ⊠ G)) 112
  step c d g C D G a b r cp dp gp cs ds gs =
      let Ds : (magnitude d).num ≤ 2 * (magnitude d).den = le_bound (magnitude d) D 1 1 dp b.above (lit≤ tt) (omega arith) in
      let m : Near (mul binary64 y d) (Y ⊠ D) 21 =
      near_mul y d Y D 9 1 18 1 1 n b P (lit≤ tt) (two (magnitude y).num (magnitude y).den (magnitude d).num (magnitude d).den o Ds) (omega arith) (omega arith) in
      let Ms : (magnitude (mul binary64 y d)).num ≤ 2 * (magnitude (mul binary64 y d)).den =
      le_bound (magnitude (mul binary64 y d)) (Y ⊠ D) 21 1 (mul-pos P dp) m.above (lit≤ tt) (one Y.num Y.den D.num D.den h ds) in
      let Cs : (magnitude c).num ≤ 2 * (magnitude c).den = le_bound (magnitude c) C 1 1 cp a.above (lit≤ tt) (omega arith) in
      let p : Near (add binary64 c (mul binary64 y d)) (C ⊞ Y ⊠ D) 26 =
      near_add c (mul binary64 y d) C (Y ⊠ D) 1 21 2 a m (lit≤ tt) (four (magnitude c).num (magnitude c).den (magnitude (mul binary64 y d)).num (magnitude (mul binary64 y d)).den Cs Ms) in
      let Ps : (magnitude (add binary64 c (mul binary64 y d))).num ≤ 3 * (magnitude (add binary64 c (mul binary64 y d))).den =
      le_bound (magnitude (add binary64 c (mul binary64 y d))) (C ⊞ Y ⊠ D) 26 2 (mul-pos cp (mul-pos P dp)) p.above (lit≤ tt) (three C.num C.den Y.num Y.den D.num D.den cs h ds) in
      let Gs : (magnitude g).num ≤ 3 * (magnitude g).den = le_bound (magnitude g) G 112 2 gp r.above (lit≤ tt) gs in
      let q : Near (mul binary64 w g) (Y ⊠ Y ⊠ G) 77 =
      near_mul w g (Y ⊠ Y) G 15 112 45 28 2 w_near r (mul-pos P P) (lit≤ tt) (wide (magnitude w).num (magnitude w).den (magnitude g).num (magnitude g).den w_le Gs) (omega arith) (quarter Y.num Y.den h) in
      let Qs : (magnitude (mul binary64 w g)).num ≤ 2 * (magnitude (mul binary64 w g)).den =
      le_bound (magnitude (mul binary64 w g)) (Y ⊠ Y ⊠ G) 77 1 (mul-pos (mul-pos P P) gp) q.above (lit≤ tt) (half Y.num Y.den G.num G.den h gs) in
      let s : Near (add binary64 (add binary64 c (mul binary64 y d)) (mul binary64 w g)) ((C ⊞ Y ⊠ D) ⊞ Y ⊠ Y ⊠ G) 111 =
      near_add (add binary64 c (mul binary64 y d)) (mul binary64 w g) (C ⊞ Y ⊠ D) (Y ⊠ Y ⊠ G) 26 77 3 p q (lit≤ tt)
      (eight (magnitude (add binary64 c (mul binary64 y d))).num (magnitude (add binary64 c (mul binary64 y d))).den (magnitude (mul binary64 w g)).num (magnitude (mul binary64 w g)).den Ps Qs) in
      let e = regroup C.num C.den D.num D.den G.num G.den Y.num Y.den in
      let A = (C ⊞ Y ⊠ D) ⊞ Y ⊠ Y ⊠ G in
      let B = C ⊞ Y ⊠ (D ⊞ Y ⊠ G) in
      let z = add binary64 (add binary64 c (mul binary64 y d)) (mul binary64 w g) in
      near_grow z B 111 112 (lit≤ tt) (near_move z A B 111 0 (mul-pos (mul-pos cp (mul-pos P dp)) (mul-pos (mul-pos P P) gp)) s (same_le A B e) (same_le B A (sym e)))
    where
      two : (a b c d : ℕ) → a * 1 ≤ 1 * b → c ≤ 2 * d → a * c ≤ 2 * (b * d)
      two a b c d h k = omega (arith, mul-le-mul h k)

      one : (a b c d : ℕ) → 2 * a ≤ b → c ≤ d → a * c ≤ 1 * (b * d)
      one a b c d h k = omega (arith, mul-le-mul h k)

      four : (a b c d : ℕ) → a ≤ 2 * b → c ≤ 2 * d → a * d + c * b ≤ 4 * (b * d)
      four a b c d h k = omega (arith, mul-le-mul_right d h, mul-le-mul_right b k)

      three : (a b u v c d : ℕ) → a ≤ b → 2 * u ≤ v → c ≤ d → a * (v * d) + u * c * b ≤ 2 * (b * (v * d))
      three a b u v c d h k l = omega (arith, mul-le-mul_right (v * d) h, mul-le-mul_right b (mul-le-mul k l))

      wide : (a b c d : ℕ) → a * 1 ≤ 1 * b → c ≤ 3 * d → a * c ≤ 4 * (b * d)
      wide a b c d h k = omega (arith, mul-le-mul h k)

      quarter : (a b : ℕ) → 2 * a ≤ b → 112 * (a * a) ≤ 28 * (b * b)
      quarter a b h = omega (arith, mul-le-mul h h)

      half : (a b c d : ℕ) → 2 * a ≤ b → c ≤ 2 * d → a * a * c ≤ 1 * (b * b * d)
      half a b c d h k = omega (arith, mul-le-mul (mul-le-mul h h) k)

      eight : (a b c d : ℕ) → a ≤ 3 * b → c ≤ 2 * d → a * d + c * b ≤ 8 * (b * d)
      eight a b c d h k = omega (arith, mul-le-mul_right d h, mul-le-mul_right b k)

  pairs_near : (cs : List Float) (c : Float) (k : ℕ) → Even cs → T (tableb k (c ∷ cs)) → Near (pairs y w (c ∷ cs)) (nest Y k (length cs)) 112
  unfolding tableb nest
  pairs_near [] c k v t = near_grow c (coef k) 1 112 (lit≤ tt) (nearb_near c (coef k) (and_l (nearb c (coef k)) true t))
  pairs_near (d ∷ []) c k v t = absurd v
  pairs_near (d ∷ e ∷ es) c k v t =
      let t1 = and_r (nearb c (coef k)) (tableb (suc k) (d ∷ e ∷ es)) t in
      let t2 = and_r (nearb d (coef (suc k))) (tableb (suc (suc k)) (e ∷ es)) t1 in
      step c d (pairs y w (e ∷ es)) (coef k) (coef (suc k)) (nest Y (suc (suc k)) (length es))
      (nearb_near c (coef k) (and_l (nearb c (coef k)) (tableb (suc k) (d ∷ e ∷ es)) t))
      (nearb_near d (coef (suc k)) (and_l (nearb d (coef (suc k))) (tableb (suc (suc k)) (e ∷ es)) t1))
      (pairs_near es e (suc (suc k)) v t2)
      (coef_pos k) (coef_pos (suc k)) (nest_pos Y P (length es) (suc (suc k))) (coef_small k) (coef_small (suc k)) (nest_small Y P h (length es) (suc (suc k)))

  all_near : (cs : List Float) (m : ℕ) → length cs ≡ suc m → Uneven cs → T (tableb 0 cs) → Near (pairs y w cs) (nest Y 0 m) 112
  all_near [] m e v t = absurd v
  all_near (c ∷ ds) m e v t = subst (λ (z : ℕ). Near (pairs y w (c ∷ ds)) (nest Y 0 z) 112) (less (length ds) m e) (pairs_near ds c 0 v t)
    where
      less : (a b : ℕ) → suc a ≡ suc b → a ≡ b
      less a b e = omega arith

  pub sum_near : Near (sum_of y) (nest Y 0 48) 112
  unfolding sum_of
  sum_near = all_near coefs 48 refl tt table_good
