-- SCOPE 44: a steady sum of at most 512 float angles has the sign of the exact sum of the exact angles. Assumes nothing.
-- In 2 ^ -53: a pair adds 256 for its angle and 4,096 for the rounding of a sum that stays below 4,096 in size, so 512 pairs add 2,228,224: below 2 ^ -31.
use mathlib.Core.Path.{◌≡◌, refl, sym, ◌∙◌, subst}
use mathlib.Core.Bool.{Bool, true, false}
use mathlib.Core.List.{List, [], ◌∷◌}
use Prim.Native.Nat.{ℕ, zero, suc, ◌+◌, ◌-◌, ◌*◌, ◌^◌, ◌≤◌, ◌<◌}
use native.Mathlib.Nat.{mul-pos, zero-lt-suc, mul-le-mul_right, lt_of_mul-lt-mul_right}
use native.Mathlib.Omega.{arith}
use lib.IntN.{ℤ, pos}
use lib.Dec.{T, lit<, lit≤}
use lib.ListN.{length}
use lib.Ieee.{Float, nan, inf, fin, binary64, of_bits, up, down, add}
use lib.Ieee.Fits.{down_pos}
use Rattle.fractions.specs.Frac.{Frac, ◌over◌, ◌⊞◌, ◌≼◌, magnitude}
use Rattle.exact_angles.specs.Exact.{Shut, around, Within}
use Rattle.angle.specs.Arctan as A
use Rattle.numbers.specs.F64 as F
use Rattle.fractions.proofs.Sizes.{Fin}
use Rattle.exact_angles.specs.Steady.{Pair, total, Signed, ◌⊹◌, none, lowest, highest, exact_of, low_end, high_end, low_sum, high_sum, Aimed, AllAimed, Fractions, SameSign, Decides}
use Rattle.fractions.proofs.Frac.{Pos}
use Rattle.angle.proofs.Zeros.{ahead, behind, both_plus, both_minus}
use Rattle.exact_angles.proofs.Plane.{angle_within, angle_small}
use Rattle.exact_angles.proofs.Signs.{SLe, s_trans, s_add, s_refl, s_left, s_right, s_grow, fractions_add}
use Rattle.exact_angles.proofs.Adds.{signed_of, signed_pos, SNear, add_signed, add_size}

-- ---- one pair
pub record Aim (r : Float) (l h : Signed) : Type 0 where
  pub finite : Fin r
  pub small : (magnitude r).num ≤ 5 * (magnitude r).den
  pub low_is : Fractions l
  pub high_is : Fractions h
  pub above : SLe (signed_of r) l 256
  pub below : SLe h (signed_of r) 256

within_aim : (s : Bool) (m : ℕ) (e : ℤ) (l h : Frac) → Pos l → Pos h → (magnitude (fin s m e)).num ≤ 5 * (magnitude (fin s m e)).den
    → magnitude (fin s m e) ≼ l ⊞ (1 over (2 ^ 45)) → h ≼ magnitude (fin s m e) ⊞ (1 over (2 ^ 45)) → Aim (fin s m e) (lowest s l h) (highest s l h)
within_aim false m e l h L H o a b = record {
  finite = tt;
  small = o;
  low_is = record { gain_is = L; loss_is = zero-lt-suc 0 };
  high_is = record { gain_is = H; loss_is = zero-lt-suc 0 };
  above = pad (m * up e) (down e) l.num l.den a;
  below = pad h.num h.den (m * up e) (down e) b;
}
  where
    pad : (a b c d : ℕ) → a * (d * 35184372088832) ≤ (c * 35184372088832 + 1 * d) * b → (a * 1 + 0 * b) * (d * 1) * 9007199254740992 ≤ (c * 1 + 0 * d) * (b * 1) * 9007199254740992 + 256 * (b * 1 * (d * 1))
    pad a b c d h = omega arith
within_aim true m e l h L H o a b = record {
  finite = tt;
  small = o;
  low_is = record { gain_is = zero-lt-suc 0; loss_is = H };
  high_is = record { gain_is = zero-lt-suc 0; loss_is = L };
  above = pad h.num h.den (m * up e) (down e) b;
  below = pad (m * up e) (down e) l.num l.den a;
}
  where
    pad : (a b c d : ℕ) → a * (d * 35184372088832) ≤ (c * 35184372088832 + 1 * d) * b → (0 * b + a * 1) * (1 * d) * 9007199254740992 ≤ (0 * d + c * 1) * (1 * b) * 9007199254740992 + 256 * (1 * b * (1 * d))
    pad a b c d h = omega arith

-- a pair of two zeros has the angle of (0, ±1), by computation
both_zero : (s t : Bool) (e d : ℤ) → A.atan2 (fin s 0 e) (fin t 0 d) ≡ A.atan2 (fin s 0 (pos 0)) (fin t 1 (pos 0))
both_zero s false e d = both_plus s e d ∙ sym (ahead s (pos 0) 0 (pos 0))
both_zero s true e d = both_minus s e d ∙ sym (behind s (pos 0) 0 (pos 0))

-- every finite pair's float angle is near what the sum counts as its exact one, two zeros included
pub record Placed (r : Float) (s : Bool) (a : Shut) : Type 0 where
  pub within : Within 45 r s a
  pub small : (magnitude r).num ≤ 5 * (magnitude r).den

pub placed : (s t : Bool) (m n : ℕ) (e d : ℤ) → Placed (A.atan2 (fin s m e) (fin t n d)) s (exact_of t m e n d)
placed s t zero zero e d =
    subst (λ (z : Float). Placed z s (around t 0 1)) (sym (both_zero s t e d))
    record { within = angle_within s t 0 1 (pos 0) (pos 0) (lit< tt); small = angle_small s t 0 1 (pos 0) (pos 0) (lit< tt) }
placed s t zero (suc n) e d = record { within = angle_within s t zero (suc n) e d (omega arith); small = angle_small s t zero (suc n) e d (omega arith) }
placed s t (suc m) n e d = record { within = angle_within s t (suc m) n e d (omega arith); small = angle_small s t (suc m) n e d (omega arith) }

aim : (y x : Float) (i : ℕ) → 48 ≤ i → Aimed y x → Aim (A.atan2 y x) (low_end y x i) (high_end y x i)
aim nan x i l h = absurd h
aim (inf s) x i l h = absurd h
aim (fin s m e) nan i l h = absurd h
aim (fin s m e) (inf t) i l h = absurd h
aim (fin s m e) (fin t n d) i l h = go (A.atan2 (fin s m e) (fin t n d)) (exact_of t m e n d) (placed s t m n e d)
  where
    go : (r : Float) (a : Shut) → Placed r s a → Aim r (lowest s (a.low i) (a.high i)) (highest s (a.low i) (a.high i))
    go r a p =
        let w = p.within in
        let z = w.sign.1.1 in
        subst (λ (q : Float). Aim q (lowest s (a.low i) (a.high i)) (highest s (a.low i) (a.high i))) (sym z)
        (within_aim s w.sign.0 w.sign.1.0 (a.low i) (a.high i) (w.one_value.low_is i) (w.one_value.high_is i)
        (subst (λ (q : Float). (magnitude q).num ≤ 5 * (magnitude q).den) z p.small)
        (subst (λ (q : Float). magnitude q ≼ a.low i ⊞ (1 over (2 ^ 45))) z (w.above i l))
        (subst (λ (q : Float). a.high i ≼ magnitude q ⊞ (1 over (2 ^ 45))) z (w.below i l)))

-- ---- the sum: each pair adds at most 4096 for the rounding, and 256 for its angle
pub record Summed (r acc : Float) (l h : Signed) (e : ℕ) : Type 0 where
  pub finite : Fin r
  pub low_is : Fractions l
  pub high_is : Fractions h
  pub above : SLe (signed_of r) (signed_of acc ⊹ l) e
  pub below : SLe (signed_of acc ⊹ h) (signed_of r) e

none_pos : Fractions none
none_pos = record { gain_is = zero-lt-suc 0; loss_is = zero-lt-suc 0 }

-- T ≤ acc₁ + S, acc₁ ≤ acc + r, r ≤ p : T ≤ acc + (p + S)
chain_up : (T acc acc₁ r p S : Signed) (e : ℕ) → Fractions T → Fractions acc → Fractions acc₁ → Fractions r → Fractions p → Fractions S
    → SLe T (acc₁ ⊹ S) e → SLe acc₁ (acc ⊹ r) 4096 → SLe r p 256 → SLe T (acc ⊹ (p ⊹ S)) (e + 4352)
chain_up T acc acc₁ r p S e «T'» «A'» «B'» «R'» «P'» «S'» h k l =
    let ap' = fractions_add acc p «A'» «P'» in
    let bs' = fractions_add acc₁ S «B'» «S'» in
    let aps' = fractions_add acc (p ⊹ S) «A'» (fractions_add p S «P'» «S'») in
    let o = s_add acc acc r p 0 256 «A'» «A'» «R'» «P'» (s_refl acc) l in
    let x : SLe acc₁ (acc ⊹ p) 4352 = s_trans acc₁ (acc ⊹ r) (acc ⊹ p) 4096 256 «B'» (fractions_add acc r «A'» «R'») ap' k o in
    let y : SLe (acc₁ ⊹ S) ((acc ⊹ p) ⊹ S) (4352 + 0) = s_add acc₁ (acc ⊹ p) S S 4352 0 «B'» ap' «S'» «S'» x (s_refl S) in
    let z : SLe (acc₁ ⊹ S) (acc ⊹ (p ⊹ S)) (4352 + 0 + 0) =
    s_trans (acc₁ ⊹ S) ((acc ⊹ p) ⊹ S) (acc ⊹ (p ⊹ S)) (4352 + 0) 0 bs' (fractions_add (acc ⊹ p) S ap' «S'») aps' y (s_left acc p S) in
    s_trans T (acc₁ ⊹ S) (acc ⊹ (p ⊹ S)) e 4352 «T'» bs' aps' h z

chain_down : (T acc acc₁ r p S : Signed) (e : ℕ) → Fractions T → Fractions acc → Fractions acc₁ → Fractions r → Fractions p → Fractions S
    → SLe (acc₁ ⊹ S) T e → SLe (acc ⊹ r) acc₁ 4096 → SLe p r 256 → SLe (acc ⊹ (p ⊹ S)) T (4352 + e)
chain_down T acc acc₁ r p S e «T'» «A'» «B'» «R'» «P'» «S'» h k l =
    let ap' = fractions_add acc p «A'» «P'» in
    let bs' = fractions_add acc₁ S «B'» «S'» in
    let aps' = fractions_add acc (p ⊹ S) «A'» (fractions_add p S «P'» «S'») in
    let o = s_add acc acc p r 0 256 «A'» «A'» «P'» «R'» (s_refl acc) l in
    let x : SLe (acc ⊹ p) acc₁ 4352 = s_trans (acc ⊹ p) (acc ⊹ r) acc₁ 256 4096 ap' (fractions_add acc r «A'» «R'») «B'» o k in
    let y : SLe ((acc ⊹ p) ⊹ S) (acc₁ ⊹ S) (4352 + 0) = s_add (acc ⊹ p) acc₁ S S 4352 0 ap' «B'» «S'» «S'» x (s_refl S) in
    let z : SLe (acc ⊹ (p ⊹ S)) (acc₁ ⊹ S) (0 + (4352 + 0)) =
    s_trans (acc ⊹ (p ⊹ S)) ((acc ⊹ p) ⊹ S) (acc₁ ⊹ S) 0 (4352 + 0) aps' (fractions_add (acc ⊹ p) S ap' «S'») bs' (s_right acc p S) y in
    s_trans (acc ⊹ (p ⊹ S)) (acc₁ ⊹ S) T 4352 e aps' bs' «T'» z h

summed : (i : ℕ) → 48 ≤ i → (ps : List Pair) (acc : Float) (k : ℕ) → Fin acc → (magnitude acc).num ≤ 6 * k * (magnitude acc).den → k + length ps ≤ 512 → AllAimed ps
    → Summed (total acc ps) acc (low_sum ps i) (high_sum ps i) (4352 * length ps)
unfolding low_sum high_sum
summed i l [] acc k f b n a = record { finite = f; low_is = none_pos; high_is = none_pos; above = zero_up (signed_of acc); below = zero_down (signed_of acc) }
  where
    zero_up : (s : Signed) → SLe s (s ⊹ none) (4352 * 0)
    zero_up s = omega arith

    zero_down : (s : Signed) → SLe (s ⊹ none) s (4352 * 0)
    zero_down s = omega arith
summed i l (p ∷ ps) acc k f b n a =
    let r = A.atan2 p.y p.x in
    let w = aim p.y p.x i l a.0 in
    let acc₁ = add binary64 acc r in
    let c : k < 512 = omega arith in
    let o : (magnitude acc ⊞ magnitude r).num ≤ (6 * k + 5) * (magnitude acc ⊞ magnitude r).den = bound (magnitude acc).num (magnitude acc).den (magnitude r).num (magnitude r).den k b w.small in
    let d : SNear acc₁ (signed_of acc ⊹ signed_of r) 4096 = add_signed acc r 12 f w.finite (lit≤ tt) (wide ((magnitude acc).den * (magnitude r).den) k c o) in
    let z : (magnitude acc₁).num ≤ (6 * k + 5 + 1) * (magnitude acc₁).den = add_size acc r (6 * k + 5) f w.finite o (omega arith) in
    let s = summed i l ps acc₁ (suc k) d.finite (next (magnitude acc₁).num (magnitude acc₁).den k z) (omega arith) a.1 in
    record {
      finite = s.finite;
      low_is = fractions_add (low_end p.y p.x i) (low_sum ps i) w.low_is s.low_is;
      high_is = fractions_add (high_end p.y p.x i) (high_sum ps i) w.high_is s.high_is;
      above =
          s_grow (signed_of (total acc₁ ps)) (signed_of acc ⊹ (low_end p.y p.x i ⊹ low_sum ps i)) (4352 * length ps + 4352) (4352 * suc (length ps)) (omega arith)
          (chain_up (signed_of (total acc₁ ps)) (signed_of acc) (signed_of acc₁) (signed_of r) (low_end p.y p.x i) (low_sum ps i) (4352 * length ps)
          (signed_pos (total acc₁ ps)) (signed_pos acc) (signed_pos acc₁) (signed_pos r) w.low_is s.low_is s.above d.above w.above);
      below =
          s_grow (signed_of acc ⊹ (high_end p.y p.x i ⊹ high_sum ps i)) (signed_of (total acc₁ ps)) (4352 + 4352 * length ps) (4352 * suc (length ps)) (omega arith)
          (chain_down (signed_of (total acc₁ ps)) (signed_of acc) (signed_of acc₁) (signed_of r) (high_end p.y p.x i) (high_sum ps i) (4352 * length ps)
          (signed_pos (total acc₁ ps)) (signed_pos acc) (signed_pos acc₁) (signed_pos r) w.high_is s.high_is s.below d.below w.below);
    }
  where
    bound : (a b c d k : ℕ) → a ≤ 6 * k * b → c ≤ 5 * d → a * d + c * b ≤ (6 * k + 5) * (b * d)
    bound a b c d k h l = omega (arith, mul-le-mul_right d h, mul-le-mul_right b l)

    wide : {u : ℕ} (v k : ℕ) → k < 512 → u ≤ (6 * k + 5) * v → u ≤ 4096 * v
    wide {u} v k c h = let t : (6 * k + 5) * v ≤ 4096 * v = mul-le-mul_right v (omega arith) in omega arith

    next : (a b k : ℕ) → a ≤ (6 * k + 5 + 1) * b → a ≤ 6 * suc k * b
    next a b k h = omega arith

-- ---- a steady sum
zero_is : F.zero ≡ fin false 0 (pos 0)
unfolding of_bits
zero_is = refl

-- m / n is the size, of at least 2 ^ -30; g and l are the gain and the loss at the end that is nearer to 0
apart : (m n g h l k e : ℕ) → 0 < n → 0 < h → 0 < k → n ≤ m * 1073741824 → e ≤ 2228224
    → m * k * h * 9007199254740992 + l * n * h * 9007199254740992 ≤ g * n * k * 9007199254740992 + e * (n * k * h) → l * h < g * k
apart m n g h l k e N H K s b z =
    let p : n * (k * h) * 8388608 ≤ m * (k * h) * 9007199254740992 = omega (arith, mul-le-mul_right (k * h) s) in
    let q : e * (n * k * h) ≤ 2228224 * (n * k * h) = mul-le-mul_right (n * k * h) b in
    let t : 0 < n * (k * h) = mul-pos N (mul-pos K H) in
    lt_of_mul-lt-mul_right (n * 9007199254740992) (omega arith)

steady : (ps : List Pair) (r : Float) → ((i : ℕ) → 48 ≤ i → Summed r (fin false 0 (pos 0)) (low_sum ps i) (high_sum ps i) (4352 * length ps)) → length ps ≤ 512
    → (1 over (2 ^ 30)) ≼ magnitude r → SameSign r ps
steady ps nan s n b = (s 48 (lit≤ tt)).finite
steady ps (inf t) s n b = (s 48 (lit≤ tt)).finite
steady ps (fin false m e) s n b = λ i l.
    let w = s i l in
    let G = (low_sum ps i).gain in
    let L = (low_sum ps i).loss in
    apart (m * up e) (down e) G.num G.den L.num L.den (4352 * length ps) (down_pos e) w.low_is.gain_is w.low_is.loss_is (omega (arith, b)) (omega arith)
    (plain (m * up e) (down e) G.num G.den L.num L.den (4352 * length ps) w.above)
  where
    plain : (m n g h l k e : ℕ)
        → (m * (1 * k) + (0 * k + l * 1) * n) * (1 * h * 1) * 9007199254740992 ≤ ((0 * h + g * 1) * 1 + 0 * (1 * h)) * (n * (1 * k)) * 9007199254740992 + e * (n * (1 * k) * (1 * h * 1))
        → m * k * h * 9007199254740992 + l * n * h * 9007199254740992 ≤ g * n * k * 9007199254740992 + e * (n * k * h)
    plain m n g h l k e z = omega arith
steady ps (fin true m e) s n b = λ i l.
    let w = s i l in
    let G = (high_sum ps i).gain in
    let L = (high_sum ps i).loss in
    apart (m * up e) (down e) L.num L.den G.num G.den (4352 * length ps) (down_pos e) w.high_is.loss_is w.high_is.gain_is (omega (arith, b)) (omega arith)
    (plain (m * up e) (down e) L.num L.den G.num G.den (4352 * length ps) w.below)
  where
    plain : (m n g h l k e : ℕ)
        → ((0 * k + l * 1) * n + m * (1 * k)) * (1 * (1 * h)) * 9007199254740992 ≤ (0 * (1 * h) + (0 * h + g * 1) * 1) * (1 * k * n) * 9007199254740992 + e * (1 * k * n * (1 * (1 * h)))
        → m * k * h * 9007199254740992 + l * n * h * 9007199254740992 ≤ g * n * k * 9007199254740992 + e * (n * k * h)
    plain m n g h l k e z = omega arith

-- the sum from 0 of at most 512 angles is near the exact sum
from_zero : (ps : List Pair) → length ps ≤ 512 → AllAimed ps → (i : ℕ) → 48 ≤ i
    → Summed (total F.zero ps) F.zero (low_sum ps i) (high_sum ps i) (4352 * length ps)
from_zero ps n a i l = summed i l ps F.zero 0 (subst Fin (sym zero_is) tt) none_yet (omega arith) a
  where
    none_yet : (magnitude F.zero).num ≤ 6 * 0 * (magnitude F.zero).den
    none_yet = subst (λ (z : Float). (magnitude z).num ≤ 6 * 0 * (magnitude z).den) (sym zero_is) (lit≤ tt)

-- where it is at least 2 ^ -30 in size, it has the sign of the exact sum
pub steady_sign : Decides 30 48
steady_sign ps n a b = steady ps (total F.zero ps) sums n b
  where
    sums : (i : ℕ) → 48 ≤ i → Summed (total F.zero ps) (fin false 0 (pos 0)) (low_sum ps i) (high_sum ps i) (4352 * length ps)
    sums i l = subst (λ (z : Float). Summed (total F.zero ps) z (low_sum ps i) (high_sum ps i) (4352 * length ps)) zero_is (from_zero ps n a i l)

-- it is finite, whatever its size
pub total_finite : (ps : List Pair) → length ps ≤ 512 → AllAimed ps → Fin (total F.zero ps)
total_finite ps n a = (from_zero ps n a 48 (lit≤ tt)).finite
