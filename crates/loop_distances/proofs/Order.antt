-- Doubles that are neither negative nor -0.0 are ordered as the whole numbers of units that they are, and two of the same are one. Assumes nothing.
use Prim.Native.Nat.{ℕ, zero, suc, ◌*◌, ◌/◌, ◌^◌, ◌<◌}
use mathlib.Core.Path.{◌≡◌, refl, sym, ap, ◌∙◌, subst}
use mathlib.Core.Bool.{Bool, true, false}
use native.Mathlib.Nat.{mul-pos, zero-mul, zero-div, mul_right_comm, mul-lt-mul_of_pos_right, lt_of_mul-lt-mul_right}
use native.Mathlib.Omega.{arith}
use lib.IntN.{ℤ}
use lib.Dec.{T, ltb, lt→ltb, ltb→lt}
use lib.Pow.{pow_pos}
use lib.Ieee.{Float, nan, inf, fin, binary64, up, down, fits, lt}
use lib.Ieee.Fits.{down_pos}
use Rattle.root.specs.Root.{in_units}
use Rattle.root.proofs.Units.{same_units}
use Rattle.fractions.proofs.Round.{Plus}
use Rattle.sizes.proofs.Inverse.{units_of}

-- a double that is neither negative nor -0.0, nor NaN or infinite
pub record Held (x : Float) : Type 0 where
  pub plus : Plus x
  pub fit : T (fits binary64 x)

-- so many units, times its denominator
whole : (m : ℕ) (e : ℤ) → T (fits binary64 (fin false m e)) → m * up e * 2 ^ 1074 ≡ in_units (fin false m e) * down e
whole (suc m) e t = units_of m e t
whole zero e t =
    let none : 0 * up e * 2 ^ 1074 ≡ 0 = ap (λ (z : ℕ). z * 2 ^ 1074) (zero-mul (up e)) ∙ zero-mul (2 ^ 1074) in
    none ∙ sym (ap (λ (z : ℕ). z * down e) (ap (λ (z : ℕ). z / down e) none ∙ zero-div (down e)) ∙ zero-mul (down e))

-- the one product is below the other exactly if the units are
module _ (a b d g u v w : ℕ) (D : 0 < d) (G : 0 < g) (W : 0 < w) (x : a * w ≡ u * d) (y : b * w ≡ v * g) where
  scaled_left : a * g * w ≡ u * (d * g)
  scaled_left = mul_right_comm a g w ∙ ap (λ (z : ℕ). z * g) x ∙ omega arith

  scaled_right : b * d * w ≡ v * (d * g)
  scaled_right = mul_right_comm b d w ∙ ap (λ (z : ℕ). z * d) y ∙ omega arith

  pub below_units : a * g < b * d → u < v
  below_units h =
      let k : a * g * w < b * d * w = mul-lt-mul_of_pos_right h W in
      let l : u * (d * g) < v * (d * g) = subst (λ (z : ℕ). z < v * (d * g)) scaled_left (subst (λ (z : ℕ). a * g * w < z) scaled_right k) in
      lt_of_mul-lt-mul_right _ l

  pub units_below : u < v → a * g < b * d
  units_below h =
      let k : u * (d * g) < v * (d * g) = mul-lt-mul_of_pos_right h (mul-pos D G) in
      let l : a * g * w < b * d * w = subst (λ (z : ℕ). z < b * d * w) (sym scaled_left) (subst (λ (z : ℕ). u * (d * g) < z) (sym scaled_right) k) in
      lt_of_mul-lt-mul_right _ l

bool_same : (b c : Bool) → (T b → T c) → (T c → T b) → b ≡ c
bool_same true true f g = refl
bool_same true false f g = absurd (f tt)
bool_same false true f g = absurd (g tt)
bool_same false false f g = refl

-- the order of two is that of their units
pub lt_units : (x y : Float) → Held x → Held y → lt x y ≡ ltb (in_units x) (in_units y)
unfolding lt
lt_units nan y h k = absurd h.plus
lt_units (inf s) y h k = absurd h.plus
lt_units (fin true m e) y h k = absurd h.plus
lt_units (fin false m e) nan h k = absurd k.plus
lt_units (fin false m e) (inf s) h k = absurd k.plus
lt_units (fin false m e) (fin true n d) h k = absurd k.plus
lt_units (fin false m e) (fin false n d) h k =
    let u = in_units (fin false m e) in
    let v = in_units (fin false n d) in
    let x = whole m e h.fit in
    let y = whole n d k.fit in
    bool_same (ltb (m * up e * down d) (n * up d * down e)) (ltb u v)
    (λ (t : T (ltb (m * up e * down d) (n * up d * down e))).
    lt→ltb u v (below_units (m * up e) (n * up d) (down e) (down d) u v (2 ^ 1074) (down_pos e) (down_pos d) (pow_pos 1074) x y (ltb→lt (m * up e * down d) (n * up d * down e) t)))
    (λ (t : T (ltb u v)).
    lt→ltb (m * up e * down d) (n * up d * down e)
    (units_below (m * up e) (n * up d) (down e) (down d) u v (2 ^ 1074) (down_pos e) (down_pos d) (pow_pos 1074) x y (ltb→lt u v t)))

-- two of the same units are one
pub one_of : (x y : Float) → Held x → Held y → in_units x ≡ in_units y → x ≡ y
one_of nan y h k e = absurd h.plus
one_of (inf s) y h k e = absurd h.plus
one_of (fin true m d) y h k e = absurd h.plus
one_of (fin false m d) nan h k e = absurd k.plus
one_of (fin false m d) (inf s) h k e = absurd k.plus
one_of (fin false m d) (fin true n g) h k e = absurd k.plus
one_of (fin false m d) (fin false n g) h k e = same_units m n d g h.fit k.fit e
