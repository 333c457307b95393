-- Signed fractions in order, up to a multiple of 2 ^ -53. Assumes nothing.
use mathlib.Core.Path.{◌≡◌, sym}
use Prim.Native.Nat.{ℕ, ◌+◌, ◌-◌, ◌*◌, ◌≤◌, ◌<◌}
use native.Mathlib.Nat.{mul-pos, le_of_mul-le-mul_right}
use native.Mathlib.Omega.{arith}
use Rattle.fractions.specs.Frac.{Frac, ◌⊞◌}
use Rattle.exact_angles.specs.Steady.{Signed, ◌⊹◌, Fractions}
use Rattle.fractions.proofs.Order.{Same, same_le, interchange}
use Rattle.fractions.proofs.Frac.{Le, Pos, le_trans, le_add, le_grow}

-- ---- sums regrouped, and cancelled
mix : (a b c d p q r s : ℕ)
    → ((a * q + b * p) * (r * s) + (c * s + d * r) * (p * q)) * (p * s * (r * q)) ≡ ((a * s + d * p) * (r * q) + (c * q + b * r) * (p * s)) * (p * q * (r * s))
mix a b c d p q r s = omega arith

mixed : (a b c d : Frac) → Same ((a ⊞ b) ⊞ (c ⊞ d)) ((a ⊞ d) ⊞ (c ⊞ b))
mixed a b c d = mix a.num b.num c.num d.num a.den b.den c.den d.den

cancel_at : (a b c d z w e : ℕ) → 0 < w
    → (a * w + z * b) * (d * w) * 9007199254740992 ≤ (c * w + z * d) * (b * w) * 9007199254740992 + e * (b * w * (d * w))
    → a * d * 9007199254740992 ≤ c * b * 9007199254740992 + e * (b * d)
cancel_at a b c d z w e W h = le_of_mul-le-mul_right {k = w * w} (omega arith) (mul-pos W W)

cancel : (x y z : Frac) (e : ℕ) → Pos z → Le (x ⊞ z) (y ⊞ z) e → Le x y e
cancel x y z e Z h = cancel_at x.num x.den y.num y.den z.num z.den e Z h

-- ---- a is at most b + e * 2 ^ -53
abbrev pub SLe : Signed → Signed → ℕ → Type 0
SLe a b e = Le (a.gain ⊞ b.loss) (b.gain ⊞ a.loss) e

pub fractions_add : (a b : Signed) → Fractions a → Fractions b → Fractions (a ⊹ b)
fractions_add a b h k = record { gain_is = mul-pos h.gain_is k.gain_is; loss_is = mul-pos h.loss_is k.loss_is }

pub s_trans : (a b c : Signed) (e f : ℕ) → Fractions a → Fractions b → Fractions c → SLe a b e → SLe b c f → SLe a c (e + f)
s_trans a b c e f A B C h k =
    let u = (a.gain ⊞ c.loss) ⊞ (b.gain ⊞ b.loss) in
    let v = (a.gain ⊞ b.loss) ⊞ (b.gain ⊞ c.loss) in
    let w = (b.gain ⊞ a.loss) ⊞ (c.gain ⊞ b.loss) in
    let x = (c.gain ⊞ a.loss) ⊞ (b.gain ⊞ b.loss) in
    let Vp : Pos v = mul-pos (mul-pos A.gain_is B.loss_is) (mul-pos B.gain_is C.loss_is) in
    let W : Pos w = mul-pos (mul-pos B.gain_is A.loss_is) (mul-pos C.gain_is B.loss_is) in
    let l : Le u w (0 + (e + f)) = le_trans u v w 0 (e + f) Vp (same_le u v (mixed a.gain c.loss b.gain b.loss)) (le_add (a.gain ⊞ b.loss) (b.gain ⊞ a.loss) (b.gain ⊞ c.loss) (c.gain ⊞ b.loss) e f h k) in
    let m : Le u x (0 + (e + f) + 0) = le_trans u w x (0 + (e + f)) 0 W l (same_le w x (moved b.gain.num a.loss.num c.gain.num b.loss.num b.gain.den a.loss.den c.gain.den b.loss.den)) in
    cancel (a.gain ⊞ c.loss) (c.gain ⊞ a.loss) (b.gain ⊞ b.loss) (e + f) (mul-pos B.gain_is B.loss_is) (le_grow u x (0 + (e + f) + 0) (e + f) (omega arith) m)
  where
    moved : (a b c d p q r s : ℕ)
        → ((a * q + b * p) * (r * s) + (c * s + d * r) * (p * q)) * (r * q * (p * s)) ≡ ((c * q + b * r) * (p * s) + (a * s + d * p) * (r * q)) * (p * q * (r * s))
    moved a b c d p q r s = omega arith

pub s_add : (a b c d : Signed) (e f : ℕ) → Fractions a → Fractions b → Fractions c → Fractions d → SLe a b e → SLe c d f → SLe (a ⊹ c) (b ⊹ d) (e + f)
s_add a b c d e f A B C D h k =
    let u = (a.gain ⊞ c.gain) ⊞ (b.loss ⊞ d.loss) in
    let v = (a.gain ⊞ b.loss) ⊞ (c.gain ⊞ d.loss) in
    let w = (b.gain ⊞ a.loss) ⊞ (d.gain ⊞ c.loss) in
    let x = (b.gain ⊞ d.gain) ⊞ (a.loss ⊞ c.loss) in
    let Vp : Pos v = mul-pos (mul-pos A.gain_is B.loss_is) (mul-pos C.gain_is D.loss_is) in
    let W : Pos w = mul-pos (mul-pos B.gain_is A.loss_is) (mul-pos D.gain_is C.loss_is) in
    let g = interchange a.gain c.gain b.loss d.loss in
    let i = interchange b.gain a.loss d.gain c.loss in
    let o = le_add (a.gain ⊞ b.loss) (b.gain ⊞ a.loss) (c.gain ⊞ d.loss) (d.gain ⊞ c.loss) e f h k in
    let l : Le u w (0 + (e + f)) = le_trans u v w 0 (e + f) Vp (same_le u v g) o in
    let m : Le u x (0 + (e + f) + 0) = le_trans u w x (0 + (e + f)) 0 W l (same_le w x i) in
    le_grow u x (0 + (e + f) + 0) (e + f) (omega arith) m

pub s_refl : (a : Signed) → SLe a a 0
s_refl a = omega arith

-- ---- (a + b) + c is a + (b + c)
assoc : (a b c p q r : ℕ) → ((a * q + b * p) * r + c * (p * q)) * (p * (q * r)) ≡ (a * (q * r) + (b * r + c * q) * p) * (p * q * r)
assoc a b c p q r = omega arith

left : (a b c : Frac) → Le ((a ⊞ b) ⊞ c) (a ⊞ (b ⊞ c)) 0
left a b c = same_le ((a ⊞ b) ⊞ c) (a ⊞ (b ⊞ c)) (assoc a.num b.num c.num a.den b.den c.den)

right : (a b c : Frac) → Le (a ⊞ (b ⊞ c)) ((a ⊞ b) ⊞ c) 0
right a b c = same_le (a ⊞ (b ⊞ c)) ((a ⊞ b) ⊞ c) (sym (assoc a.num b.num c.num a.den b.den c.den))

pub s_left : (a b c : Signed) → SLe ((a ⊹ b) ⊹ c) (a ⊹ (b ⊹ c)) 0
s_left a b c =
    le_add ((a.gain ⊞ b.gain) ⊞ c.gain) (a.gain ⊞ (b.gain ⊞ c.gain)) (a.loss ⊞ (b.loss ⊞ c.loss)) ((a.loss ⊞ b.loss) ⊞ c.loss) 0 0
    (left a.gain b.gain c.gain) (right a.loss b.loss c.loss)

pub s_right : (a b c : Signed) → SLe (a ⊹ (b ⊹ c)) ((a ⊹ b) ⊹ c) 0
s_right a b c =
    le_add (a.gain ⊞ (b.gain ⊞ c.gain)) ((a.gain ⊞ b.gain) ⊞ c.gain) ((a.loss ⊞ b.loss) ⊞ c.loss) (a.loss ⊞ (b.loss ⊞ c.loss)) 0 0
    (right a.gain b.gain c.gain) (left a.loss b.loss c.loss)

pub s_grow : (a b : Signed) (e f : ℕ) → e ≤ f → SLe a b e → SLe a b f
s_grow a b e f h l = le_grow (a.gain ⊞ b.loss) (b.gain ⊞ a.loss) e f h l
