-- The order of fractions up to a multiple of 2 ^ -53 goes through sums, differences, products and quotients. Assumes nothing.
use mathlib.Core.Path.{◌≡◌, sym, ap₂, ◌∙◌, subst}
use Prim.Native.Nat.{ℕ, ◌+◌, ◌-◌, ◌*◌, ◌≤◌, ◌<◌}
use native.Mathlib.Nat.{mul-le-mul, mul-le-mul_right, le_of_mul-le-mul_right, mul-pos, mul_comm, mul-sub, add-mul}
use native.Mathlib.Omega.{arith}
use lib.Dec.{lit<}
use Rattle.fractions.specs.Frac.{Frac, ◌⊞◌, ◌⊟◌, ◌⊠◌, ◌⧄◌, ◌≼◌}

-- a is at most b + e * 2 ^ -53
abbrev pub Le : Frac → Frac → ℕ → Type 0
Le a b e = a.num * b.den * 9007199254740992 ≤ b.num * a.den * 9007199254740992 + e * (a.den * b.den)

-- on the numbers alone
trans_at : (w an ad bn bd cn cd e f : ℕ) → 0 < bd
    → an * bd * w ≤ bn * ad * w + e * (ad * bd)
    → bn * cd * w ≤ cn * bd * w + f * (bd * cd)
    → an * cd * w ≤ cn * ad * w + (e + f) * (ad * cd)
trans_at w an ad bn bd cn cd e f B h k = le_of_mul-le-mul_right {k = bd} (omega (arith, mul-le-mul_right cd h, mul-le-mul_right ad k)) B

mul_at : (w an ad bn bd cn cd e g : ℕ)
    → an * bd * w ≤ bn * ad * w + e * (ad * bd) → e * cn ≤ g * cd
    → an * cn * (bd * cd) * w ≤ bn * cn * (ad * cd) * w + g * (ad * cd * (bd * cd))
mul_at w an ad bn bd cn cd e g h k = omega (arith, mul-le-mul_right (cn * cd) h, mul-le-mul_right (ad * bd * cd) k)

add_at : (w an ad bn bd cn cd dn dd e f : ℕ)
    → an * bd * w ≤ bn * ad * w + e * (ad * bd)
    → cn * dd * w ≤ dn * cd * w + f * (cd * dd)
    → (an * cd + cn * ad) * (bd * dd) * w ≤ (bn * dd + dn * bd) * (ad * cd) * w + (e + f) * (ad * cd * (bd * dd))
add_at w an ad bn bd cn cd dn dd e f h k =
    let p : an * cd * (bd * dd) * w ≤ bn * dd * (ad * cd) * w + e * (ad * cd * (bd * dd)) = omega (arith, mul-le-mul_right (cd * dd) h) in
    let q : cn * ad * (bd * dd) * w ≤ dn * bd * (ad * cd) * w + f * (ad * cd * (bd * dd)) = omega (arith, mul-le-mul_right (ad * bd) k) in
    go (an * cd) (cn * ad) (bn * dd) (dn * bd) (bd * dd) (ad * cd) p q
  where
    go : (a c b d u v : ℕ) → a * u * w ≤ b * v * w + e * (v * u) → c * u * w ≤ d * v * w + f * (v * u) → (a + c) * u * w ≤ (b + d) * v * w + (e + f) * (v * u)
    go a c b d u v p q = omega arith

div_at : (w an ad bn bd cn cd dn dd e f : ℕ)
    → an * bd * w ≤ bn * ad * w + e * (ad * bd)
    → dn * cd * w ≤ cn * dd * w + f * (dd * cd)
    → cd ≤ cn → bn * dd ≤ dn * bd
    → an * cd * (dn * bd) * w ≤ bn * dd * (cn * ad) * w + (e * (cn * ad * (dn * bd)) + f * (cn * ad * (dn * bd)))
div_at w an ad bn bd cn cd dn dd e f h k o l =
    let p : an * cd * (dn * bd) * w ≤ bn * ad * (cd * dn) * w + e * (ad * bd * (cd * dn)) = omega (arith, mul-le-mul_right (cd * dn) h) in
    let q : bn * ad * (cd * dn) * w ≤ bn * dd * (cn * ad) * w + f * (bn * dd * (ad * cd)) = omega (arith, mul-le-mul_right (bn * ad) k) in
    let r : e * (ad * bd * (cd * dn)) ≤ e * (cn * ad * (dn * bd)) = omega (arith, mul-le-mul_right (e * (ad * bd * dn)) o) in
    let t : f * (bn * dd * (ad * cd)) ≤ f * (cn * ad * (dn * bd)) = omega (arith, mul-le-mul_right (f * ad) (mul-le-mul l o)) in
    sum4 _ _ _ _ _ _ _ p q r t
  where
    sum4 : (x u v a a' b b' : ℕ) → x ≤ u + a → u ≤ v + b → a ≤ a' → b ≤ b' → x ≤ v + (a' + b')
    sum4 x u v a a' b b' p q r t = omega arith

-- the differences, x and y, with x = an cd - cn ad and so on
pub sub_mul : (a c u : ℕ) → (a - c) * u ≡ a * u - c * u
sub_mul a c u = mul_comm (a - c) u ∙ mul-sub u a c ∙ ap₂ (λ (x y : ℕ). x - y) (mul_comm u a) (mul_comm u c)

sub_at : (w an ad bn bd cn cd dn dd e f : ℕ)
    → an * bd * w ≤ bn * ad * w + e * (ad * bd)
    → dn * cd * w ≤ cn * dd * w + f * (dd * cd)
    → (an * cd - cn * ad) * (bd * dd) * w ≤ (bn * dd - dn * bd) * (ad * cd) * w + (e + f) * (ad * cd * (bd * dd))
sub_at w an ad bn bd cn cd dn dd e f h k =
    let p : an * cd * (bd * dd) * w ≤ bn * dd * (ad * cd) * w + e * (ad * cd * (bd * dd)) = omega (arith, mul-le-mul_right (cd * dd) h) in
    let q : dn * bd * (ad * cd) * w ≤ cn * ad * (bd * dd) * w + f * (ad * cd * (bd * dd)) = omega (arith, mul-le-mul_right (ad * bd) k) in
    go (an * cd) (cn * ad) (bn * dd) (dn * bd) (bd * dd) (ad * cd) p q
  where
    go : (a c b d u v : ℕ) → a * u * w ≤ b * v * w + e * (v * u) → d * v * w ≤ c * u * w + f * (v * u)
        → (a - c) * u * w ≤ (b - d) * v * w + (e + f) * (v * u)
    go a c b d u v p q = omega (arith, sub_mul a c (u * w), sub_mul b d (v * w))

-- ---- the laws
abbrev pub Pos : Frac → Type 0
Pos a = 0 < a.den

pub le_grow : (a b : Frac) (e f : ℕ) → e ≤ f → Le a b e → Le a b f
le_grow a b e f h l = omega (arith, mul-le-mul_right (a.den * b.den) h)

pub le_trans : (a b c : Frac) (e f : ℕ) → Pos b → Le a b e → Le b c f → Le a c (e + f)
le_trans a b c e f B h k = trans_at 9007199254740992 a.num a.den b.num b.den c.num c.den e f B h k

-- times c, for a g of at least e * c
pub le_mul : (a b c : Frac) (e g : ℕ) → Le a b e → e * c.num ≤ g * c.den → Le (a ⊠ c) (b ⊠ c) g
le_mul a b c e g h k = mul_at 9007199254740992 a.num a.den b.num b.den c.num c.den e g h k

pub mul_le : (a b c : Frac) (e g : ℕ) → Le a b e → e * c.num ≤ g * c.den → Le (c ⊠ a) (c ⊠ b) g
mul_le a b c e g h k = omega (arith, mul_at 9007199254740992 a.num a.den b.num b.den c.num c.den e g h k)

pub le_add : (a b c d : Frac) (e f : ℕ) → Le a b e → Le c d f → Le (a ⊞ c) (b ⊞ d) (e + f)
le_add a b c d e f h k = add_at 9007199254740992 a.num a.den b.num b.den c.num c.den d.num d.den e f h k

pub le_sub : (a b c d : Frac) (e f : ℕ) → Le a b e → Le d c f → Le (a ⊟ c) (b ⊟ d) (e + f)
le_sub a b c d e f h k = sub_at 9007199254740992 a.num a.den b.num b.den c.num c.den d.num d.den e f h k

-- a / c against b / d, for a c of at least 1 and b ≤ d
pub le_div : (a b c d : Frac) (e f : ℕ) → Le a b e → Le d c f → c.den ≤ c.num → b ≼ d → Le (a ⧄ c) (b ⧄ d) (e + f)
le_div a b c d e f h k o l =
    subst (λ (z : ℕ). a.num * c.den * (d.num * b.den) * 9007199254740992 ≤ b.num * d.den * (c.num * a.den) * 9007199254740992 + z)
    (sym (add-mul e f (c.num * a.den * (d.num * b.den))))
    (div_at 9007199254740992 a.num a.den b.num b.den c.num c.den d.num d.den e f h k o l)

-- at any scale w: a is at most b + e / w
abbrev pub LeAt : ℕ → Frac → Frac → ℕ → Type 0
LeAt w a b e = a.num * b.den * w ≤ b.num * a.den * w + e * (a.den * b.den)

pub le_at_sub : (w : ℕ) (a b c d : Frac) (e f : ℕ) → LeAt w a b e → LeAt w d c f → LeAt w (a ⊟ c) (b ⊟ d) (e + f)
le_at_sub w a b c d e f h k = sub_at w a.num a.den b.num b.den c.num c.den d.num d.den e f h k

-- from the order, and back to a bound by a whole number
pub le_of : (a b : Frac) → a ≼ b → Le a b 0
le_of a b h = omega arith

pub le_bound : (a b : Frac) (e i : ℕ) → Pos b → Le a b e → e ≤ 9007199254740992 → b.num ≤ i * b.den → a.num ≤ (i + 1) * a.den
le_bound a b e i B h k l =
    le_of_mul-le-mul_right {k = b.den * 9007199254740992}
    (omega (arith, h, mul-le-mul_right (a.den * 9007199254740992) l, mul-le-mul_right (a.den * b.den) k)) (mul-pos B (lit< tt))
