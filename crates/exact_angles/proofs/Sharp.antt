-- `acute t`, for a t near P / Q, is near the sum of 49 terms of Euler's series at P / Q. Assumes nothing.
use mathlib.Core.Path.{subst}
use Prim.Native.Nat.{ℕ, ◌+◌, ◌-◌, ◌*◌, ◌≤◌, ◌<◌}
use native.Mathlib.Nat.{mul-pos, mul-le-mul, mul-le-mul_right, add-sub_of_le}
use native.Mathlib.Omega.{arith}
use lib.Dec.{lit≤}
use lib.Ieee.{Float, binary64, of_bits, add, mul, div}
use Rattle.fractions.specs.Frac.{Frac, ◌over◌, ◌⊞◌, ◌⊠◌, ◌⧄◌, ◌≼◌, magnitude}
use Rattle.numbers.specs.F64.{one}
use Rattle.angle.specs.Arctan.{acute, sum_of}
use Rattle.fractions.proofs.Frac.{le_bound}
use Rattle.fractions.proofs.Round.{Near}
use Rattle.fractions.proofs.Ops.{den_pos, near_mul, near_add, near_div, near_move, mul_le_one, add_ge_one, div_le_one}
use Rattle.exact_angles.proofs.Horner.{nest, nest_pos, nest_small, sum_near}

one_near : Near one (1 over 1) 0
unfolding of_bits
one_near = record { plus = tt; above = lit≤ tt; below = lit≤ tt }

one_le : magnitude one ≼ (1 over 1)
unfolding of_bits
one_le = lit≤ tt

one_ge : (1 over 1) ≼ magnitude one
unfolding of_bits
one_ge = lit≤ tt

pub means : (P Q : ℕ) → P ≤ Q → 2 * (P * Q) ≤ P * P + Q * Q
means P Q h = subst (λ (z : ℕ). 2 * (P * z) ≤ P * P + z * z) (add-sub_of_le h) (at (Q - P))
  where
    at : (d : ℕ) → 2 * (P * (P + d)) ≤ P * P + (P + d) * (P + d)
    at d = omega arith

module _ (t : Float) (P Q : ℕ) (q : 0 < Q) (l : P ≤ Q) (n : Near t (P over Q) 1) (o : magnitude t ≼ (1 over 1)) where
  abbrev R : Frac
  R = P over Q

  abbrev S : Frac
  S = R ⊠ R

  abbrev Z : Frac
  Z = (1 over 1) ⊞ S

  abbrev s : Float
  s = mul binary64 t t

  abbrev z : Float
  z = add binary64 one s

  s_near : Near s S 3
  s_near = near_mul t t R R 1 1 1 1 0 n n q (lit≤ tt) (sq (magnitude t).num (magnitude t).den o) (omega arith) (omega arith)
    where
      sq : (a b : ℕ) → a * 1 ≤ 1 * b → a * a ≤ 1 * (b * b)
      sq a b h = omega (arith, mul-le-mul h h)

  s_le : magnitude s ≼ (1 over 1)
  s_le = mul_le_one t t n.plus n.plus o o

  z_near : Near z Z 5
  z_near = near_add one s (1 over 1) S 0 3 1 one_near s_near (lit≤ tt) (two (magnitude one).num (magnitude one).den (magnitude s).num (magnitude s).den one_le s_le)
    where
      two : (a b c d : ℕ) → a * 1 ≤ 1 * b → c * 1 ≤ 1 * d → a * d + c * b ≤ 2 * (b * d)
      two a b c d h k = omega (arith, mul-le-mul_right d h, mul-le-mul_right b k)

  z_ge : (1 over 1) ≼ magnitude z
  z_ge = add_ge_one one s one_near.plus s_near.plus one_ge z_near.plus

  z_one : (magnitude z).den ≤ (magnitude z).num
  z_one = omega (arith, z_ge)

  z_pos : 0 < (magnitude z).num
  z_pos = omega (arith, z_ge, den_pos z)

  under_z : (x : Float) → magnitude x ≼ (1 over 1) → magnitude x ≼ magnitude z
  under_z x h = at (magnitude x).num (magnitude x).den (magnitude z).num (magnitude z).den h z_ge
    where
      at : (a b c d : ℕ) → a * 1 ≤ 1 * b → 1 * d ≤ c * 1 → a * d ≤ c * b
      at a b c d h k = omega (arith, mul-le-mul h k)

  Z_one : 1 * (Q * Q) ≤ 1 * (Q * Q) + P * P * 1
  Z_one = omega arith

  qq : 0 < Q * Q
  qq = mul-pos q q

  Z_pos : 0 < (1 * (Q * Q) + P * P * 1) * (Q * Q)
  Z_pos = mul-pos (omega (arith, qq)) qq

  -- y and the factor ahead of the sum
  abbrev Y : Frac
  Y = (P * P) over (P * P + Q * Q)

  abbrev F : Frac
  F = (P * Q) over (P * P + Q * Q)

  abbrev y : Float
  y = div binary64 s z

  abbrev f : Float
  f = div binary64 t z

  y_near : Near y Y 9
  y_near =
      near_move y (S ⧄ Z) Y 9 0 Z_pos (near_div s z S Z 3 5 s_near z_near (under_z s s_le) (a1 (P * P) (Q * Q)) z_one Z_one) (a2 (P * P) (Q * Q)) (a3 (P * P) (Q * Q))
    where
      a1 : (u v : ℕ) → u * (1 * v) ≤ (1 * v + u * 1) * v
      a1 u v = omega arith

      a2 : (u v : ℕ) → u * (1 * v) * (u + v) * 9007199254740992 ≤ u * ((1 * v + u * 1) * v) * 9007199254740992 + 0 * ((1 * v + u * 1) * v * (u + v))
      a2 u v = omega arith

      a3 : (u v : ℕ) → u * ((1 * v + u * 1) * v) * 9007199254740992 ≤ u * (1 * v) * (u + v) * 9007199254740992 + 0 * ((u + v) * ((1 * v + u * 1) * v))
      a3 u v = omega arith

  f_near : Near f F 7
  f_near =
      near_move f (R ⧄ Z) F 7 0 (mul-pos (omega (arith, qq)) q) (near_div t z R Z 1 5 n z_near (under_z t o) a1 z_one Z_one) a2 a3
    where
      a1 : P * (1 * (Q * Q)) ≤ (1 * (Q * Q) + P * P * 1) * Q
      a1 = omega (arith, mul-le-mul_right (Q * Q) l)

      a2 : P * (1 * (Q * Q)) * (P * P + Q * Q) * 9007199254740992 ≤ P * Q * ((1 * (Q * Q) + P * P * 1) * Q) * 9007199254740992 + 0 * ((1 * (Q * Q) + P * P * 1) * Q * (P * P + Q * Q))
      a2 = omega arith

      a3 : P * Q * ((1 * (Q * Q) + P * P * 1) * Q) * 9007199254740992 ≤ P * (1 * (Q * Q)) * (P * P + Q * Q) * 9007199254740992 + 0 * ((P * P + Q * Q) * ((1 * (Q * Q) + P * P * 1) * Q))
      a3 = omega arith

  Y_pos : 0 < P * P + Q * Q
  Y_pos = omega (arith, qq)

  Y_half : 2 * (P * P) ≤ P * P + Q * Q
  Y_half = omega (arith, mul-le-mul l l)

  pub acute_near : Near (acute t) (F ⊠ nest Y 0 48) 81
  unfolding acute
  acute_near =
      let g = sum_near y Y Y_pos Y_half y_near (div_le_one s z s_near.plus z_near.plus z_pos (under_z s s_le)) in
      let G : (magnitude (sum_of y)).num ≤ 3 * (magnitude (sum_of y)).den = le_bound (magnitude (sum_of y)) (nest Y 0 48) 112 2 (nest_pos Y Y_pos 48 0) g.above (lit≤ tt) (nest_small Y Y_pos Y_half 48 0) in
      let k : magnitude f ≼ (1 over 1) = div_le_one t z n.plus z_near.plus z_pos (under_z t o) in
      near_mul f (sum_of y) F (nest Y 0 48) 7 112 21 56 2 f_near g Y_pos (lit≤ tt) (four (magnitude f).num (magnitude f).den (magnitude (sum_of y)).num (magnitude (sum_of y)).den k G) (omega arith) (omega (arith, means P Q l))
    where
      four : (a b c d : ℕ) → a * 1 ≤ 1 * b → c ≤ 3 * d → a * c ≤ 4 * (b * d)
      four a b c d h k = omega (arith, mul-le-mul h k)
