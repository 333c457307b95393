-- SCOPE 42: fractions of whole numbers, num / den with a den above 0, not reduced; and the size of a float as one. Definitions only.
use Rattle.std.specs.Prelude.{ℕ, ◌+◌, ◌-◌, ◌*◌, ◌≤◌, Float}
use Rattle.std.specs.Float.{nan, inf, fin}
use Rattle.std.specs.Float.Ieee.{up, down}

pub record Frac : Type 0 where
  pub num : ℕ
  pub den : ℕ

infix 75 ◌over◌
abbrev pub ◌over◌ : ℕ → ℕ → Frac
n over d = record { num = n; den = d }

-- ---- sums, differences, products, quotients, and the order by cross multiplication
infixl 65 ◌⊞◌
infixl 65 ◌⊟◌
infixl 70 ◌⊠◌
infixl 70 ◌⧄◌
infix 50 ◌≼◌
abbrev pub ◌⊞◌ : Frac → Frac → Frac
a ⊞ b = (a.num * b.den + b.num * a.den) over (a.den * b.den)

-- cut at 0 where b is above a
abbrev pub ◌⊟◌ : Frac → Frac → Frac
a ⊟ b = (a.num * b.den - b.num * a.den) over (a.den * b.den)

abbrev pub ◌⊠◌ : Frac → Frac → Frac
a ⊠ b = (a.num * b.num) over (a.den * b.den)

abbrev pub ◌⧄◌ : Frac → Frac → Frac
a ⧄ b = (a.num * b.den) over (b.num * a.den)

abbrev pub ◌≼◌ : Frac → Frac → Type 0
a ≼ b = a.num * b.den ≤ b.num * a.den

-- ---- the size of a finite value, m 2^e with its sign left off: `up e` is 2^e or 1, `down e` 1 or 2^-e
abbrev pub magnitude : Float → Frac
magnitude nan = 0 over 1
magnitude (inf s) = 0 over 1
magnitude (fin s m e) = (m * up e) over (down e)
