-- SCOPE 1: Rust's operators on `f64`, each rounded once, and the constants that the rules name. Definitions only.
use Rattle.std.specs.Prelude.{Float}
use Rattle.std.specs.Float.{binary64}
use Rattle.std.specs.Float.Ieee.{of_bits, add, sub, mul, div}

infixl 65 ◌⊕◌
infixl 65 ◌⊖◌
infixl 70 ◌⊗◌
infixl 70 ◌⊘◌
abbrev pub ◌⊕◌ : Float → Float → Float
a ⊕ b = add binary64 a b

abbrev pub ◌⊖◌ : Float → Float → Float
a ⊖ b = sub binary64 a b

abbrev pub ◌⊗◌ : Float → Float → Float
a ⊗ b = mul binary64 a b

abbrev pub ◌⊘◌ : Float → Float → Float
a ⊘ b = div binary64 a b

-- 0.0, 0.25, 0.5, 1.0, 2.0, 4.0 and -1.0
abbrev pub zero : Float
zero = of_bits binary64 0

abbrev pub quarter : Float
quarter = of_bits binary64 0x3fd0_0000_0000_0000

abbrev pub half : Float
half = of_bits binary64 0x3fe0_0000_0000_0000

abbrev pub one : Float
one = of_bits binary64 0x3ff0_0000_0000_0000

abbrev pub two : Float
two = of_bits binary64 0x4000_0000_0000_0000

abbrev pub four : Float
four = of_bits binary64 0x4010_0000_0000_0000

abbrev pub minus_one : Float
minus_one = of_bits binary64 0xbff0_0000_0000_0000

-- 2^-52 and 10 * 2^-52
abbrev pub epsilon : Float
epsilon = of_bits binary64 0x3cb0_0000_0000_0000

abbrev pub ten_epsilon : Float
ten_epsilon = of_bits binary64 0x3ce4_0000_0000_0000
