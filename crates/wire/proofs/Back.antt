-- What is written is read back: a number below 2 ^ 64, and every float of the format. Assumes nothing.
use mathlib.Core.Path.{◌≡◌, ap, ◌∙◌}
use mathlib.Core.List.{List, ◌++◌}
use Prim.Native.Nat.{ℕ, ◌+◌, ◌*◌, ◌/◌, ◌%◌, ◌<◌}
use native.Mathlib.Omega.{arith}
use lib.Dec.{T}
use lib.Ieee.{Float, binary64, of_bits, fits, to_bits}
use lib.Ieee.Bits.{of_bits-to_bits, to_bits-lt}
use Rattle.wire.specs.Wire.{u64_of, bytes8, float_of, float_bytes}

two : (n : ℕ) → n % 256 + 256 * (n / 256 % 256) ≡ n % 65536
two n = omega arith

four : (n : ℕ) → n % 65536 + 65536 * (n / 65536 % 65536) ≡ n % 4294967296
four n = omega arith

upper : (n : ℕ) → n / 281474976710656 ≡ n / 4294967296 / 65536
upper n = omega arith

whole : (n : ℕ) → n < 18446744073709551616 → n % 4294967296 + 4294967296 * (n / 4294967296 % 4294967296) ≡ n
whole n h = omega arith

pub number_back : (n : ℕ) (r : List ℕ) → n < 18446744073709551616 → u64_of (bytes8 n ++ r) 0 ≡ n
unfolding u64_of bytes8
number_back n r h = rw (two n, two (n / 65536), two (n / 4294967296), two (n / 281474976710656), four n, upper n, four (n / 4294967296)) (whole n h)

pub float_back : (x : Float) (r : List ℕ) → T (fits binary64 x) → float_of (float_bytes x ++ r) 0 ≡ x
float_back x r t = ap (of_bits binary64) (number_back (to_bits binary64 x) r (to_bits-lt binary64 x t)) ∙ of_bits-to_bits binary64 x t
