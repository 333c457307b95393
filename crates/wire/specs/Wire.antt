-- SCOPE 32: little-endian numbers, floats and vectors in bytes; a vector is read free of -0.0 (SCOPE 3). Definitions only.
use Rattle.std.specs.Prelude.{ℕ, ◌+◌, ◌*◌, ◌/◌, ◌%◌, List, [], ◌∷◌, ◌++◌, length, get_or, Float}
use Rattle.std.specs.Float.{nan, binary64}
use Rattle.std.specs.Float.Ieee.{of_bits, to_bits}
use Rattle.laws.specs.Loop.{flat}
use Rattle.vec3.specs.declared.Vec3.{Vec3}
use Rattle.vec3.specs.Vec.{vec}

-- the bytes of a vector
abbrev pub vec_size : ℕ
vec_size = 24

-- the number at an offset
abbrev pub u16_of : List ℕ → ℕ → ℕ
u16_of s at = get_or s at 0 + 256 * get_or s (at + 1) 0

abbrev pub u32_of : List ℕ → ℕ → ℕ
u32_of s at = u16_of s at + 65536 * u16_of s (at + 2)

unfoldable pub u64_of : List ℕ → ℕ → ℕ
u64_of s at = u32_of s at + 4294967296 * u32_of s (at + 4)

abbrev pub float_of : List ℕ → ℕ → Float
float_of s at = of_bits binary64 (u64_of s at)

abbrev pub vec_of : List ℕ → ℕ → Vec3
vec_of s at = vec (float_of s at) (float_of s (at + 8)) (float_of s (at + 16))

-- n floats from an offset on
abbrev pub float_block : List ℕ → ℕ → ℕ → List Float
float_block s at i = float_of s (at + 8 * i) ∷ []

unfoldable pub floats_at : List ℕ → ℕ → ℕ → List Float
floats_at s at n = flat (float_block s at) n 0

-- n numbers of two bytes each
abbrev pub number_block : List ℕ → ℕ → List ℕ
number_block s i = u16_of s (2 * i) ∷ []

unfoldable pub numbers_at : List ℕ → ℕ → List ℕ
numbers_at s n = flat (number_block s) n 0

-- the bytes of a number, of a float (of a NaN those of 7FF8000000000000) and of a vector
abbrev pub bytes2 : ℕ → List ℕ
bytes2 n = n % 256 ∷ n / 256 % 256 ∷ []

unfoldable pub bytes8 : ℕ → List ℕ
bytes8 n = bytes2 n ++ bytes2 (n / 65536) ++ bytes2 (n / 4294967296) ++ bytes2 (n / 281474976710656)

abbrev pub float_bytes : Float → List ℕ
float_bytes x = bytes8 (to_bits binary64 x)

abbrev pub vec_bytes : Vec3 → List ℕ
vec_bytes v = float_bytes v.x ++ float_bytes v.y ++ float_bytes v.z

-- the bytes of floats, and of numbers of two bytes each
abbrev pub float_bytes_at : List Float → ℕ → List ℕ
float_bytes_at l i = float_bytes (get_or l i nan)

unfoldable pub floats_bytes : List Float → List ℕ
floats_bytes l = flat (float_bytes_at l) (length l) 0

abbrev pub number_bytes_at : List ℕ → ℕ → List ℕ
number_bytes_at l i = bytes2 (get_or l i 0)

unfoldable pub numbers_bytes : List ℕ → List ℕ
numbers_bytes l = flat (number_bytes_at l) (length l) 0
