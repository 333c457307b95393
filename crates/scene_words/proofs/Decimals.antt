-- A number below 100,000 is written in decimal as it is: digits alone, no leading zero, and its value. Assumes nothing.
use Prim.Native.Nat.{ℕ, zero, suc, ◌+◌, ◌*◌, ◌/◌, ◌%◌, ◌≤◌, ◌<◌}
use mathlib.Core.Path.{◌≡◌, refl, ◌∙◌}
use mathlib.Core.Bool.{Bool, true, false}
use mathlib.Core.List.{List, [], ◌∷◌}
use native.Mathlib.Nat.{not-suc-le-zero, le_of_suc-le-suc}
use native.Mathlib.Omega.{arith}
use lib.ListN.{length, get_or}
use lib.Dec.{ltb}
use borrow.Author.Tests.{lt-ltb, le-ltb, ltb-true, ltb-false}
use Rattle.scene_words.specs.Words.{decimal}
use Rattle.scene_words.specs.Decimals.{value_from, Right, Decimals}

-- ---- nothing but digits
record Digits (l : List ℕ) : Type 0 where
  each : (i : ℕ) → i < length l → (48 ≤ get_or l i 0) × (get_or l i 0 ≤ 57)

none : Digits []
none = record { each = λ i h. absurd (not-suc-le-zero h) }

after : (k : ℕ) {l : List ℕ} → Digits l → (i : ℕ) → i < length ((48 + k % 10) ∷ l) → (48 ≤ get_or ((48 + k % 10) ∷ l) i 0) × (get_or ((48 + k % 10) ∷ l) i 0 ≤ 57)
after k f zero h = omega arith
after k f (suc i) h = f.each i (le_of_suc-le-suc h)

one_more : (k : ℕ) {l : List ℕ} → Digits l → Digits ((48 + k % 10) ∷ l)
one_more k f = record { each = after k f }

values : (a b c d e : ℕ) → value_from 0 ((48 + a) ∷ (48 + b) ∷ (48 + c) ∷ (48 + d) ∷ (48 + e) ∷ []) ≡ 10000 * a + 1000 * b + 100 * c + 10 * d + e
unfolding value_from
values a b c d e = omega arith

-- ---- by how many digits there are
module _ (n : ℕ) where
  -- n without its last digits is ten times n without one more, and that digit
  tens : n / 10 ≡ 10 * (n / 100) + n / 10 % 10
  tens = omega arith

  hundreds : n / 100 ≡ 10 * (n / 1000) + n / 100 % 10
  hundreds = omega arith

  thousands : n / 1000 ≡ 10 * (n / 10000) + n / 1000 % 10
  thousands = omega arith

  ten_thousands : n < 100000 → n / 10000 % 10 ≡ n / 10000
  ten_thousands h = omega arith

  -- the digits make up the number
  whole : n < 100000 → 10000 * (n / 10000 % 10) + 1000 * (n / 1000 % 10) + 100 * (n / 100 % 10) + 10 * (n / 10 % 10) + n % 10 ≡ n
  whole h = rw (ten_thousands h) (omega (arith, tens, hundreds, thousands))

  one : n < 10 → Right n (decimal n)
  unfolding decimal value_from
  one h =
      rw (lt-ltb n 10000 (omega arith), lt-ltb n 1000 (omega arith), lt-ltb n 100 (omega arith), lt-ltb n 10 h) record {
        some = omega arith;
        digits = (one_more n none).each;
        no_leading_zero = λ k. omega arith;
        value = omega arith;
      }

  two : 10 ≤ n → n < 100 → Right n (decimal n)
  unfolding decimal value_from
  two g h =
      rw (lt-ltb n 10000 (omega arith), lt-ltb n 1000 (omega arith), lt-ltb n 100 h, le-ltb n 10 g) record {
        some = omega arith;
        digits = (one_more (n / 10) (one_more n none)).each;
        no_leading_zero = λ k. omega arith;
        value = omega arith;
      }

  three : 100 ≤ n → n < 1000 → Right n (decimal n)
  unfolding decimal value_from
  three g h =
      rw (lt-ltb n 10000 (omega arith), lt-ltb n 1000 h, le-ltb n 100 g, le-ltb n 10 (omega arith)) record {
        some = omega arith;
        digits = (one_more (n / 100) (one_more (n / 10) (one_more n none))).each;
        no_leading_zero = λ k. omega arith;
        value = values 0 0 (n / 100 % 10) (n / 10 % 10) (n % 10) ∙ omega (arith, whole (omega arith));
      }

  four : 1000 ≤ n → n < 10000 → Right n (decimal n)
  unfolding decimal value_from
  four g h =
      rw (lt-ltb n 10000 h, le-ltb n 1000 g, le-ltb n 100 (omega arith), le-ltb n 10 (omega arith)) record {
        some = omega arith;
        digits = (one_more (n / 1000) (one_more (n / 100) (one_more (n / 10) (one_more n none)))).each;
        no_leading_zero = λ k. omega arith;
        value = values 0 (n / 1000 % 10) (n / 100 % 10) (n / 10 % 10) (n % 10) ∙ omega (arith, whole (omega arith));
      }

  five : 10000 ≤ n → n < 100000 → Right n (decimal n)
  unfolding decimal value_from
  five g h =
      rw (le-ltb n 10000 g, le-ltb n 1000 (omega arith), le-ltb n 100 (omega arith), le-ltb n 10 (omega arith)) record {
        some = omega arith;
        digits = (one_more (n / 10000) (one_more (n / 1000) (one_more (n / 100) (one_more (n / 10) (one_more n none))))).each;
        no_leading_zero = λ k. omega arith;
        value = values (n / 10000 % 10) (n / 1000 % 10) (n / 100 % 10) (n / 10 % 10) (n % 10) ∙ whole h;
      }

  below : (a b c d : Bool) → ltb n 10 ≡ a → ltb n 100 ≡ b → ltb n 1000 ≡ c → ltb n 10000 ≡ d → n < 100000 → Right n (decimal n)
  below true b c d p q r s h = one (ltb-true _ _ p)
  below false true c d p q r s h = two (ltb-false _ _ p) (ltb-true _ _ q)
  below false false true d p q r s h = three (ltb-false _ _ q) (ltb-true _ _ r)
  below false false false true p q r s h = four (ltb-false _ _ r) (ltb-true _ _ s)
  below false false false false p q r s h = five (ltb-false _ _ s) h

pub decimals : Decimals
decimals n h = below n (ltb n 10) (ltb n 100) (ltb n 1000) (ltb n 10000) refl refl refl refl h
