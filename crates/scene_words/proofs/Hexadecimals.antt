-- A number below 2^64 is written in hexadecimal as it is: sixteen digits in upper case, and its value. Assumes nothing.
use Prim.Native.Nat.{ℕ, zero, suc, ◌+◌, ◌-◌, ◌*◌, ◌/◌, ◌%◌, ◌^◌, ◌≤◌, ◌<◌}
use mathlib.Core.Path.{◌≡◌, refl, sym, ap, ◌∙◌}
use mathlib.Core.Bool.{Bool, true, false, cond}
use mathlib.Core.Logic.{◌⊎◌, inl, inr}
use native.Mathlib.Nat.{zero-add, pow-suc, div-div-eq-div-mul}
use native.Mathlib.Omega.{arith}
use lib.ListN.{get_or}
use lib.Dec.{ltb}
use borrow.Author.Tests.{lt-ltb, le-ltb, ltb-true, ltb-false}
use Rattle.laws.specs.Loop.{flat}
use Rattle.laws.proofs.Blocks.{get_d_flat}
use Rattle.laws.proofs.Copies.{length_flat}
use Rattle.scene_words.specs.Words.{hex_byte, hex_at, hex}
use Rattle.scene_words.specs.Hexadecimals.{digit_of, hex_value_from, Hexadecimals}

-- ---- one digit
byte_of : (d : ℕ) → d < 16 → (b : Bool) → ltb d 10 ≡ b → ((48 ≤ cond b (48 + d) (55 + d)) × (cond b (48 + d) (55 + d) ≤ 57)) ⊎ ((65 ≤ cond b (48 + d) (55 + d)) × (cond b (48 + d) (55 + d) ≤ 70))
byte_of d h true e = let k : d < 10 = ltb-true _ _ e in inl (omega arith)
byte_of d h false e = let k : 10 ≤ d = ltb-false _ _ e in inr (omega arith)

digit_back : (d : ℕ) → d < 16 → (b : Bool) → ltb d 10 ≡ b → digit_of (cond b (48 + d) (55 + d)) ≡ d
digit_back d h true e = let k : d < 10 = ltb-true _ _ e in let q : 48 + d < 58 = omega arith in rw (lt-ltb _ _ q) (omega arith)
digit_back d h false e = let k : 10 ≤ d = ltb-false _ _ e in let q : 58 ≤ 55 + d = omega arith in rw (le-ltb _ _ q) (omega arith)

-- ---- the value of the digits from an index on, after those before it: 4 k bits are left
module _ (n : ℕ) where
  four_more : (k : ℕ) → n / 2 ^ (4 * suc k) ≡ n / 2 ^ (4 * k) / 16
  four_more k =
      let bits : 4 * suc k ≡ suc (suc (suc (suc (4 * k)))) = omega arith in
      let power : 2 ^ (4 * suc k) ≡ 2 ^ (4 * k) * 16 = rw (bits, pow-suc) (omega arith) in
      rw power (sym (div-div-eq-div-mul n (2 ^ (4 * k)) 16))

  digit_read : (k i : ℕ) → i + suc k ≡ 16 → 16 * (n / 2 ^ (4 * suc k)) + digit_of (hex_byte (n / 2 ^ (60 - 4 * i) % 16)) ≡ n / 2 ^ (4 * k)
  digit_read k i e =
      let x = n / 2 ^ (4 * k) in
      let below : 60 - 4 * i ≡ 4 * k = omega arith in
      let small : x % 16 < 16 = omega arith in
      rw (below, four_more k, digit_back (x % 16) small (ltb (x % 16) 10) refl) (omega arith)

  value_from_lem : (k i : ℕ) → i + k ≡ 16 → hex_value_from (n / 2 ^ (4 * k)) (flat (hex_at n) k i) ≡ n
  unfolding hex_value_from flat
  value_from_lem zero i e = omega arith
  value_from_lem (suc k) i e = ap (λ (v : ℕ). hex_value_from v (flat (hex_at n) k (suc i))) (digit_read k i e) ∙ value_from_lem k (suc i) (omega arith)

  digit_at : (i : ℕ) → i < 16 → get_or (hex n) i 0 ≡ hex_byte (n / 2 ^ (60 - 4 * i) % 16)
  unfolding hex
  digit_at i h =
      let e : 1 * i + 0 ≡ i = omega arith in
      ap (λ (j : ℕ). get_or (flat (hex_at n) 16 0) j 0) (sym e) ∙ get_d_flat 0 1 (hex_at n) (λ j. refl) 16 0 i 0 h (omega arith) ∙ rw (zero-add i)

pub hexadecimals : Hexadecimals
unfolding hex
hexadecimals n h =
    let none : n / 18446744073709551616 ≡ 0 = omega arith in
    record {
      sixteen = length_flat (hex_at n) (λ j. refl) 16 0;
      digits = λ i k. let d = n / 2 ^ (60 - 4 * i) % 16 in rw (digit_at n i k) (byte_of d (omega arith) (ltb d 10) refl);
      value = ap (λ (v : ℕ). hex_value_from v (flat (hex_at n) 16 0)) (sym none) ∙ value_from_lem n 16 0 refl;
    }
