-- A record lies within the bytes. Assumes nothing.
use Prim.Native.Nat.{ℕ, ◌+◌, ◌%◌, ◌≤◌}
use mathlib.Core.Path.{◌≡◌, refl}
use mathlib.Core.Bool.{Bool, true, false, cond}
use mathlib.Core.List.{List}
use native.Mathlib.Omega.{arith}
use lib.ListN.{length}
use lib.Dec.{eqb, ltb, leb}
use borrow.Author.Tests.{ltb-false, eqb-true}
use Rattle.scene_records.specs.declared.Fault.TheVariants.{CutShort, UnknownKind}
use Rattle.scene_records.specs.declared.Read.{Read}
use Rattle.scene_records.specs.declared.Read.TheVariants.{End, Bad}
use Rattle.scene_records.specs.Records.{u16_of, u32_of, kind_field, area_at, place_at, pair_at, kind_at, read_at, size_of}

module _ (m at : ℕ) where
  either : (b : Bool) (x y : Read) → (b ≡ true → at + size_of x ≤ m) → (b ≡ false → at + size_of y ≤ m) → at + size_of (cond b x y) ≤ m
  either true x y f g = f refl
  either false x y f g = g refl

module _ (s : List ℕ) (at len : ℕ) (h : at + 6 + len ≤ length s) where
  area_size : at + size_of (area_at s at len) ≤ length s
  unfolding area_at
  area_size = either (length s) at _ _ _ (λ e. let q : len % 24 ≡ 2 = eqb-true _ _ e in omega arith) (λ e. omega arith)

  place_size : (far : Bool) → at + size_of (place_at far s at len) ≤ length s
  unfolding place_at
  place_size far = either (length s) at _ _ _ (λ e. let q : len ≡ 26 = eqb-true _ _ e in omega arith) (λ e. omega arith)

  pair_size : at + size_of (pair_at s at len) ≤ length s
  unfolding pair_at
  pair_size = either (length s) at _ _ _ (λ e. let q : len ≡ 4 = eqb-true _ _ e in omega arith) (λ e. omega arith)

  none : at + 0 ≤ length s
  none = omega arith

  kind_size : at + size_of (kind_at s at len) ≤ length s
  unfolding kind_at
  kind_size =
      let k = u16_of s (at + 4) in
      let fars = cond (eqb k 4) (place_at true s at len) (Bad UnknownKind (kind_field at)) in
      let pairs = cond (eqb k 3) (pair_at s at len) fars in
      either (length s) at (eqb k 1) (area_at s at len) (cond (eqb k 2) (place_at false s at len) pairs) (λ e. area_size)
      (λ e. either (length s) at (eqb k 2) (place_at false s at len) pairs (λ q. place_size false)
      (λ q. either (length s) at (eqb k 3) (pair_at s at len) fars (λ p. pair_size)
      (λ p. either (length s) at (eqb k 4) (place_at true s at len) (Bad UnknownKind (kind_field at)) (λ t. place_size true) (λ t. none))))

pub within : (s : List ℕ) (at : ℕ) → at ≤ length s → at + size_of (read_at s at) ≤ length s
unfolding read_at
within s at h =
    let none : at + 0 ≤ length s = omega arith in
    let k = kind_at s at (u32_of s at) in
    let r = cond (ltb (length s) (at + 6 + u32_of s at)) (Bad CutShort (length s)) k in
    either (length s) at (leb (length s) at) End (cond (ltb (length s) (at + 6)) (Bad CutShort (length s)) r) (λ e. none)
    (λ e. either (length s) at (ltb (length s) (at + 6)) (Bad CutShort (length s)) r (λ e'. none)
    (λ e'. either (length s) at (ltb (length s) (at + 6 + u32_of s at)) (Bad CutShort (length s)) k (λ e''. none) (λ e''. kind_size s at (u32_of s at) (ltb-false _ _ e''))))
