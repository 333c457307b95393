-- Room for a loop in bytes, counted in corners. Assumes nothing.
use Prim.Native.Nat.{ℕ, zero, suc, ◌*◌, ◌≤◌, ◌<◌}
use mathlib.Core.Path.{◌≡◌, refl, sym, ◌∙◌}
use mathlib.Core.Bool.{Bool, true, false, ◌&&◌, cond}
use mathlib.Core.List.{List}
use native.Mathlib.Omega.{arith}
use lib.ListN.{length}
use lib.Dec.{leb, ltb}
use lib.Ieee.{Float}
use borrow.Author.Tests.{lt-ltb, le-ltb, ltb-true, ltb-false, le-leb, leb-true}
use Rattle.laws.specs.Loop.{first}
use Rattle.laws.proofs.Firsts.{first_zero_lem}
use Rattle.loop_build.specs.Build.{list_fault, room_fault, opened_count, refusal}
use Rattle.loop_build.proofs.Rooms.{list_fine, room}
use Rattle.bytes_loop.specs.Layout.{header_size, loop_size}
use Rattle.bytes_loop.proofs.Parts.{behind}
use Rattle.bytes_build.specs.Build.{corners, need_fault, Roomy}

module _ (size n : ℕ) where
  pub need_none : header_size ≤ size → (3 ≤ n → loop_size n ≤ size) → need_fault size n ≡ 0
  unfolding need_fault corners
  need_none h g = at (ltb n 3) refl
    where
      at : (b : Bool) → ltb n 3 ≡ b → ◌≡◌ {A = ℕ} (cond (ltb size (loop_size (cond b 0 n))) 5 0) 0
      at true e = rw (le-ltb size (loop_size 0) (omega arith))
      at false e = rw (le-ltb size (loop_size n) (g (ltb-false n 3 e)))

  pub need_header : size < header_size → need_fault size n ≡ 5
  unfolding need_fault
  need_header h = let g : size < loop_size (corners n) = omega arith in rw (lt-ltb size (loop_size (corners n)) g)

  pub need_corners : 3 ≤ n → size < loop_size n → need_fault size n ≡ 5
  unfolding need_fault corners
  need_corners h g = rw (le-ltb n 3 h, lt-ltb size (loop_size n) g)

-- the room that the arrays have says 5 as the bytes' own does
module _ (size n p q r : ℕ) (w : Roomy size p q r) where
  roomed : n ≤ r → room_fault n p q r ≡ 0
  unfolding room_fault
  roomed h =
      let a : 3 * n ≤ p = omega (arith, w.for_positions, w.for_classes) in
      let b : 3 * n ≤ q = omega (arith, w.for_normals, w.for_classes) in
      rw (le-ltb p (3 * n) a, le-ltb q (3 * n) b, le-ltb r n h) (none (leb 3 n))
    where
      none : (b : Bool) → ◌≡◌ {A = ℕ} (cond (b && false) 5 0) 0
      none true = refl
      none false = refl

  no_corner : leb 3 n ≡ false → room_fault n p q r ≡ 0
  unfolding room_fault
  no_corner e = rw e

  too_many : 3 ≤ n → r < n → room_fault n p q r ≡ 5
  unfolding room_fault
  too_many h g = let a : p < 3 * n = omega (arith, w.for_positions, w.for_classes) in rw (le-leb 3 n h, lt-ltb p (3 * n) a)

  too_short : n ≤ 512 → r < n → size < loop_size n
  too_short m g = at (ltb size (loop_size n)) refl
    where
      at : (b : Bool) → ltb size (loop_size n) ≡ b → size < loop_size n
      at true e = ltb-true size (loop_size n) e
      at false e = let k = (behind size).enough n m (ltb-false size (loop_size n) e) in absurd (omega (arith, k, w.for_classes))

  pub same_five : n ≤ 512 → (room_fault n p q r ≡ 0 → ⊥) → need_fault size n ≡ room_fault n p q r
  same_five m h = at (leb 3 n) refl (ltb r n) refl
    where
      at : (b : Bool) → leb 3 n ≡ b → (d : Bool) → ltb r n ≡ d → need_fault size n ≡ room_fault n p q r
      at b e false f = absurd (h (roomed (ltb-false r n f)))
      at false e true f = absurd (h (no_corner e))
      at true e true f =
          let l = leb-true 3 n e in
          let g = ltb-true r n f in
          need_corners size n l (too_short m g) ∙ sym (too_many l g)

-- of a list, with arrays of the bytes' room
module _ (l ps ns : List Float) (cs : List ℕ) (size : ℕ) (w : Roomy size (length ps) (length ns) (length cs)) where
  either : (a b k : ℕ) → (a ≡ 0 → (b ≡ 0 → ⊥) → k ≡ b) → (first a b ≡ 0 → ⊥) → first a k ≡ first a b
  either zero b k g h = g refl h
  either (suc a) b k g h = refl

  pub same_refusal : (refusal l ps ns cs ≡ 0 → ⊥) → first (list_fault l) (need_fault size (opened_count l)) ≡ refusal l ps ns cs
  unfolding refusal
  same_refusal h =
      either (list_fault l) (room_fault (opened_count l) (length ps) (length ns) (length cs)) (need_fault size (opened_count l))
      (λ z g. same_five size (opened_count l) (length ps) (length ns) (length cs) w (list_fine l z).small g) h

  -- no refusal, by the opened count
  pub fits : refusal l ps ns cs ≡ 0 → 3 ≤ opened_count l → opened_count l ≤ length cs
  unfolding refusal
  fits e h = (room (opened_count l) (length ps) (length ns) (length cs) (first_zero_lem (list_fault l) (room_fault (opened_count l) (length ps) (length ns) (length cs)) e).1 h).for_classes

  pub fine : refusal l ps ns cs ≡ 0 → list_fault l ≡ 0
  unfolding refusal
  fine e = (first_zero_lem (list_fault l) (room_fault (opened_count l) (length ps) (length ns) (length cs)) e).0

  pub no_need : refusal l ps ns cs ≡ 0 → header_size ≤ size → first (list_fault l) (need_fault size (opened_count l)) ≡ 0
  no_need e h = rw (fine e) (need_none size (opened_count l) h (λ g. omega (arith, fits e g, w.for_classes, (behind size).within h)))

  pub header_need : refusal l ps ns cs ≡ 0 → size < header_size → first (list_fault l) (need_fault size (opened_count l)) ≡ 5
  header_need e h = rw (fine e) (need_header size (opened_count l) h)
