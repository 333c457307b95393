-- A list without one of its elements. Assumes nothing.
use Prim.Native.Nat.{ℕ, suc, ◌+◌, ◌-◌, ◌≤◌, ◌<◌}
use mathlib.Core.Path.{◌≡◌, ap, ◌∙◌}
use mathlib.Core.Logic.{⊎_elim}
use mathlib.Core.List.{List, ◌++◌}
use native.Mathlib.Nat.{eq-zero-or-pos}
use native.Mathlib.Omega.{arith}
use lib.ListN.{length, take, drop, get_or, length-append, length-drop, get_or-append}
use lib.Seq.{length-take-le, take_at, get_or-append-add, get_or-drop, get_or-take}
use Rattle.ring_theory.specs.Ring.{without, Below}

module _ {A : Type 0} (i : ℕ) (l : List A) (h : i < length l) where
  pub length_without : length (without i l) ≡ length l - 1
  length_without = rw (length-append, length-take-le i l (omega arith), length-drop) (omega arith)

  pub take_without : (x : List A) → take (length l - 1) (without i l ++ x) ≡ without i l
  take_without x = take_at (without i l) x (length l - 1) length_without

  -- what `remove_at` leaves, but for its last index
  pub taken : {m : List A} (x : List A) → length m ≡ length l → m ≡ without i l ++ x → take (length m - 1) m ≡ without i l
  taken {m} x e q = rw (e, q) (take_without x)

  front : length (take i l) ≡ i
  front = length-take-le i l (omega arith)

  -- its elements: those before index i as they were, the others one index on
  pub get_d_without_low : (z : A) (j : ℕ) → j < i → get_or (without i l) j z ≡ get_or l j z
  get_d_without_low z j k = get_or-append (take i l) (drop (suc i) l) z j (rw front k) ∙ get_or-take i l j z k

  pub get_d_without_high : (z : A) (j : ℕ) → i ≤ j → get_or (without i l) j z ≡ get_or l (j + 1) z
  get_d_without_high z j k =
      let e : j ≡ length (take i l) + (j - i) = rw front (omega arith) in
      let e' : j + 1 ≡ suc i + (j - i) = omega arith in
      rw (e', ← get_or-drop (suc i) l (j - i) z) (ap (λ (n : ℕ). get_or (without i l) n z) e ∙ get_or-append-add (take i l) (drop (suc i) l) (j - i) z)

pub below_without : {n : ℕ} (i : ℕ) (l : List ℕ) → i < length l → Below n l → Below n (without i l)
below_without i l h b j k =
    let k' : j + 1 < length l = omega (arith, length_without i l h) in
    ⊎_elim (λ p. rw (get_d_without_high i l h 0 j (omega arith)) (b (j + 1) k')) (λ p. rw (get_d_without_low i l h 0 j (omega arith)) (b j (omega arith))) (eq-zero-or-pos (i - j))
