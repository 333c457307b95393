-- Lists of triples in bytes, of any length. Assumes nothing.
use Prim.Native.Nat.{ℕ, zero, suc, ◌-◌, ◌*◌, ◌/◌, ◌%◌, ◌≤◌, ◌<◌}
use mathlib.Core.Path.{◌≡◌, refl, sym, ◌∙◌}
use mathlib.Core.Bool.{Bool, true, false, cond}
use mathlib.Core.List.{List}
use native.Mathlib.Omega.{arith}
use lib.ListN.{length}
use lib.Dec.{ltb}
use lib.Ieee.{Float}
use borrow.Author.Tests.{eq-eqb, ne_eqb, eqb-true, ltb-false}
use Rattle.laws.specs.Loop.{first}
use Rattle.laws.proofs.Firsts.{first_zero_lem, test_passed}
use Rattle.judge.specs.declared.Refusal.{Refusal}
use Rattle.judge.specs.Refusals.{number}
use Rattle.judge.proofs.Numbers.{not_none}
use Rattle.loop_header.specs.declared.Header.{Header}
use Rattle.loop_header.specs.Loops.{check_fault}
use Rattle.loop_ask.specs.Answers.{Told, refused, answer, judged}
use Rattle.ring_check.specs.Accepted.{accepted}
use Rattle.loop_triangles.specs.Triangles.{accepts_answer}
use Rattle.wire.specs.Wire.{numbers_at}
use Rattle.wire.proofs.Lays.{numbers_length}
use Rattle.bytes_loop.specs.Layout.{header_at, positions_at, classes_at, frame_fault, many_fault, copy_fault}
use Rattle.bytes_loop.proofs.Faults.{frame_size, copyable}
use Rattle.bytes_loop.proofs.Parts.{positions_length, classes_length}
use Rattle.bytes_ask.proofs.Asks.{check_large, is_large, large_is}
use Rattle.bytes_check.specs.Checking.{sixes_fault, accepts_told, list_fault, numbers_for}

-- ---- in sixes
module _ (s : List ℕ) (size : ℕ) where
  pub not_sixes : (size % 6 ≡ 0 → ⊥) → 1 ≡ list_fault s size
  unfolding sixes_fault
  not_sixes h = rw (ne_eqb (size % 6) 0 h)

  pub in_sixes : {f : ℕ} → size % 6 ≡ 0 → f ≡ copy_fault s → f ≡ list_fault s size
  unfolding sixes_fault
  in_sixes h e = rw (eq-eqb (size % 6) 0 h) e

sixes : (size : ℕ) → sixes_fault size ≡ 0 → size % 6 ≡ 0
unfolding sixes_fault
sixes size e = eqb-true (size % 6) 0 (test_passed _ _ e)

threes : (size : ℕ) → size % 6 ≡ 0 → size / 2 % 3 ≡ 0
threes size e = omega (arith, e)

-- a longer list than any ring has triangles is a no, unless a refusal comes first
module _ (h : Header) (ps : List Float) (cs : List ℕ) where
  too_many : (l : List ℕ) {m : ℕ} → length l ≡ m → m % 3 ≡ 0 → 3 * (length cs - 2) < m → accepts_answer h ps cs l ≡ judged (check_fault h ps cs 0) (answer 0)
  unfolding accepts_answer accepted check_fault
  too_many l {m} e t g = rw (e, eq-eqb (m % 3) 0 t, ne_eqb m (3 * (length cs - 2)) (λ z. omega arith))

  first_ones : (t : List ℕ) → length cs ≤ 512 → length t % 6 ≡ 0 → accepts_answer h ps cs (numbers_at t (numbers_for (length t))) ≡ accepts_answer h ps cs (numbers_at t (length t / 2))
  unfolding numbers_for
  first_ones t m x = at (ltb (length t / 2) 1533) refl
    where
      at : (b : Bool) → ltb (length t / 2) 1533 ≡ b → accepts_answer h ps cs (numbers_at t (cond b (length t / 2) 1533)) ≡ accepts_answer h ps cs (numbers_at t (length t / 2))
      at true e = refl
      at false e =
          let g = ltb-false (length t / 2) 1533 e in
          too_many (numbers_at t 1533) (numbers_length t 1533) refl (omega arith)
          ∙ sym (too_many (numbers_at t (length t / 2)) (numbers_length t (length t / 2)) (threes (length t) x) (omega arith))

-- ---- a loop and a list in bytes
pub list_early : (s t : List ℕ) (r : Refusal) → number r ≡ list_fault s (length t) → refused (number r) ≡ accepts_told s t
unfolding accepts_answer copy_fault
list_early s t r e = by_sixes (sixes_fault (length t)) refl e
  where
    by_fault : (k : ℕ) → number r ≡ k → (x : Told) → refused (number r) ≡ judged k x
    by_fault k a x = rw (← a)

    by_frame : length t % 6 ≡ 0 → (k : ℕ) → frame_fault s ≡ k → number r ≡ first k (many_fault s) → refused (number r) ≡ judged k (accepts_answer (header_at s) (positions_at s) (classes_at s) (numbers_at t (length t / 2)))
    by_frame x (suc k) a b = rw b
    by_frame x zero a b =
        let g = is_large s (λ z. not_none r (b ∙ z)) in
        let m = check_large (header_at s) (positions_at s) (classes_at s) g (positions_length s) (classes_length s (frame_size s a)) in
        by_fault _ (b ∙ large_is s g ∙ sym (m (length (numbers_at t (length t / 2))) (rw numbers_length (threes (length t) x)))) _

    by_sixes : (k : ℕ) → sixes_fault (length t) ≡ k → number r ≡ first k (first (frame_fault s) (many_fault s)) → refused (number r) ≡ judged (first k (frame_fault s)) (accepts_answer (header_at s) (positions_at s) (classes_at s) (numbers_at t (length t / 2)))
    by_sixes (suc k) a b = rw b
    by_sixes zero a b = by_frame (sixes (length t) a) (frame_fault s) refl b

pub list_fine : (s : List ℕ) (size : ℕ) → 0 ≡ list_fault s size → 0 ≡ copy_fault s
list_fine s size z = sym (first_zero_lem (sixes_fault size) (copy_fault s) (sym z)).1

pub list_late : (s t : List ℕ) {k l : ℕ} {u : Told} → 0 ≡ list_fault s (length t) → l ≡ k → k ≡ numbers_for (length t)
    → u ≡ accepts_answer (header_at s) (positions_at s) (classes_at s) (numbers_at t l) → u ≡ accepts_told s t
list_late s t z p q x =
    let y = (first_zero_lem (sixes_fault (length t)) (copy_fault s) (sym z)).0 in
    let c = copyable s (sym (list_fine s (length t) z)) in
    rw (y, c.framed) (rw (p, q, first_ones (header_at s) (positions_at s) (classes_at s) t (omega (arith, c.most, classes_length s c.size)) (sixes (length t) y)) at x)

pub halved : {k l m : ℕ} → l ≡ k → 2 * k ≤ m → 2 * l ≤ m
halved e h = omega arith
