-- Refusals by a length, and what none of them tells. Assumes nothing.
use Prim.Native.Nat.{ℕ, zero, suc, ◌≤◌}
use mathlib.Core.Path.{◌≡◌, refl, sym}
use mathlib.Core.Bool.{Bool, true, false, cond}
use mathlib.Core.List.{List}
use native.Mathlib.Omega.{arith}
use lib.ListN.{length}
use lib.Dec.{ltb}
use borrow.Author.Tests.{eq-eqb, ne_eqb, eqb-true, ltb-false}
use Rattle.laws.proofs.Firsts.{first_zero_lem, test_passed}
use Rattle.loop_header.specs.declared.State.{State}
use Rattle.loop_header.specs.declared.State.TheVariants.{Empty, Full, Ring}
use Rattle.bytes_loop.specs.Outcome.{Outcome, outcome, refusal_of, outcome_by}
use Rattle.bytes_loop.specs.Layout.{header_size, loop_size, count_at, state_byte, state_of, state_fault, size_fault, header_fault, frame_fault, large_fault, many_fault, copy_fault}

module _ (size n : ℕ) where
  pub wrong_size : (size ≡ n → ⊥) → size_fault size n ≡ 1
  unfolding size_fault
  wrong_size h = rw (ne_eqb size n h)

  pub right_size : size ≡ n → size_fault size n ≡ 0
  unfolding size_fault
  right_size h = rw (eq-eqb size n h)

  pub size_right : size_fault size n ≡ 0 → size ≡ n
  unfolding size_fault
  size_right e = eqb-true size n (test_passed _ _ e)

module _ (s : List ℕ) where
  pub frame_wrong : (length s ≡ loop_size (count_at s) → ⊥) → 1 ≡ frame_fault s
  unfolding frame_fault
  frame_wrong h = rw (wrong_size (length s) (loop_size (count_at s)) h)

  pub frame_state : {f : ℕ} → length s ≡ loop_size (count_at s) → f ≡ state_fault s → f ≡ frame_fault s
  unfolding frame_fault
  frame_state h e = rw (right_size (length s) (loop_size (count_at s)) h) e

  pub header_wrong : (length s ≡ header_size → ⊥) → 1 ≡ header_fault s
  unfolding header_fault
  header_wrong h = rw (wrong_size (length s) header_size h)

  pub header_state : {f : ℕ} → length s ≡ header_size → f ≡ state_fault s → f ≡ header_fault s
  unfolding header_fault
  header_state h e = rw (right_size (length s) header_size h) e

  -- no refusal
  pub header_size_lem : header_fault s ≡ 0 → length s ≡ header_size
  unfolding header_fault
  header_size_lem e = size_right (length s) header_size (first_zero_lem _ _ e).0

  pub frame_size : frame_fault s ≡ 0 → length s ≡ loop_size (count_at s)
  unfolding frame_fault
  frame_size e = size_right (length s) (loop_size (count_at s)) (first_zero_lem _ _ e).0

-- as what reads the header needs it
pub framed : (s : List ℕ) → 0 ≡ frame_fault s → header_size ≤ length s
framed s e = let z = frame_size s (sym e) in omega arith

large_not_none : (t : State) → large_fault t ≡ 0 → ⊥
large_not_none Empty e = omega arith
large_not_none Full e = omega arith
large_not_none Ring e = omega arith

many_none : (b : Bool) (t : State) → cond b (large_fault t) 0 ≡ 0 → b ≡ false
many_none true t e = absurd (large_not_none t e)
many_none false t e = refl

pub record Copyable (s : List ℕ) : Type 0 where
  pub framed : frame_fault s ≡ 0
  pub size : length s ≡ loop_size (count_at s)
  pub most : count_at s ≤ 512

pub copyable : (s : List ℕ) → copy_fault s ≡ 0 → Copyable s
unfolding copy_fault many_fault
copyable s e =
    let a = first_zero_lem _ _ e in
    record { framed = a.0; size = frame_size s a.0; most = ltb-false _ _ (many_none (ltb 512 (count_at s)) (state_of (state_byte s)) a.1) }

-- a refusal leaves the output as it was
pub by_outcome : {A : Type 0} (k : ℕ) (out : List A) (x : Outcome A) → (k ≡ 0 → ⊥) → outcome (refusal_of k) out ≡ outcome_by k out x
by_outcome zero out x h = absurd (h refl)
by_outcome (suc k) out x h = refl
