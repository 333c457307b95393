-- Each refusal of a loop handed back is given exactly when SCOPE 25 says, in the order of SCOPE 26: both directions. Assumes nothing.
use Prim.Native.Nat.{ℕ, ◌*◌, ◌%◌}
use mathlib.Core.Path.{◌≡◌, refl}
use mathlib.Core.Logic.{◌⊎◌, ⊎_elim}
use mathlib.Core.List.{List}
use lib.ListN.{length}
use lib.Ieee.{Float}
use borrow.Author.Tests.{eq-eqb, ne_eqb}
use Rattle.laws.specs.Loop.{first}
use Rattle.laws.proofs.Firsts.{first_left, first_right}
use Rattle.judge.specs.Why.{Exactly, Then}
use Rattle.judge.proofs.Exactly.{exactly, Tells, one_told, then_exact}
use Rattle.loop_header.specs.declared.State.{State}
use Rattle.loop_header.specs.declared.State.TheVariants.{Empty, Full, Ring}
use Rattle.loop_header.specs.declared.Header.{Header}
use Rattle.loop_header.specs.Loops.{threes_of, shape_fault, ring_fault, vectors_fault, cut_fault, ring_only, check_fault, loop_fault}
use Rattle.loop_header.specs.Why.{Shaped, Misshapen, RingWhy, VectorsWhy, CutWhy, cut_misshapen, cut_ring, StateWhy, empty_loop_lem, full_loop_lem, ring_loop_lem}
use Rattle.loop_header.specs.Why.{CheckWhy, check_misshapen, not_threes, check_ring, LoopWhy, loop_misshapen, normals_disagree, whole, Exact}
use Rattle.loop_header.proofs.Rings.{equal_tells, threes_tells, shape_tells, ring_exact}
use Rattle.loop_header.proofs.Vectors.{vectors_exact}

module _ (h : Header) (ps : List Float) (cs : List ℕ) where
  is_shaped : Shaped h ps cs → shape_fault h ps cs ≡ 0
  unfolding shape_fault
  is_shaped s = rw ((shape_tells h ps cs).good s)

  is_misshapen : Misshapen h ps cs → shape_fault h ps cs ≡ 1
  unfolding shape_fault
  is_misshapen m = rw ((shape_tells h ps cs).bad m)

  shaped_or : Shaped h ps cs ⊎ Misshapen h ps cs
  shaped_or = one_told _ (shape_tells h ps cs)

  one_later : {b : ℕ} → b ≡ 1 → first (shape_fault h ps cs) b ≡ 1
  one_later e = ⊎_elim (λ s. first_right _ _ (is_shaped s) e) (λ m. first_left _ _ 0 (is_misshapen m)) shaped_or

  -- cutting
  why_cut : (k : ℕ) → CutWhy h ps cs k → cut_fault h ps cs ≡ k
  unfolding cut_fault
  why_cut _ (cut_misshapen m) = first_left _ _ 0 (is_misshapen m)
  why_cut _ (cut_ring {k} s w) = first_right _ _ (is_shaped s) ((ring_exact h ps cs).why_given k w)

  cut_why : CutWhy h ps cs (cut_fault h ps cs)
  unfolding cut_fault
  cut_why = ⊎_elim
      (λ s. rw (is_shaped s) (cut_ring s ((ring_exact h ps cs).given_why _ refl)))
      (λ m. rw (is_misshapen m) (cut_misshapen m))
      shaped_or

  cut_exact : Exactly (cut_fault h ps cs) (CutWhy h ps cs)
  cut_exact = exactly (CutWhy h ps cs) cut_why why_cut

  -- the checker
  state_exact : (s : State) → Exactly (ring_only s) (StateWhy s)
  state_exact s = exactly (StateWhy s) (state_why s) (why_state s)
    where
      state_why : (s : State) → StateWhy s (ring_only s)
      state_why Empty = empty_loop_lem
      state_why Full = full_loop_lem
      state_why Ring = ring_loop_lem

      why_state : (s : State) (k : ℕ) → StateWhy s k → ring_only s ≡ k
      why_state _ _ empty_loop_lem = refl
      why_state _ _ full_loop_lem = refl
      why_state _ _ ring_loop_lem = refl

  checked_exact : Exactly (first (ring_fault h ps cs) (ring_only h.state)) (Then (RingWhy h ps cs) (StateWhy h.state))
  checked_exact = then_exact (ring_exact h ps cs) (λ z. state_exact h.state)

  module _ (size : ℕ) where
    why_check : (k : ℕ) → CheckWhy h ps cs size k → check_fault h ps cs size ≡ k
    unfolding check_fault
    why_check _ (check_misshapen m) = first_left _ _ 0 (is_misshapen m)
    why_check _ (not_threes t) = one_later (rw (ne_eqb (size % 3) 0 t))
    why_check _ (check_ring {k} s t w) = rw (is_shaped s, eq-eqb (size % 3) 0 t) (checked_exact.why_given k w)

    check_why : CheckWhy h ps cs size (check_fault h ps cs size)
    unfolding check_fault
    check_why = ⊎_elim
        (λ s. rw (is_shaped s) (⊎_elim
        (λ t. rw (eq-eqb (size % 3) 0 t) (check_ring s t (checked_exact.given_why _ refl)))
        (λ t. rw (ne_eqb (size % 3) 0 t) (not_threes t))
        (one_told _ (equal_tells (size % 3) 0))))
        (λ m. rw (is_misshapen m) (check_misshapen m))
        shaped_or

    check_exact : Exactly (check_fault h ps cs size) (CheckWhy h ps cs size)
    check_exact = exactly (CheckWhy h ps cs size) check_why why_check

  -- a whole loop
  module _ (ns : List Float) where
    read_exact : Exactly (first (ring_fault h ps cs) (vectors_fault h ns)) (Then (RingWhy h ps cs) (VectorsWhy h ns))
    read_exact = then_exact (ring_exact h ps cs) (λ z. vectors_exact h ns)

    normals_tell : Tells (threes_of (length ns) h.count) (length ns ≡ 3 * h.count) (length ns ≡ 3 * h.count → ⊥)
    normals_tell = threes_tells (length ns) h.count

    why_loop : (k : ℕ) → LoopWhy h ps ns cs k → loop_fault h ps ns cs ≡ k
    unfolding loop_fault
    why_loop _ (loop_misshapen m) = first_left _ _ 0 (is_misshapen m)
    why_loop _ (normals_disagree n) = one_later (rw (normals_tell.bad n))
    why_loop _ (whole {k} s n w) = rw (is_shaped s, normals_tell.good n) (read_exact.why_given k w)

    loop_why : LoopWhy h ps ns cs (loop_fault h ps ns cs)
    unfolding loop_fault
    loop_why = ⊎_elim
        (λ s. rw (is_shaped s) (⊎_elim
        (λ n. rw (normals_tell.good n) (whole s n (read_exact.given_why _ refl)))
        (λ n. rw (normals_tell.bad n) (normals_disagree n))
        (one_told _ normals_tell)))
        (λ m. rw (is_misshapen m) (loop_misshapen m))
        shaped_or

    loop_exact : Exactly (loop_fault h ps ns cs) (LoopWhy h ps ns cs)
    loop_exact = exactly (LoopWhy h ps ns cs) loop_why why_loop

pub exact : (h : Header) (ps : List Float) (cs : List ℕ) → Exact h ps cs
exact h ps cs = record { cutting = cut_exact h ps cs; checking = check_exact h ps cs; whole_loop = loop_exact h ps cs }

-- of a whole loop: given, only if; and if
module _ (h : Header) (ps ns : List Float) (cs : List ℕ) where
  pub given_why : (k : ℕ) → loop_fault h ps ns cs ≡ k → LoopWhy h ps ns cs k
  given_why = ((exact h ps cs).whole_loop ns).given_why

  pub why_given : (k : ℕ) → LoopWhy h ps ns cs k → loop_fault h ps ns cs ≡ k
  why_given = ((exact h ps cs).whole_loop ns).why_given
