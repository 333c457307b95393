-- Building stores its mode and goes by it nowhere else: by the refusal, the opened count and the classes. Assumes nothing.
use Prim.Native.Nat.{ℕ, zero, suc}
use mathlib.Core.Path.{◌≡◌, refl, sym, ap}
use mathlib.Core.Bool.{Bool, true, false}
use mathlib.Core.List.{List}
use lib.Dec.{ltb}
use lib.Ieee.{Float}
use Rattle.ring_corners.specs.Corners.{reversal, classes_of, all_both}
use Rattle.minor_arc.specs.declared.Mode.{Mode}
use Rattle.loop_header.specs.declared.Header.{Header}
use Rattle.loop_build.specs.Build.{loop, opened_count, refusal, ring_header, made_if, made, Outcome, outcome_of, outcome_if, outcome_by, build_outcome}
use Rattle.loop_build.specs.Modes.{header_in, outcome_in, Modes}

module _ (l ps ns : List Float) (cs : List ℕ) where
  of_classes : (both : Bool) (mode other : Mode) (n : ℕ) (reversed : Bool)
      → outcome_in other (outcome_of (made_if both mode l n reversed ps ns cs)) ≡ outcome_of (made_if both other l n reversed ps ns cs)
  unfolding ring_header
  of_classes true mode other n reversed = refl
  of_classes false mode other n reversed = refl

  of_count : (few : Bool) (mode other : Mode) (n : ℕ) → outcome_in other (outcome_if few mode l n ps ns cs) ≡ outcome_if few other l n ps ns cs
  unfolding made
  of_count true mode other n = refl
  of_count false mode other n = of_classes (all_both (classes_of l n (reversal l n))) mode other n (reversal l n)

  of_refusal : (k : ℕ) (mode other : Mode) → outcome_in other (outcome_by k mode l ps ns cs) ≡ outcome_by k other l ps ns cs
  of_refusal zero mode other = of_count (ltb (opened_count l) 3) mode other (opened_count l)
  of_refusal (suc k) mode other = refl

  nothing_else : (mode other : Mode) → outcome_in other (build_outcome mode l ps ns cs) ≡ build_outcome other l ps ns cs
  unfolding build_outcome
  nothing_else = of_refusal (refusal l ps ns cs)

  -- in its own mode again it is the same: so its mode is that one
  stored : (mode : Mode) (h : Header) → (build_outcome mode l ps ns cs).answer ≡ loop h → h.mode ≡ mode
  stored mode h e =
      let q : loop (header_in mode h) ≡ loop h = rw e at (ap (λ (o : Outcome). o.answer) (nothing_else mode mode)) in
      let same : header_in mode h ≡ h = cc in
      sym (ap (λ (x : Header). x.mode) same)

  pub modes : Modes l ps ns cs
  modes = record { stored = stored; nothing_else = nothing_else }
