-- A slice that is in threes, by quotient and remainder, and what a judge of 0 tells. Assumes nothing.
use Prim.Native.Nat.{ℕ, suc, ◌*◌, ◌/◌, ◌%◌, ◌≤◌}
use mathlib.Core.Path.{◌≡◌, refl, sym}
use mathlib.Core.Bool.{Bool, true, false, ◌&&◌, cond}
use mathlib.Core.List.{List}
use native.Mathlib.Omega.{arith}
use lib.Dec.{eqb}
use lib.ListN.{length}
use lib.Ieee.{Float}
use borrow.Author.Tests.{eqb-true, eq-eqb}
pub use Rattle.judge.proofs.Exactly.{both_true}
use Rattle.loop_header.specs.declared.Header.{Header}
use Rattle.loop_header.specs.Loops.{count_fits, threes_of, shape_fault}

pub same_truth : (a b : Bool) → (a ≡ true → b ≡ true) → (b ≡ true → a ≡ true) → a ≡ b
same_truth true b f g = sym (f refl)
same_truth false true f g = g refl
same_truth false false f g = refl

module _ (s n : ℕ) where
  whole : eqb (s % 3) 0 && eqb (s / 3) n ≡ true → eqb s (3 * n) ≡ true
  whole e =
      let p = both_true _ _ e in
      let r : s % 3 ≡ 0 = eqb-true _ _ p.0 in
      let q : s / 3 ≡ n = eqb-true _ _ p.1 in
      eq-eqb s (3 * n) (omega arith)

  parts : eqb s (3 * n) ≡ true → eqb (s % 3) 0 && eqb (s / 3) n ≡ true
  parts e =
      let p : s ≡ 3 * n = eqb-true _ _ e in
      let r : s % 3 ≡ 0 = omega arith in
      let q : s / 3 ≡ n = omega arith in
      rw (eq-eqb _ _ r, eq-eqb _ _ q)

  pub in_threes : eqb (s % 3) 0 && eqb (s / 3) n ≡ threes_of s n
  unfolding threes_of
  in_threes = same_truth _ _ whole parts

pub threes_length : (s n : ℕ) → threes_of s n ≡ true → s ≡ 3 * n
unfolding threes_of
threes_length s n e = eqb-true s (3 * n) e

-- a test that gives 0 where it passes
pub passed : (b : Bool) (k : ℕ) → cond b 0 (suc k) ≡ 0 → b ≡ true
passed true k e = refl
passed false k e = absurd (omega arith)

-- the shape of a loop without its normals
pub record Shape (h : Header) (ps : List Float) (cs : List ℕ) : Type 0 where
  pub fits : count_fits h.state h.count ≡ true
  pub positions : length ps ≡ 3 * h.count
  pub classes : length cs ≡ h.count

pub shape : (h : Header) (ps : List Float) (cs : List ℕ) → shape_fault h ps cs ≡ 0 → Shape h ps cs
unfolding shape_fault
shape h ps cs e =
    let p = both_true _ _ (passed _ 0 e) in
    let q = both_true _ _ p.0 in
    record { fits = q.0; positions = threes_length _ _ q.1; classes = eqb-true _ _ p.1 }

-- as the judges that come after it need it
pub shaped : (h : Header) (ps : List Float) (cs : List ℕ) → 0 ≡ shape_fault h ps cs → 3 * h.count ≤ length ps
shaped h ps cs e = let s = shape h ps cs (sym e) in omega (arith, s.positions)
