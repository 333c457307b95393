-- The invariant of a loop that ends at the first crossing and remembers a touch: of the iterations from i on some may cross (x), and some may touch (t).
-- Assumes nothing.
use Prim.Native.Nat.{ℕ, suc, ◌+◌, ◌-◌, ◌≤◌, ◌<◌}
use mathlib.Core.Bool.{Bool, true, false, ◌||◌}
use mathlib.Core.Path.{◌≡◌, refl, sym, ◌∙◌}
use native.Mathlib.Nat.{sub-zero}
use native.Mathlib.Numerals.{add-one}
use native.Mathlib.Omega.{arith}
use Rattle.laws.specs.Loop.{any_of}
use Rattle.laws.proofs.Loops.{left, none}
use Rattle.laws.proofs.Parts.{any_part}
use Rattle.ring_pair.specs.declared.Contact.{Contact}
use Rattle.ring_pair.specs.declared.Contact.TheVariants.{Crossed}
use Rattle.ring_pair.specs.Contacts.{graded, is_crossed, is_touched}

pub record Grade (x t : ℕ → Bool) (n i : ℕ) (touched : Bool) (z : Contact) : Type 0 where
  pub within : i ≤ n
  pub rest : z ≡ graded (any_of x (n - i) i) (touched || any_of t (n - i) i)

pub grade : {x t : ℕ → Bool} {n : ℕ} {z : Contact} → z ≡ graded (any_of x n 0) (any_of t n 0) → Grade x t n 0 false z
grade e = record { within = omega arith; rest = rw sub-zero e }

-- an iteration that does not cross: what is remembered of it
once : (a b touched s r : Bool) → is_crossed (graded a b) ≡ false → graded (a || r) (touched || (b || s)) ≡ graded r ((touched || is_touched (graded a b)) || s)
once true b touched s r h = absurd (let z : ◌≡◌ {A = ℕ} 0 1 = cc in omega arith)
once false true true s r h = refl
once false true false s r h = refl
once false false true s r h = refl
once false false false s r h = refl

crossing : (a b touched r : Bool) → is_crossed (graded a b) ≡ true → Crossed ≡ graded (a || r) touched
crossing true b touched r h = refl
crossing false true touched r h = absurd (let z : ◌≡◌ {A = ℕ} 0 1 = cc in omega arith)
crossing false false touched r h = absurd (let z : ◌≡◌ {A = ℕ} 0 1 = cc in omega arith)

alone : (touched : Bool) → graded false (touched || false) ≡ graded false touched
alone true = refl
alone false = refl

module _ {x t : ℕ → Bool} {n i : ℕ} {touched : Bool} {z : Contact} (g : Grade x t n i touched z) where
  pub grade_on : (y : Contact) {b : Bool} → y ≡ graded (x i) (t i) → i < n → is_crossed y ≡ false → b ≡ touched || is_touched y → Grade x t n (i + 1) b z
  unfolding any_of
  grade_on y e h c m = record {
    within = omega arith;
    rest = rw (add-one, m, e) ((rw (left n i h) at g.rest) ∙ once (x i) (t i) touched (any_of t (n - suc i) (suc i)) (any_of x (n - suc i) (suc i)) (rw e at c));
  }

  pub grade_hit : (y : Contact) → y ≡ graded (x i) (t i) → i < n → is_crossed y ≡ true → Crossed ≡ z
  unfolding any_of
  grade_hit y e h c = crossing (x i) (t i) (touched || (t i || any_of t (n - suc i) (suc i))) (any_of x (n - suc i) (suc i)) (rw e at c) ∙ sym (rw (left n i h) at g.rest)

  pub grade_end : n ≤ i → graded false touched ≡ z
  unfolding any_of
  grade_end h = sym ((rw (none n i h) at g.rest) ∙ alone touched)

  -- the iterations up to j at once
  module _ (y : Contact) {j : ℕ} (e : y ≡ graded (any_of x (j - i) i) (any_of t (j - i) i)) (h : i ≤ j) (k : j ≤ n) where
    whole : z ≡ graded (any_of x (j - i) i || any_of x (n - j) j) (touched || (any_of t (j - i) i || any_of t (n - j) j))
    whole = rw (any_part x n i j h k, any_part t n i j h k) at g.rest

    pub grade_part : {b : Bool} → is_crossed y ≡ false → b ≡ touched || is_touched y → Grade x t n j b z
    grade_part c m = record {
      within = k;
      rest = rw (m, e) (whole ∙ once (any_of x (j - i) i) (any_of t (j - i) i) touched (any_of t (n - j) j) (any_of x (n - j) j) (rw e at c));
    }

    pub grade_part_hit : is_crossed y ≡ true → Crossed ≡ z
    grade_part_hit c = crossing (any_of x (j - i) i) (any_of t (j - i) i) (touched || (any_of t (j - i) i || any_of t (n - j) j)) (any_of x (n - j) j) (rw e at c) ∙ sym whole
