-- A flat list of triples from its triple numbered t on, and two lists of three compared. Assumes nothing.
use Prim.Native.Nat.{ℕ, suc, ◌+◌, ◌*◌, ◌≤◌, ◌<◌}
use mathlib.Core.Path.{◌≡◌, refl, sym}
use mathlib.Core.Bool.{Bool, true, false, ◌&&◌}
use mathlib.Core.List.{List, [], ◌∷◌}
use native.Mathlib.Omega.{arith}
use lib.ListN.{length, drop, get_or, drop_of_length-le}
use lib.Seq.{drop-cons}
use lib.Dec.{eqb}
use Rattle.ring_check.specs.Accepted.{same_numbers}

module _ (l : List ℕ) (t : ℕ) (h : 3 * t + 2 < length l) where
  pub triple : drop (3 * t) l ≡ get_or l (3 * t) 0 ∷ get_or l (3 * t + 1) 0 ∷ get_or l (3 * t + 2) 0 ∷ drop (3 * (t + 1)) l
  triple =
      let e : 3 * t + 1 ≡ suc (3 * t) = omega arith in
      let f : 3 * t + 2 ≡ suc (suc (3 * t)) = omega arith in
      let g : 3 * (t + 1) ≡ suc (suc (suc (3 * t))) = omega arith in
      rw (drop-cons l (3 * t) 0 (omega arith), drop-cons l (suc (3 * t)) 0 (omega arith), drop-cons l (suc (suc (3 * t))) 0 (omega arith), e, f, g)

grouped : (p q r : Bool) → p && (q && (r && true)) ≡ (p && q) && r
grouped true true true = refl
grouped true true false = refl
grouped true false r = refl
grouped false q r = refl

same_three : (ids : List ℕ) (x y z : ℕ) → length ids ≡ 3 → same_numbers ids (x ∷ y ∷ z ∷ []) ≡ (eqb (get_or ids 0 0) x && eqb (get_or ids 1 0) y) && eqb (get_or ids 2 0) z
unfolding same_numbers
same_three [] x y z e = absurd (omega arith)
same_three (a ∷ []) x y z e = absurd (omega arith)
same_three (a ∷ b ∷ []) x y z e = absurd (omega arith)
same_three (a ∷ b ∷ c ∷ []) x y z e = grouped (eqb a x) (eqb b y) (eqb c z)
same_three (a ∷ b ∷ c ∷ d ∷ l) x y z e = absurd (omega arith)

-- the last triple
pub same_last : (ids l : List ℕ) (t : ℕ) → length ids ≡ 3 → length l ≡ 3 * (t + 1)
    → (eqb (get_or ids 0 0) (get_or l (3 * t) 0) && eqb (get_or ids 1 0) (get_or l (3 * t + 1) 0)) && eqb (get_or ids 2 0) (get_or l (3 * t + 2) 0) ≡ same_numbers ids (drop (3 * t) l)
same_last ids l t e h =
    let k : length l ≤ 3 * (t + 1) = omega arith in
    rw (triple l t (omega arith), drop_of_length-le l k) (sym (same_three ids _ _ _ e))
