-- Refusal 1 of a loop without its normals, and refusals 2, 6, 3 and 4 of one that has the right shape: exactly when. Assumes nothing.
use Prim.Native.Nat.{ℕ, zero, suc, ◌*◌, ◌≤◌, ◌<◌}
use mathlib.Core.Path.{◌≡◌, refl}
use mathlib.Core.Bool.{Bool, true, false, cond, ◌&&◌}
use mathlib.Core.Logic.{◌⊎◌, inl, inr, ⊎_elim}
use mathlib.Core.List.{List}
use native.Mathlib.Omega.{arith}
use lib.ListN.{length, get_or}
use lib.Dec.{eqb, ltb}
use lib.Ieee.{Float}
use borrow.Author.Tests.{eqb-true, eqb-false, eq-eqb, ne_eqb, leb-true, leb-false, le-leb, lt-leb, ltb-true, ltb-false, lt-ltb, le-ltb}
use Rattle.laws.specs.Loop.{first}
use Rattle.judge.specs.Judge.{positions_fault}
use Rattle.judge.specs.Why.{Exactly, Then, stops, goes_on_lem, PositionsWhy}
use Rattle.judge.proofs.Exactly.{exactly, Tells, both_tell, retell, then_exact, SomeWhy, some, every, some_exact}
use Rattle.judge.proofs.Exact as Judge
use Rattle.loop_header.specs.declared.State.{State}
use Rattle.loop_header.specs.declared.State.TheVariants.{Empty, Full, Ring}
use Rattle.loop_header.specs.declared.Header.{Header}
use Rattle.loop_header.specs.Loops.{count_fits, threes_of, classes_fault, ring_fault}
use Rattle.loop_header.specs.Why.{Fits, empty_none, full_none, ring_three, Misfits, empty_some, full_some, ring_few}
use Rattle.loop_header.specs.Why.{Shaped, Misshapen, count_misfits, positions_disagree, classes_disagree, Coded, RingWhy, too_many, code_above, in_positions}

-- ---- refusal 1
pub equal_tells : (a b : ℕ) → Tells (eqb a b) (a ≡ b) (a ≡ b → ⊥)
equal_tells a b = record { yes = eqb-true a b; no = eqb-false a b; good = eq-eqb a b; bad = ne_eqb a b }

pub threes_tells : (size count : ℕ) → Tells (threes_of size count) (size ≡ 3 * count) (size ≡ 3 * count → ⊥)
unfolding threes_of
threes_tells size count = equal_tells size (3 * count)

above_none : (n : ℕ) → (n ≡ 0 → ⊥) → 0 < n
above_none zero f = absurd (f refl)
above_none (suc n) f = omega arith

fits_tells : (s : State) (n : ℕ) → Tells (count_fits s n) (Fits n s) (Misfits n s)
fits_tells Empty n = retell (equal_tells n 0) empty_none (λ f. none f) (λ f. empty_some (above_none n f)) (λ m e. any m e)
  where
    none : Fits n Empty → n ≡ 0
    none (empty_none e) = e

    any : Misfits n Empty → n ≡ 0 → ⊥
    any (empty_some p) e = omega arith
fits_tells Full n = retell (equal_tells n 0) full_none (λ f. none f) (λ f. full_some (above_none n f)) (λ m e. any m e)
  where
    none : Fits n Full → n ≡ 0
    none (full_none e) = e

    any : Misfits n Full → n ≡ 0 → ⊥
    any (full_some p) e = omega arith
fits_tells Ring n = record { yes = λ e. ring_three (leb-true 3 n e); no = λ e. ring_few (leb-false 3 n e); good = three; bad = few }
  where
    three : Fits n Ring → count_fits Ring n ≡ true
    three (ring_three p) = le-leb 3 n p

    few : Misfits n Ring → count_fits Ring n ≡ false
    few (ring_few p) = lt-leb 3 n p

module _ (h : Header) (ps : List Float) (cs : List ℕ) where
  pub shape_tells : Tells ((count_fits h.state h.count && threes_of (length ps) h.count) && eqb (length cs) h.count) (Shaped h ps cs) (Misshapen h ps cs)
  shape_tells =
      retell (both_tell (both_tell (fits_tells h.state h.count) (threes_tells (length ps) h.count)) (equal_tells (length cs) h.count))
      (λ p. record { fits = p.0.0; positions = p.0.1; classes = p.1 })
      (λ s. ((s.fits, s.positions), s.classes))
      (⊎_elim (⊎_elim count_misfits positions_disagree) classes_disagree)
      part
    where
      part : Misshapen h ps cs → (Misfits h.count h.state ⊎ (length ps ≡ 3 * h.count → ⊥)) ⊎ (length cs ≡ h.count → ⊥)
      part (count_misfits m) = inl (inl m)
      part (positions_disagree m) = inl (inr m)
      part (classes_disagree m) = inr m

-- ---- refusal 6
data CodeWhy (code : ℕ) : ℕ → Type 0 where
  at_most_lem : code ≤ 2 → CodeWhy code 0
  more : 2 < code → CodeWhy code 6

code_is : (code : ℕ) (b : Bool) → ltb 2 code ≡ b → CodeWhy code (cond b 6 0)
code_is code true e = more (ltb-true 2 code e)
code_is code false e = at_most_lem (ltb-false 2 code e)

code_exact : (code : ℕ) → Exactly (cond (ltb 2 code) 6 0) (CodeWhy code)
code_exact code = exactly (CodeWhy code) (code_is code (ltb 2 code) refl) back
  where
    back : (k : ℕ) → CodeWhy code k → cond (ltb 2 code) 6 0 ≡ k
    back _ (at_most_lem p) = rw (le-ltb 2 code p)
    back _ (more p) = rw (lt-ltb 2 code p)

only_six : (code k : ℕ) → CodeWhy code (suc k) → k ≡ 5
only_six code _ (more p) = refl

abbrev CodesWhy : List ℕ → ℕ → Type 0
CodesWhy cs = SomeWhy (λ i. CodeWhy (get_or cs i 0)) (length cs) 5

codes_exact : (cs : List ℕ) → Exactly (classes_fault cs) (CodesWhy cs)
unfolding classes_fault
codes_exact cs = some_exact {Why = λ i. CodeWhy (get_or cs i 0)} (length cs) 5 (λ i h. code_exact (get_or cs i 0)) (λ i k w. only_six (get_or cs i 0) k w)

-- ---- refusals 2, 6, 3 and 4
module _ (h : Header) (ps : List Float) (cs : List ℕ) where
  later_exact : Exactly (first (classes_fault cs) (positions_fault ps h.count)) (Then (CodesWhy cs) (PositionsWhy ps h.count))
  later_exact = then_exact (codes_exact cs) (λ z. (Judge.exact).positions ps h.count)

  coded : CodesWhy cs 0 → Coded cs
  coded (every b) i m = fine_code (b i m)
    where
      fine_code : {code : ℕ} → CodeWhy code 0 → code ≤ 2
      fine_code (at_most_lem p) = p

  codes_some : (i : ℕ) → i < length cs → 2 < get_or cs i 0 → CodesWhy cs 6
  codes_some i m p = some i m (more p)

  codes_all : Coded cs → CodesWhy cs 0
  codes_all c = every (λ i m. at_most_lem (c i m))

  not_coded : h.count ≤ 512 → {k : ℕ} → CodesWhy cs (suc k) → RingWhy h ps cs (suc k)
  not_coded m (some i l w) = above w
    where
      above : CodeWhy (get_or cs i 0) 6 → RingWhy h ps cs 6
      above (more p) = code_above m i l p

  later_why : h.count ≤ 512 → {k : ℕ} → Then (CodesWhy cs) (PositionsWhy ps h.count) k → RingWhy h ps cs k
  later_why m (stops w) = not_coded m w
  later_why m (goes_on_lem w v) = in_positions m (coded w) v

  ring_why : (b : Bool) → ltb 512 h.count ≡ b → RingWhy h ps cs (first (cond b 2 0) (first (classes_fault cs) (positions_fault ps h.count)))
  ring_why true t = too_many (ltb-true 512 h.count t)
  ring_why false t = later_why (ltb-false 512 h.count t) (later_exact.given_why _ refl)

  why_ring : (k : ℕ) → RingWhy h ps cs k → ring_fault h ps cs ≡ k
  unfolding ring_fault
  why_ring _ (too_many m) = rw (lt-ltb 512 h.count m)
  why_ring _ (code_above m i l p) = rw (le-ltb 512 h.count m) (later_exact.why_given 6 (stops (codes_some i l p)))
  why_ring _ (in_positions {k} m c v) = rw (le-ltb 512 h.count m) (later_exact.why_given k (goes_on_lem (codes_all c) v))

  pub ring_exact : Exactly (ring_fault h ps cs) (RingWhy h ps cs)
  ring_exact = exactly (RingWhy h ps cs) (unfold ring_fault in ring_why (ltb 512 h.count) refl) why_ring
