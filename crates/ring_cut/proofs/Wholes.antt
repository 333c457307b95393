-- A whole ring: what cutting it begins with, and what it leaves in the output. Assumes nothing.
use Prim.Native.Nat.{ℕ, ◌-◌, ◌*◌, ◌≤◌}
use mathlib.Core.Path.{◌≡◌, sym, ap, ◌∙◌}
use mathlib.Core.Bool.{Bool, true, false}
use mathlib.Core.List.{List, ◌++◌, append-nil}
use native.Mathlib.Omega.{arith}
use lib.Ieee.{Float}
use lib.ListN.{length, drop, drop_of_length-le}
use borrow.Author.Tests.{not-true, not-false}
use Rattle.ring_theory.specs.Ring.{numbers}
use Rattle.ring_theory.proofs.Numbers.{size, below}
use Rattle.ring_theory.proofs.Theorem.{counted}
use Rattle.ring_ears.specs.Ears.{Lent, Remaining}
use Rattle.ring_cut.specs.Cut.{Ring, Work, whole_ring, cutting_from, cutting_of, Outcome, laid, cut_ring_outcome}
use Rattle.ring_cut.proofs.Relations.{cuts, at_lowest}

pub lent : {ps : List Float} {classes : List ℕ} → Ring ps classes → Lent ps (numbers (length classes)) classes
lent {classes = classes} r = record { below = below (length classes); whole = r.whole; most = r.most; few = rw size r.most }

-- all of a ring is cut into n - 2 triangles
pub all_cut : {ps : List Float} {classes : List ℕ} → Ring ps classes → (cutting_of ps classes).stuck ≡ false
    → length (cutting_of ps classes).triangles ≡ 3 * (length classes - 2)
all_cut {ps} {classes} r h =
    let n = size (length classes) in
    counted (cuts (at_lowest ps (length (numbers (length classes)) - 3) (whole_ring classes) (omega (arith, r.least)) h)) ∙ rw n

module _ {ps : List Float} {classes ids work : List ℕ} (w : Work ps classes ids work) {ids' work' : List ℕ} (e : record { ids = ids'; classes = work' } ≡ whole_ring classes) where
  pub ready : Lent ps ids' work' × (3 ≤ length ids') × (length ids' ≡ length classes)
  ready = rw (ap (λ (s : Remaining). s.ids) e, ap (λ (s : Remaining). s.classes) e) (lent w.ring, rw size w.ring.least, size (length classes))

  module _ (tris out : List ℕ) {b : Bool} {tris' : List ℕ} (q : record { answer = b; out = tris' } ≡ laid (cutting_from ps (record { ids = ids'; classes = work' })) tris) where
    done : record { answer = b; out = tris' } ≡ laid (cutting_of ps classes) tris
    done = q ∙ ap (λ (s : Remaining). laid (cutting_from ps s) tris) e

    pub none_found : b ≡ false → record { answer = false; out = out } ≡ cut_ring_outcome ps classes out
    unfolding cut_ring_outcome
    none_found f = rw (not-false (cutting_of ps classes).stuck (sym (ap (λ (o : Outcome). o.answer) done) ∙ f))

    pub all_found : {out' : List ℕ} → b ≡ true → length tris ≡ 3 * (length classes - 2) → out' ≡ tris' ++ drop (length tris') out
        → record { answer = true; out = out' } ≡ cut_ring_outcome ps classes out
    unfolding cut_ring_outcome
    all_found {out'} t s o =
        let free : (cutting_of ps classes).stuck ≡ false = not-true (cutting_of ps classes).stuck (sym (ap (λ (o : Outcome). o.answer) done) ∙ t) in
        let n = all_cut w.ring free in
        let h : length tris ≤ length (cutting_of ps classes).triangles = omega arith in
        let are : tris' ≡ (cutting_of ps classes).triangles = ap (λ (o : Outcome). o.out) done ∙ rw (drop_of_length-le tris h, append-nil) in
        rw (free, o, are)
