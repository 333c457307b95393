-- A ring being cut along a list: what holds after t triples, where m corners are left. Assumes nothing.
use Prim.Native.Nat.{ℕ, suc, ◌+◌, ◌-◌, ◌*◌, ◌≤◌, ◌<◌}
use mathlib.Core.Path.{◌≡◌, refl, sym, ap, ◌∙◌}
use mathlib.Core.Bool.{Bool, true, false, ◌&&◌, true≢false}
use mathlib.Core.List.{List, ◌∷◌, ◌++◌}
use native.Mathlib.Omega.{arith}
use lib.Ieee.{Float}
use lib.ListN.{length, take, drop, get_or}
use lib.Seq.{take-length}
use borrow.Author.Tests.{ltb-true, le-ltb}
use Rattle.ring_ears.specs.Ears.{Lent, Remaining, cut_at, cut_in}
use Rattle.ring_cut.specs.Cut.{whole_ring}
use Rattle.ring_cut.proofs.Lefts.{left, Held, hold, cut_left, cut_held}
use Rattle.ring_check.specs.Accepted.{index_of, fits_at, same_numbers, accepts, accepts_from}
use Rattle.ring_check.proofs.Lists.{triple}

pub both : (p q : Bool) → p && q ≡ true → (p ≡ true) × (q ≡ true)
both true true e = (refl, refl)
both true false e = absurd (true≢false (sym e))
both false q e = absurd (true≢false (sym e))

-- one iteration
module _ (ps : List Float) (k : ℕ) (s : Remaining) (a b c : ℕ) (rest : List ℕ) {i : ℕ} (e : i ≡ index_of s.ids b) where
  pub accepts_on : fits_at ps s i a c ≡ true → accepts ps (suc k) s (a ∷ b ∷ c ∷ rest) ≡ accepts ps k (cut_at ps s i) rest
  unfolding accepts
  accepts_on f = rw (← e, f)

  pub accepts_off : fits_at ps s i a c ≡ false → accepts ps (suc k) s (a ∷ b ∷ c ∷ rest) ≡ false
  unfolding accepts
  accepts_off f = rw (← e, f)

pub accepts_end : (ps : List Float) (s : Remaining) (l : List ℕ) → accepts ps 0 s l ≡ same_numbers s.ids l
unfolding accepts
accepts_end ps s l = refl

pub fits_index : (ps : List Float) (s : Remaining) (i a c : ℕ) → fits_at ps s i a c ≡ true → i < length s.ids
unfolding fits_at
fits_index ps s i a c e = ltb-true i (length s.ids) (both _ _ (both _ _ e).0).0

-- no index past the end does
no_index : (ps : List Float) (s : Remaining) (i a c : ℕ) → length s.ids ≤ i → false ≡ fits_at ps s i a c
unfolding fits_at
no_index ps s i a c h = rw (le-ltb _ _ h)

pub record Following (ps : List Float) (ids₀ classes₀ tris ids classes : List ℕ) (m t : ℕ) : Type 0 where
  pub held : Held ps ids₀ classes₀ ids classes m
  pub count : m + t ≡ length ids₀
  pub size : length tris ≡ 3 * (length ids₀ - 2)
  pub rest : accepts_from ps (record { ids = ids₀; classes = classes₀ }) tris ≡ accepts ps (m - 3) (left ids classes m) (drop (3 * t) tris)

pub begin : {ps : List Float} {ids classes tris : List ℕ} → Lent ps ids classes → 3 ≤ length ids → length tris ≡ 3 * (length ids - 2)
    → Following ps ids classes tris ids classes (length ids) 0
begin l h e = record { held = hold l h; count = omega arith; size = e; rest = rw take-length }

module _ {ps : List Float} {ids₀ classes₀ tris ids classes : List ℕ} {m t : ℕ} (g : Following ps ids₀ classes₀ tris ids classes m t) where
  -- an iteration
  module _ {i : ℕ} (more : 3 < m) (e : i ≡ index_of (take m ids) (get_or tris (3 * t + 1) 0)) {b : Bool}
      (f : b ≡ fits_at ps (left ids classes m) i (get_or tris (3 * t) 0) (get_or tris (3 * t + 2) 0)) where
    room : 3 * t + 2 < length tris
    room = omega (arith, g.size, g.count)

    one_less : m - 3 ≡ suc (m - 1 - 3)
    one_less = omega arith

    pub off : b ≡ false → false ≡ accepts_from ps (record { ids = ids₀; classes = classes₀ }) tris
    off n =
        let z : fits_at ps (left ids classes m) i (get_or tris (3 * t) 0) (get_or tris (3 * t + 2) 0) ≡ false = sym f ∙ n in
        sym (g.rest ∙ rw (one_less, triple tris t room) (accepts_off ps (m - 1 - 3) (left ids classes m) _ _ _ (drop (3 * (t + 1)) tris) e z))

    fits : b ≡ true → fits_at ps (left ids classes m) i (get_or tris (3 * t) 0) (get_or tris (3 * t + 2) 0) ≡ true
    fits n = sym f ∙ n

    pub index : b ≡ true → i < length (take m ids)
    index n = fits_index ps (left ids classes m) i _ _ (fits n)

    module _ (n : b ≡ true) {ids' classes' part : List ℕ} (q : ids' ≡ part ++ drop m ids) (p : record { ids = part; classes = classes' } ≡ cut_in ps (left ids classes m) i)
        (kept : length part ≡ length (take m ids)) (also : length classes' ≡ length classes) where
      pub cut : Following ps ids₀ classes₀ tris ids' classes' (m - 1) (t + 1)
      cut =
          let h : i < m = rw g.held.sized at (index n) in
          record {
            held = cut_held g.held h more q p kept also;
            count = omega (arith, g.count);
            size = g.size;
            rest = g.rest ∙ rw (one_less, triple tris t room, cut_left g.held h more q p kept also) (accepts_on ps (m - 1 - 3) (left ids classes m) _ _ _ (drop (3 * (t + 1)) tris) e (fits n));
          }

  -- the middle number of the next triple is not on the ring left
  pub missing : 3 < m → length (take m ids) ≤ index_of (take m ids) (get_or tris (3 * t + 1) 0) → false ≡ accepts_from ps (record { ids = ids₀; classes = classes₀ }) tris
  missing more h = off more refl (no_index ps (left ids classes m) _ (get_or tris (3 * t) 0) (get_or tris (3 * t + 2) 0) h) refl

  -- the ring left is compared with the last triple
  pub finish : {r : Bool} → m ≤ 3 → r ≡ same_numbers (take m ids) (drop (3 * t) tris) → r ≡ accepts_from ps (record { ids = ids₀; classes = classes₀ }) tris
  finish h u =
      let none : m - 3 ≡ 0 = omega arith in
      u ∙ sym (g.rest ∙ rw (none) (accepts_end ps (left ids classes m) (drop (3 * t) tris)))

-- from the whole ring on
pub of_whole : (ps : List Float) (classes tris : List ℕ) {s : Remaining} {r : Bool} → s ≡ whole_ring classes → r ≡ accepts_from ps s tris
    → r ≡ accepts_from ps (whole_ring classes) tris
of_whole ps classes tris e q = q ∙ ap (λ (s : Remaining). accepts_from ps s tris) e
