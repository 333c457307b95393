-- The checker accepts exactly the lists that cut the ring at eligible ears. Assumes nothing.
use Prim.Native.Nat.{ℕ, zero, suc, ◌+◌, ◌<◌}
use mathlib.Core.Path.{◌≡◌, refl, sym, ◌∙◌, subst}
use mathlib.Core.Bool.{Bool, true, false, true≢false}
use mathlib.Core.List.{List, [], ◌∷◌}
use native.Mathlib.Omega.{arith}
use lib.Ieee.{Float}
use lib.ListN.{length, get_or}
use lib.Dec.{eqb}
use borrow.Author.Tests.{eqb-true, ltb-true, lt-ltb, eq-eqb, ne_eqb}
use Rattle.ring_theory.specs.Ring.{prev, next}
use Rattle.ring_theory.proofs.Indexes.{nth, Increasing, apart_at, increasing_without}
use Rattle.ring_ears.specs.Ears.{Remaining, cut_at}
use Rattle.ring_cut.specs.Accepted.{CutBy, last, cut, Eligible}
use Rattle.laws.proofs.Indexes.{first_has, is_first}
use Rattle.ring_cut.proofs.Relations.{length_cut}
use Rattle.ring_check.specs.Accepted.{is_number, index_of, fits_at, same_numbers, accepts}
use Rattle.ring_check.proofs.Followings.{both, accepts_on, accepts_off, accepts_end}

same_is : (l m : List ℕ) → same_numbers l m ≡ true → l ≡ m
unfolding same_numbers
same_is [] [] e = refl
same_is [] (b ∷ m) e = absurd (true≢false (sym e))
same_is (a ∷ l) [] e = absurd (true≢false (sym e))
same_is (a ∷ l) (b ∷ m) e =
    let p = both (eqb a b) (same_numbers l m) e in
    rw (eqb-true a b p.0, same_is l m p.1)

is_same : (l : List ℕ) → same_numbers l l ≡ true
unfolding same_numbers
is_same [] = refl
is_same (a ∷ l) = rw (eq-eqb a a refl) (is_same l)

module _ (ps : List Float) (s : Remaining) where
  record Fits (i a c : ℕ) : Type 0 where
    index : i < length s.ids
    before : get_or s.ids (prev s.ids i) 0 ≡ a
    after : get_or s.ids (next s.ids i) 0 ≡ c
    eligible : Eligible ps s i

  fits : (i a c : ℕ) → fits_at ps s i a c ≡ true → Fits i a c
  unfolding fits_at
  fits i a c e =
      let p = both _ _ e in
      let q = both _ _ p.0 in
      let r = both _ _ q.1 in
      record { index = ltb-true _ _ q.0; before = eqb-true _ _ r.0; after = eqb-true _ _ r.1; eligible = p.1 }

  fit : (i : ℕ) → i < length s.ids → Eligible ps s i → fits_at ps s i (get_or s.ids (prev s.ids i) 0) (get_or s.ids (next s.ids i) 0) ≡ true
  unfolding fits_at
  fit i h e = rw (lt-ltb i (length s.ids) h, eq-eqb (get_or s.ids (prev s.ids i) 0) _ refl, eq-eqb (get_or s.ids (next s.ids i) 0) _ refl) e

-- the number at the index that is found
number_at : (ids : List ℕ) (b : ℕ) → index_of ids b < length ids → get_or ids (index_of ids b) 0 ≡ b
number_at ids b h = eqb-true _ _ (first_has (is_number ids b) (length ids) 0 (omega arith))

-- the index of a number, on a ring whose numbers increase
index_is : (ids : List ℕ) → Increasing ids → (i : ℕ) → i < length ids → index_of ids (nth ids i) ≡ i
index_is ids inc i h = is_first (is_number ids (nth ids i)) (length ids) 0 i (omega arith) (omega arith) (eq-eqb (nth ids i) (nth ids i) refl) (λ l a b. ne_eqb (nth ids l) (nth ids i) (apart_at ids inc l i (omega arith) h (omega arith)))

same_triple : {x y z a b c : ℕ} (rest : List ℕ) → x ≡ a → y ≡ b → z ≡ c → x ∷ y ∷ z ∷ rest ≡ a ∷ b ∷ c ∷ rest
same_triple rest p q r = rw (p, q, r)

pub sound : (ps : List Float) (k : ℕ) (s : Remaining) (tris : List ℕ) → length s.ids ≡ k + 3 → accepts ps k s tris ≡ true → CutBy ps (Eligible ps) s tris
unfolding accepts
sound ps zero s tris n e = subst (λ (l : List ℕ). CutBy ps (Eligible ps) s l) (same_is s.ids tris e) (last {s = s} (omega arith))
sound ps (suc k) s [] n e = absurd (true≢false (sym e))
sound ps (suc k) s (a ∷ []) n e = absurd (true≢false (sym e))
sound ps (suc k) s (a ∷ b ∷ []) n e = absurd (true≢false (sym e))
sound ps (suc k) s (a ∷ b ∷ c ∷ rest) n e = go (fits_at ps s (index_of s.ids b) a c) refl (λ p q. sound ps k (cut_at ps s (index_of s.ids b)) rest p q)
  where
    go : (f : Bool) → fits_at ps s (index_of s.ids b) a c ≡ f
        → (length (cut_at ps s (index_of s.ids b)).ids ≡ k + 3 → accepts ps k (cut_at ps s (index_of s.ids b)) rest ≡ true
        → CutBy ps (Eligible ps) (cut_at ps s (index_of s.ids b)) rest)
        → CutBy ps (Eligible ps) s (a ∷ b ∷ c ∷ rest)
    go false f on = absurd (true≢false (sym e ∙ accepts_off ps k s a b c rest refl f))
    go true f on =
        let t = fits ps s (index_of s.ids b) a c f in
        let l = length_cut ps s (index_of s.ids b) t.index in
        let m : length (cut_at ps s (index_of s.ids b)).ids ≡ k + 3 = omega arith in
        subst (λ (l : List ℕ). CutBy ps (Eligible ps) s l) (same_triple rest t.before (number_at s.ids b t.index) t.after)
        (cut {s = s} (index_of s.ids b) (omega arith) t.index t.eligible (on m (sym (accepts_on ps k s a b c rest refl f) ∙ e)))

ids_cut : (ps : List Float) (s : Remaining) (i : ℕ) → Increasing s.ids → i < length s.ids → Increasing (cut_at ps s i).ids
unfolding cut_at
ids_cut ps s i inc h = increasing_without s.ids inc i h

pub complete : {ps : List Float} {s : Remaining} {tris : List ℕ} → CutBy ps (Eligible ps) s tris → Increasing s.ids → (k : ℕ)
    → length s.ids ≡ k + 3 → accepts ps k s tris ≡ true
complete {ps} {s} (last e) inc zero n = accepts_end ps s s.ids ∙ is_same s.ids
complete {ps} {s} (last e) inc (suc k) n = absurd (omega arith)
complete {ps} {s} (cut i h p m c) inc zero n = absurd (omega arith)
complete {ps} {s} (cut {rest = rest} i h p m c) inc (suc k) n =
    let l = length_cut ps s i p in
    accepts_on ps k s _ (nth s.ids i) _ rest (sym (index_is s.ids inc i p)) (fit ps s i p m) ∙ complete c (ids_cut ps s i inc p) k (omega arith)
