-- A ring that is a list of increasing numbers: which numbers are on it, its sides by their indexes, and what is left of it when a corner is cut off. Assumes nothing.
use Prim.Native.Nat.{ℕ, zero, suc, ◌+◌, ◌-◌, ◌%◌, ◌≤◌, ◌<◌}
use mathlib.Core.Path.{◌≡◌, refl, sym, ap, ◌∙◌, subst}
use mathlib.Core.Logic.{◌≢◌}
use mathlib.Core.List.{List}
use native.Mathlib.Nat.{mod-eq_of_lt, mod_self, add-mod_right}
use native.Mathlib.Decide.{dec_lt}
use native.Mathlib.Omega.{arith}
use lib.ListN.{length, get_or}
use Rattle.ring_theory.specs.Ring.{prev, next, without}
use Rattle.ring_theory.proofs.Withouts.{length_without, get_d_without_low, get_d_without_high}
use Rattle.ring_theory.proofs.Rounds.{Round, straight, over, after}
use Rattle.ring_theory.proofs.Steps.{Side, Cutting}

-- the number at index j
abbrev pub nth : List ℕ → ℕ → ℕ
nth ids j = get_or ids j 0

abbrev pub Increasing : List ℕ → Type 0
Increasing ids = (j k : ℕ) → j < k → k < length ids → nth ids j < nth ids k

pub record In (ids : List ℕ) (w : ℕ) : Type 0 where
  pub index : ℕ
  pub inside : index < length ids
  pub there : nth ids index ≡ w

pub at_index : {ids : List ℕ} (j : ℕ) → j < length ids → In ids (nth ids j)
at_index j h = record { index = j; inside = h; there = refl }

-- j is the index after i, of m counted round
pub data Follows (m i j : ℕ) : Type 0 where
  on : j ≡ i + 1 → j < m → Follows m i j
  round : j ≡ 0 → i + 1 ≡ m → Follows m i j

pub next_follows : (m i : ℕ) → i < m → Follows m i ((i + 1) % m)
next_follows m i h = go (dec_lt (i + 1) m)
  where
    go : Dec (i + 1 < m) → Follows m i ((i + 1) % m)
    go (yes k) = rw (mod-eq_of_lt k) (on refl k)
    go (no k) =
        let e : i + 1 ≡ m = omega arith in
        rw (e, mod_self) (round refl e)

pub prev_follows : (m i : ℕ) → i < m → Follows m ((i + m - 1) % m) i
prev_follows m zero h =
    let e : 0 + m - 1 ≡ m - 1 = omega arith in
    let k : m - 1 < m = omega arith in
    rw (e, mod-eq_of_lt k) (round refl (omega arith))
prev_follows m (suc i) h =
    let e : suc i + m - 1 ≡ i + m = omega arith in
    let k : i < m = omega arith in
    rw (e, add-mod_right, mod-eq_of_lt k) (on (omega arith) h)

pub follows_below : {m i j : ℕ} → Follows m i j → (i < m) × (j < m)
follows_below (on e h) = (omega arith, h)
follows_below (round e h) = (omega arith, omega arith)

module _ (ids : List ℕ) (inc : Increasing ids) where
  up_to : (j k : ℕ) → j ≤ k → k < length ids → nth ids j ≤ nth ids k
  up_to j k h l = go (dec_lt j k)
    where
      go : Dec (j < k) → nth ids j ≤ nth ids k
      go (yes m) = omega (arith, inc j k m l)
      go (no m) =
          let e : j ≡ k = omega arith in
          rw e (omega arith)

  pub apart_at : (j k : ℕ) → j < length ids → k < length ids → j ≢ k → nth ids j ≢ nth ids k
  apart_at j k h l m = go (dec_lt j k)
    where
      go : Dec (j < k) → nth ids j ≢ nth ids k
      go (yes n) = omega (arith, inc j k n l)
      go (no n) = omega (arith, inc k j (omega arith) h)

  -- neighbouring indexes make a side
  pub side_at_lem : (i j : ℕ) → 2 ≤ length ids → Follows (length ids) i j → Side (In ids) (nth ids i) (nth ids j)
  side_at_lem i j two f = record {
    from = at_index i (follows_below f).0;
    to = at_index j (follows_below f).1;
    differ = apart_at i j (follows_below f).0 (follows_below f).1 (differ f);
    bare = λ w h r. bare f h.index h.inside (subst (λ x. Round (nth ids i) x (nth ids j)) (sym h.there) r);
  }
    where
      differ : Follows (length ids) i j → i ≢ j
      differ (on e h) = omega arith
      differ (round e h) = omega arith

      bare : Follows (length ids) i j → (k : ℕ) → k < length ids → Round (nth ids i) (nth ids k) (nth ids j) → ⊥
      bare (on e h) k l (straight x y) = go (dec_lt i k)
        where
          go : Dec (i < k) → ⊥
          go (yes n) = omega (arith, up_to j k (omega arith) l)
          go (no n) = omega (arith, up_to k i (omega arith) (omega arith))
      bare (on e h) k l (over x y) = omega (arith, inc i j (omega arith) h)
      bare (on e h) k l (after x y) = omega (arith, inc i j (omega arith) h)
      bare (round e h) k l (straight x y) = omega (arith, inc j i (omega arith) (omega arith))
      bare (round e h) k l (over x y) = omega (arith, up_to k i (omega arith) (omega arith))
      bare (round e h) k l (after x y) = omega (arith, up_to j k (omega arith) l)

  module _ (i : ℕ) (h : i < length ids) where
    size : length (without i ids) ≡ length ids - 1
    size = length_without i ids h

    low : (j : ℕ) → j < i → nth (without i ids) j ≡ nth ids j
    low = get_d_without_low i ids h 0

    high : (j : ℕ) → i ≤ j → nth (without i ids) j ≡ nth ids (j + 1)
    high = get_d_without_high i ids h 0

    pub increasing_without : Increasing (without i ids)
    increasing_without j k m n = go (dec_lt j i) (dec_lt k i)
      where
        n' : k + 1 < length ids
        n' = omega (arith, size)

        go : Dec (j < i) → Dec (k < i) → nth (without i ids) j < nth (without i ids) k
        go (yes x) (yes y) = rw (low j x, low k y) (inc j k m (omega arith))
        go (yes x) (no y) = rw (low j x, high k (omega arith)) (inc j (k + 1) (omega arith) n')
        go (no x) (yes y) = absurd (omega arith)
        go (no x) (no y) = rw (high j (omega arith), high k (omega arith)) (inc (j + 1) (k + 1) (omega arith) n')

    -- on what is left is what was on the ring, but for the corner cut off
    was_in : {w : ℕ} → In (without i ids) w → In ids w × (w ≢ nth ids i)
    was_in {w} r = go (dec_lt r.index i)
      where
        j : ℕ
        j = r.index

        n : j + 1 < length ids
        n = omega (arith, size, r.inside)

        go : Dec (j < i) → In ids w × (w ≢ nth ids i)
        go (yes x) =
            let e : nth ids j ≡ w = sym (low j x) ∙ r.there in
            (record { index = j; inside = omega arith; there = e }, rw (← e) (apart_at j i (omega arith) h (omega arith)))
        go (no x) =
            let e : nth ids (j + 1) ≡ w = sym (high j (omega arith)) ∙ r.there in
            (record { index = j + 1; inside = n; there = e }, rw (← e) (apart_at (j + 1) i n h (omega arith)))

    stays_in : {w : ℕ} → In ids w → w ≢ nth ids i → In (without i ids) w
    stays_in {w} r d = go (dec_lt r.index i)
      where
        j : ℕ
        j = r.index

        l : j < length ids
        l = r.inside

        ne : j ≢ i
        ne e = d (sym r.there ∙ ap (nth ids) e)

        go : Dec (j < i) → In (without i ids) w
        go (yes x) = record { index = j; inside = omega (arith, size); there = low j x ∙ r.there }
        go (no x) =
            let e : j - 1 + 1 ≡ j = omega (arith, ne) in
            record { index = j - 1; inside = omega (arith, size, ne); there = high (j - 1) (omega (arith, ne)) ∙ ap (nth ids) e ∙ r.there }

-- four corners in a row, of more than three
four : {m p i n x : ℕ} → 3 < m → Follows m p i → Follows m i n → Follows m n x → (p ≢ n) × (x ≢ p) × (x ≢ i) × (x ≢ n)
four h (on a b) (on c d) (on e f) = omega arith
four h (on a b) (on c d) (round e f) = omega arith
four h (on a b) (round c d) (on e f) = omega arith
four h (on a b) (round c d) (round e f) = omega arith
four h (round a b) (on c d) (on e f) = omega arith
four h (round a b) (on c d) (round e f) = omega arith
four h (round a b) (round c d) (on e f) = omega arith
four h (round a b) (round c d) (round e f) = omega arith

module _ (ids : List ℕ) (inc : Increasing ids) (i : ℕ) (h : 3 < length ids) (k : i < length ids) where
  pub cutting : Cutting (In ids) (In (without i ids)) (nth ids (prev ids i)) (nth ids i) (nth ids (next ids i))
  cutting =
      let m = length ids in
      let b : Follows m (prev ids i) i = prev_follows m i k in
      let a : Follows m i (next ids i) = next_follows m i k in
      let n = (follows_below a).1 in
      let s : Follows m (next ids i) ((next ids i + 1) % m) = next_follows m (next ids i) n in
      let d = four h b a s in
      let p = (follows_below b).0 in
      let x = (follows_below s).1 in
      record {
        before = side_at_lem ids inc (prev ids i) i (omega arith) b;
        past = side_at_lem ids inc i (next ids i) (omega arith) a;
        apart = apart_at ids inc (prev ids i) (next ids i) p n d.0;
        less = λ w r. (was_in ids inc i k r).0;
        gone = λ r. (was_in ids inc i k r).1 refl;
        kept = λ w r e. stays_in ids inc i k r e;
        more = (
          nth ids ((next ids i + 1) % m),
          at_index ((next ids i + 1) % m) x,
          apart_at ids inc ((next ids i + 1) % m) (prev ids i) x p d.1,
          apart_at ids inc ((next ids i + 1) % m) i x k d.2,
          apart_at ids inc ((next ids i + 1) % m) (next ids i) x n d.3,
        );
      }
