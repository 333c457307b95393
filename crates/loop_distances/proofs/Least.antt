-- SCOPE 49, 50: a distance is from 0 to 4, and of a ring the least of its edges', and the only one that is. Assumes nothing.
use Prim.Native.Nat.{ℕ, zero, suc, ◌+◌, ◌≤◌, ◌<◌}
use mathlib.Core.Path.{◌≡◌, refl, sym, ap, subst}
use mathlib.Core.Bool.{Bool, true, false}
use mathlib.Core.List.{List}
use native.Mathlib.Omega.{arith}
use lib.Dec.{T, eqb, eqb→eq}
use lib.Ieee.Fits.{eq→eqb}
use lib.Ieee.{Float, of_bits, neg, lt}
use Rattle.std.specs.Prelude.{if◌then◌else◌}
use Rattle.numbers.specs.F64 as F
use Rattle.laws.specs.Loop.{iterate}
use Rattle.root.specs.Root.{in_units}
use Rattle.fractions.proofs.Round.{Plus}
use Rattle.vec3.specs.declared.Vec3.{Vec3}
use Rattle.vec3.specs.Vec.{cleared}
use Rattle.chord_length.specs.declared.ChordLength.{ChordLength}
use Rattle.chord_length.specs.Chords.{squared, most, least}
use Rattle.arcs.specs.Answers.{cleared_arc}
use Rattle.arcs.specs.Answers as Arcs
use Rattle.ring_edges.specs.Edges.{edge_at}
use Rattle.loop_ask.specs.Questions.{query_fault}
use Rattle.loop_distances.specs.Distances.{far_arc, far_edge, far_ring, far, Told, refused, chord, judged, arc_told, boundary_told}
use Rattle.loop_distances.specs.Least.{Chordal, OfEdge, edge, largest, Least, Distances}
use Rattle.loop_distances.proofs.Order.{Held}
use Rattle.loop_distances.proofs.Chords.{Within, zero_held, zero_units, zero_within, four_held, most_within, least_within, far_within, units, same_chord, least_below_first, least_below_second, le_of_units, units_of_le, four_above}

-- ---- the least of k more, from the index i on
abbrev taking : (ℕ → ChordLength) → ℕ → ChordLength → ChordLength
taking f i r = least r (f i)

-- an index from i on is i, or later
here_or_later : (P : ℕ → Type 0) (i j : ℕ) → i ≤ j → P i → (suc i ≤ j → P j) → P j
here_or_later P i j l p q = go (eqb i j) refl
  where
    go : (b : Bool) → eqb i j ≡ b → P j
    go true e = subst P (eqb→eq i j (subst T (sym e) tt)) p
    go false e =
        let other : i ≡ j → ⊥ = λ (s : i ≡ j). subst T e (eq→eqb s) in
        q (omega (arith, other))

module _ (f : ℕ → ChordLength) (inside : (i : ℕ) → Within (f i)) where
  pub fold_within : (k i : ℕ) (r : ChordLength) → Within r → Within (iterate (taking f) k i r)
  unfolding iterate
  fold_within zero i r h = h
  fold_within (suc k) i r h = fold_within k (suc i) (least r (f i)) (least_within r (f i) h (inside i))

  below_first : (k i : ℕ) (r : ChordLength) → Within r → units (iterate (taking f) k i r) ≤ units r
  unfolding iterate
  below_first zero i r h = omega arith
  below_first (suc k) i r h =
      omega (arith, below_first k (suc i) (least r (f i)) (least_within r (f i) h (inside i)), least_below_first r (f i) h (inside i))

  below_each : (k i : ℕ) (r : ChordLength) → Within r → (j : ℕ) → i ≤ j → j < i + k → units (iterate (taking f) k i r) ≤ units (f j)
  unfolding iterate
  below_each zero i r h j l g = absurd (omega arith)
  below_each (suc k) i r h j l g =
      let next : Within (least r (f i)) = least_within r (f i) h (inside i) in
      here_or_later (λ c. units (iterate (taking f) k (suc i) (least r (f i))) ≤ units (f c)) i j l
      (omega (arith, below_first k (suc i) (least r (f i)) next, least_below_second r (f i) h (inside i)))
      (λ (m : suc i ≤ j). below_each k (suc i) (least r (f i)) next j m (omega arith))

  chosen : (n : ℕ) (c : Bool) {a b : ChordLength} → OfEdge f n a → OfEdge f n b → OfEdge f n (if c then a else b)
  chosen n true a b = a
  chosen n false a b = b

  of_one : (n k i : ℕ) (r : ChordLength) → i + k ≤ n → OfEdge f n r → OfEdge f n (iterate (taking f) k i r)
  unfolding iterate least
  of_one n zero i r h o = o
  of_one n (suc k) i r h o = of_one n k (suc i) (least r (f i)) (omega arith) (chosen n (lt (f i).0 r.0) (edge i (omega arith)) o)

  -- the least of n is at most each, and one of them
  below_units : (n i : ℕ) → i < n → in_units (iterate (taking f) n 0 most).0 ≤ in_units (f i).0
  below_units n i h = below_each n 0 most most_within i (omega arith) (omega arith)

  pub least_fold : (n : ℕ) → Least f n (iterate (taking f) n 0 most)
  least_fold n = record {
    below = λ i h. le_of_units (iterate (taking f) n 0 most).0 (f i).0 (fold_within n 0 most most_within).held (inside i).held (below_units n i h);
    of_edge = of_one n n 0 most (omega arith) largest;
  }

  -- whatever is that is within, and is this one
  of_within : (n : ℕ) {c : ChordLength} → OfEdge f n c → Within c
  of_within n (edge i h) = inside i
  of_within n largest = most_within

  under : (n : ℕ) (c : ChordLength) {d : ChordLength} → Least f n c → OfEdge f n d → units c ≤ units d
  under n c x (edge i h) = units_of_le c.0 (f i).0 (of_within n x.of_edge).held (inside i).held (x.below i h)
  under n c x largest = four_above c (of_within n x.of_edge)

  pub only_least : (n : ℕ) (c d : ChordLength) → Least f n c → Least f n d → c ≡ d
  only_least n c d x y = same_chord c d (of_within n x.of_edge) (of_within n y.of_edge) (both (under n c x y.of_edge) (under n d y x.of_edge))
    where
      both : {a b : ℕ} → a ≤ b → b ≤ a → a ≡ b
      both p q = omega arith

-- ---- in the words of specs/Least
minus_zero : (x : Float) → Held x → x ≡ neg F.zero → ⊥
unfolding neg of_bits
minus_zero x h e = subst Plus e h.plus

pub chordal : (c : ChordLength) → Within c → Chordal c
chordal c h = record {
  at_least_lem = le_of_units F.zero c.0 zero_held h.held (nothing_below (in_units c.0));
  at_most_lem = le_of_units c.0 F.four h.held four_held (four_above c h);
  signed = minus_zero c.0 h.held;
}
  where
    nothing_below : (n : ℕ) → in_units F.zero ≤ n
    nothing_below n = subst (λ (z : ℕ). z ≤ n) (sym zero_units) (omega arith)

ring_within : (ps ns : List Float) (n : ℕ) (p : Vec3) → Within (far_ring ps ns n p)
unfolding far_ring
ring_within ps ns n p = fold_within (far_edge ps ns n p) (λ i. far_within (edge_at ps ns n i) p) n 0 most most_within

ring_least : (ps ns : List Float) (n : ℕ) (p : Vec3) → Least (far_edge ps ns n p) n (far_ring ps ns n p)
unfolding far_ring
ring_least ps ns n p = least_fold (far_edge ps ns n p) (λ i. far_within (edge_at ps ns n i) p) n

pub loop_within : (ps ns : List Float) (n : ℕ) (p : Vec3) → Within (far ps ns n p)
unfolding far
loop_within ps ns n p = go (eqb n 0)
  where
    go : (b : Bool) → Within (if b then squared F.zero else far_ring ps ns n p)
    go true = zero_within
    go false = ring_within ps ns n p

told_within : (k : ℕ) (d c : ChordLength) → Within d → judged k d ≡ chord c → Within c
told_within zero d c h e = subst Within (ap back e) h
  where
    back : Told → ChordLength
    back (refused k) = d
    back (chord x) = x
told_within (suc k) d c h e = absurd (subst Chord (sym e) tt)
  where
    Chord : Told → Type 0
    Chord (refused k) = ⊥
    Chord (chord x) = Unit {0}

pub distances : Distances
unfolding arc_told boundary_told
distances = record {
  of_arc = λ a p. chordal (far_arc a p) (far_within a p);
  of_ring = λ ps ns n p. chordal (far_ring ps ns n p) (ring_within ps ns n p);
  least_of_lem = ring_least;
  no_other = λ ps ns n p c l. only_least (far_edge ps ns n p) (λ i. far_within (edge_at ps ns n i) p) n c (far_ring ps ns n p) l (ring_least ps ns n p);
  arc_answers = λ a p c e. chordal c (told_within (Arcs.query_fault (cleared_arc a) (cleared p)) (far_arc (cleared_arc a) (cleared p)) c (far_within (cleared_arc a) (cleared p)) e);
  loop_answers = λ h ps ns cs p c e.
      chordal c (told_within (query_fault h ps ns cs (cleared p)) (far ps ns h.count (cleared p)) c (loop_within ps ns h.count (cleared p)) e);
}
