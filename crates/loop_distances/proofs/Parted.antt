-- The least over a block: a settled edge's distance is the nearer end's, and taking in the settled ones first and the listed ones then comes to the same as taking
-- in all in order. Assumes nothing.
use Prim.Native.Nat.{ℕ, zero, suc, ◌+◌, ◌-◌, ◌≤◌, ◌<◌}
use mathlib.Core.Path.{◌≡◌, refl, sym, ap, ◌∙◌, subst}
use mathlib.Core.Bool.{Bool, true, false, ◌||◌}
use mathlib.Core.List.{List, [], ◌∷◌}
use native.Mathlib.Nat.{sub-zero, mod-lt}
use native.Mathlib.Omega.{arith}
use lib.Dec.{T}
use lib.Ieee.{Float}
use lib.ListN.{length, get_or, take}
use lib.Seq.{length-take-le}
use Rattle.laws.specs.Loop.{iterate}
use Rattle.laws.proofs.Loops.{Iterate, iterate_begin}
use Rattle.laws.proofs.Parts.{iterate_part}
use Rattle.vec3.specs.declared.Vec3.{Vec3}
use Rattle.vec3.specs.Vec.{stable_unit, orthogonal_to, pos_at}
use Rattle.sizes.proofs.Unit.{Sized}
use Rattle.sizes.proofs.Normal.{position_sized}
use Rattle.chord_length.specs.declared.ChordLength.{ChordLength}
use Rattle.chord_length.specs.Chords.{most, least}
use Rattle.minor_arc.specs.declared.MinorArc.{MinorArc}
use Rattle.sure_sides.specs.Sure.{surely}
use Rattle.sure_sides.proofs.Feet.{surely_off}
use Rattle.ring_edges.specs.Edges.{edge_at}
use Rattle.loop_distances.specs.declared.Settled.{Settled}
use Rattle.loop_distances.specs.Distances.{nearer_end, past_end, by_foot, far_arc, far_edge, far_ring}
use Rattle.loop_distances.specs.Blocks.{settled, settled_at, taken_if, listed_if, opens, settling, Passed, Below, Fine, foot_by, far_with, listed_far, listed_least, least_of}
use Rattle.loop_distances.proofs.Chords.{Within, most_within, least_within, far_within, swap}
use Rattle.loop_distances.proofs.Least.{fold_within}
use Rattle.loop_distances.proofs.Listed.{entries, iterate_same, listed_below}

-- ---- one edge
-- no root is needed where it is settled
pub settled_far : (a : MinorArc) (p : Vec3) → Sized a.start 2 → Sized a.end 2 → Sized p 2 → settled a p ≡ true → far_arc a p ≡ nearer_end a p
unfolding far_arc by_foot
settled_far a p S E P e = go (surely a p) refl (past_end a p) refl e
  where
    go : (b : Bool) → surely a p ≡ b → (c : Bool) → past_end a p ≡ c → b || c ≡ true → far_arc a p ≡ nearer_end a p
    go b h true g o = rw g
    go true h false g o =
        let off = surely_off a p S E P h in
        rw (g, off.whole, off.off)
    go false h false g o = absurd (subst T (sym o) tt)

-- and where it is open, the distance is by the two unit vectors
pub open_far : (a : MinorArc) (p : Vec3) → settled a p ≡ false → far_with a p (stable_unit p a.normal) (stable_unit a.normal (stable_unit p a.normal)) ≡ far_arc a p
unfolding far_arc far_with foot_by orthogonal_to
open_far a p e = go (surely a p) (past_end a p) refl e
  where
    go : (b c : Bool) → past_end a p ≡ c → b || c ≡ false → far_with a p (stable_unit p a.normal) (stable_unit a.normal (stable_unit p a.normal)) ≡ far_arc a p
    go b true g o = absurd (subst T (o_true b o) tt)
      where
        o_true : (b : Bool) → b || true ≡ false → true ≡ false
        o_true true o = o
        o_true false o = o
    go b false g o = rw g

-- ---- the order does not matter
module _ (f : ℕ → ChordLength) (inside : (i : ℕ) → Within (f i)) (s : ℕ → Bool) where
  over : List ℕ → ChordLength → ChordLength
  over [] r = r
  over (x ∷ l) r = over l (least r (f x))

  abbrev step : ℕ → ChordLength → ChordLength
  step i r = taken_if (s i) r (f i)

  taken_within : (b : Bool) (r c : ChordLength) → Within r → Within c → Within (taken_if b r c)
  taken_within true r c h k = least_within r c h k
  taken_within false r c h k = h

  steps_within : (k i : ℕ) (r : ChordLength) → Within r → Within (iterate step k i r)
  unfolding iterate
  steps_within zero i r h = h
  steps_within (suc k) i r h = steps_within k (suc i) (step i r) (taken_within (s i) r (f i) h (inside i))

  taken_swap : (b : Bool) (r a c : ChordLength) → Within r → Within a → Within c → taken_if b (least r a) c ≡ least (taken_if b r c) a
  taken_swap true r a c R A C = swap r a c R A C
  taken_swap false r a c R A C = refl

  steps_swap : (k i : ℕ) (r a : ChordLength) → Within r → Within a → iterate step k i (least r a) ≡ least (iterate step k i r) a
  unfolding iterate
  steps_swap zero i r a R A = refl
  steps_swap (suc k) i r a R A =
      ap (iterate step k (suc i)) (taken_swap (s i) r a (f i) R A (inside i)) ∙ steps_swap k (suc i) (step i r) a (taken_within (s i) r (f i) R (inside i)) A

  over_parted : (k i : ℕ) (r : ChordLength) → Within r → over (opens s k i) (iterate step k i r) ≡ iterate (λ j x. least x (f j)) k i r
  unfolding iterate opens over
  over_parted zero i r R = refl
  over_parted (suc k) i r R = go (s i) (over_parted k (suc i) (least r (f i)) (least_within r (f i) R (inside i)))
    where
      go : (b : Bool) → over (opens s k (suc i)) (iterate step k (suc i) (least r (f i))) ≡ iterate (λ j x. least x (f j)) k (suc i) (least r (f i))
          → over (listed_if b i (opens s k (suc i))) (iterate step k (suc i) (taken_if b r (f i))) ≡ iterate (λ j x. least x (f j)) k (suc i) (least r (f i))
      go true e = e
      go false e = ap (over (opens s k (suc i))) (sym (steps_swap k (suc i) r (f i) R (inside i))) ∙ e

  -- over a list by its indexes
  shifted : (l : List ℕ) (x k i : ℕ) (r : ChordLength) → iterate (λ j y. least y (f (get_or (x ∷ l) j 0))) k (suc i) r ≡ iterate (λ j y. least y (f (get_or l j 0))) k i r
  unfolding iterate
  shifted l x zero i r = refl
  shifted l x (suc k) i r = shifted l x k (suc i) (least r (f (get_or l i 0)))

  by_index : (l : List ℕ) (r : ChordLength) → iterate (λ j y. least y (f (get_or l j 0))) (length l) 0 r ≡ over l r
  unfolding iterate over
  by_index [] r = refl
  by_index (x ∷ l) r = shifted l x (length l) 0 (least r (f x)) ∙ by_index l (least r (f x))

  pub parted : (k i : ℕ) (r : ChordLength) → Within r
      → iterate (λ j y. least y (f (get_or (opens s k i) j 0))) (length (opens s k i)) 0 (iterate step k i r) ≡ iterate (λ j x. least x (f j)) k i r
  parted k i r R = by_index (opens s k i) (iterate step k i r) ∙ over_parted k i r R

-- ---- a block of edges
module _ (ps ns : List Float) (n : ℕ) (p : Vec3) (fine : Fine ps n p) where
  corner_sized : (i : ℕ) → i < n → Sized (pos_at ps i) 2
  corner_sized i h = position_sized (pos_at ps i) (fine.corners i h)

  edge_settled : (i : ℕ) → i < n → 0 < n → settled_at ps ns n p i ≡ true → far_edge ps ns n p i ≡ nearer_end (edge_at ps ns n i) p
  unfolding edge_at
  edge_settled i h g e = settled_far (edge_at ps ns n i) p (corner_sized i h) (corner_sized _ (mod-lt (i + 1) g)) (position_sized p fine.query) e

  pub block : (k i : ℕ) (r : ChordLength) → i + k ≤ n → Within r
      → listed_least ps ns n p (opens (settled_at ps ns n p) k i) (iterate (settling ps ns n p) k i r) ≡ iterate (λ j x. least x (far_edge ps ns n p j)) k i r
  block k i r h R =
      let list = opens (settled_at ps ns n p) k i in
      let f = far_edge ps ns n p in
      let plain = iterate (λ j x. taken_if (settled_at ps ns n p j) x (f j)) k i r in
      ap (listed_least ps ns n p list)
      (iterate_same (settling ps ns n p) (λ j x. taken_if (settled_at ps ns n p j) x (f j)) k i r
      (λ j l g x. taken (settled_at ps ns n p j) x (nearer_end (edge_at ps ns n j) p) (f j) (λ e. sym (edge_settled j (omega arith) (omega arith) e))))
      ∙ iterate_same (λ j x. least x (listed_far ps ns n p list j)) (λ j x. least x (f (get_or list j 0))) (length list) 0 plain
      (λ j l g x. ap (least x) (open_far (edge_at ps ns n (get_or list j 0)) p (entries (settled_at ps ns n p) k i j (omega arith)).is_open))
      ∙ parted f (λ j. far_within (edge_at ps ns n j) p) (settled_at ps ns n p) k i r R
    where
      taken : (b : Bool) (x c d : ChordLength) → (b ≡ true → c ≡ d) → taken_if b x c ≡ taken_if b x d
      taken true x c d e = ap (least x) (e refl)
      taken false x c d e = refl

-- the least of the first edges, and of the block after them
pub through : (ps ns : List Float) (n : ℕ) (p : Vec3) (from to : ℕ) → from ≤ to
    → least_of ps ns n p to ≡ iterate (λ j x. least x (far_edge ps ns n p j)) (to - from) from (least_of ps ns n p from)
through ps ns n p from to h =
    let begun : Iterate (λ j x. least x (far_edge ps ns n p j)) to 0 most (least_of ps ns n p to) = iterate_begin refl in
    (iterate_part begun {b = least_of ps ns n p from} {j = from} (rw sub-zero refl) (omega arith) h).rest

pub least_within_of : (ps ns : List Float) (n : ℕ) (p : Vec3) (k : ℕ) → Within (least_of ps ns n p k)
least_within_of ps ns n p k = fold_within (far_edge ps ns n p) (λ i. far_within (edge_at ps ns n i) p) k 0 most most_within

-- ---- what a pass over a block leaves
module _ {ps ns : List Float} {n from to : ℕ} {p : Vec3} {known : ChordLength} {list : List ℕ} {r : Settled} (w : Passed ps ns n from to p known list r) where
  pub passed_few : length (take r.count list) ≡ r.count
  passed_few = length-take-le r.count list (omega (arith, w.few, w.size))

  pub passed_below : from < to → to ≤ n → Below n (take r.count list)
  passed_below h l = subst (Below n) (sym w.listed) (listed_below (settled_at ps ns n p) (to - from) from n (omega arith))

  pub passed_least : Fine ps n p → from < to → to ≤ n → known ≡ least_of ps ns n p from → {x : ChordLength} → x ≡ listed_least ps ns n p (take r.count list) r.least → x ≡ least_of ps ns n p to
  passed_least fine h l e {x} q =
      let begun : Within known = subst Within (sym e) (least_within_of ps ns n p from) in
      q
      ∙ ap (λ (z : List ℕ). listed_least ps ns n p z r.least) w.listed
      ∙ ap (listed_least ps ns n p (opens (settled_at ps ns n p) (to - from) from)) w.least_is
      ∙ block ps ns n p fine (to - from) from known (omega arith) begun
      ∙ ap (iterate (λ j x. least x (far_edge ps ns n p j)) (to - from) from) e
      ∙ sym (through ps ns n p from to (omega arith))

-- none yet, and all of them
pub least_start : (ps ns : List Float) (n : ℕ) (p : Vec3) → most ≡ least_of ps ns n p 0
unfolding iterate
least_start ps ns n p = refl

pub least_end : (ps ns : List Float) (n : ℕ) (p : Vec3) {k : ℕ} → k ≡ n → least_of ps ns n p k ≡ far_ring ps ns n p
unfolding far_ring
least_end ps ns n p e = ap (least_of ps ns n p) e
