-- The theorem of demand 3: whatever list cuts the whole ring, corner by corner, meets it. Assumes nothing.
use Prim.Native.Nat.{ℕ, zero, suc, ◌+◌, ◌-◌, ◌*◌, ◌≤◌, ◌<◌}
use mathlib.Core.Path.{◌≡◌, refl, sym, ◌∙◌, subst₂}
use mathlib.Core.List.{List, ◌++◌}
use native.Mathlib.Nat.{mod-lt}
use native.Mathlib.Omega.{arith}
use lib.ListN.{length}
use Rattle.ring_theory.specs.Ring.{numbers, Below, prev, next, ear_of}
use Rattle.ring_theory.specs.Cuts.{Cuts, last, cut}
use Rattle.ring_theory.specs.Demand3.{runs, holders, LoopSide, Inner, Demand3}
use Rattle.ring_theory.proofs.Withouts.{length_without, below_without}
use Rattle.ring_theory.proofs.Rounds.{straight, over}
use Rattle.ring_theory.proofs.Steps.{Side, next_one, Kind, along, against, inner, none, On, Net, step}
use Rattle.ring_theory.proofs.Indexes.{Increasing, In, Follows, on, round, next_follows, follows_below, side_at_lem, increasing_without, cutting}
use Rattle.ring_theory.proofs.Numbers.{size, number, below, increasing}
use Rattle.ring_theory.proofs.Threes.{last_net}

pub net : {ids tris : List ℕ} → Cuts ids tris → Increasing ids → Net (In ids) tris
net (last {ids = ids} e) inc = last_net ids inc e
net (cut {ids = ids} i h k c) inc = step (cutting ids inc i h k) (net c (increasing_without ids inc i k))

pub counted : {ids tris : List ℕ} → Cuts ids tris → length tris ≡ 3 * (length ids - 2)
counted (last e) = omega arith
counted (cut {ids = ids} i h k c) = omega (arith, counted c, length_without i ids k)

pub bounded : {n : ℕ} {ids tris : List ℕ} → Cuts ids tris → Below n ids → Below n tris
bounded (last e) b = b
bounded {n} (cut {ids = ids} {rest = rest} i h k c) b = go (bounded c (below_without i ids k b))
  where
    go : Below n rest → Below n (ear_of ids i ++ rest)
    go r zero l = b (prev ids i) (mod-lt (i + length ids - 1) (omega arith))
    go r (suc zero) l = b i k
    go r (suc (suc zero)) l = b (next ids i) (mod-lt (i + 1) (omega arith))
    go r (suc (suc (suc j))) l = r j (omega arith)

module _ (n : ℕ) (three : 3 ≤ n) where
  -- the sides of the whole ring are the loop's
  from_loop : {u v : ℕ} → LoopSide n u v → Side (In (numbers n)) u v
  from_loop {u} {v} l =
      let f : Follows n u v = rw l.1 (next_follows n u l.0) in
      let b = follows_below f in
      subst₂ (Side (In (numbers n))) (number n u b.0) (number n v b.1) (side_at_lem (numbers n) (increasing n) u v (rw size (omega arith)) (rw size f))

  to_loop : {u v : ℕ} → Side (In (numbers n)) u v → LoopSide n u v
  to_loop {u} {v} s =
      let j = s.from.index in
      let h : j < n = omega (arith, s.from.inside, size n) in
      let e : j ≡ u = sym (number n j h) ∙ s.from.there in
      let k : u < n = rw (← e) h in
      (k, next_one s (from_loop (k, refl)))

  -- no side is the loop's both ways
  one_way : {u v : ℕ} → LoopSide n u v → LoopSide n v u → ⊥
  one_way {u} {v} l k = go (rw l.1 (next_follows n u l.0)) (rw k.1 (next_follows n v k.0))
    where
      go : Follows n u v → Follows n v u → ⊥
      go (on e f) (on g h) = omega arith
      go (on e f) (round g h) = omega arith
      go (round e f) (on g h) = omega arith
      go (round e f) (round g h) = omega arith

  module _ {tris : List ℕ} (c : Cuts (numbers n) tris) where
    whole : Net (In (numbers n)) tris
    whole = net c (increasing n)

    on_loop : {u v : ℕ} → LoopSide n u v → (holders u v tris ≡ 1) × (runs u v tris ≡ 1) × (runs v u tris ≡ 0)
    on_loop {u} {v} l = go (whole.kind u v)
      where
        go : Kind (In (numbers n)) tris u v → (holders u v tris ≡ 1) × (runs u v tris ≡ 1) × (runs v u tris ≡ 0)
        go (along s x y) = (omega (arith, whole.held u v), x, y)
        go (against s x y) = absurd (one_way l (to_loop s))
        go (inner s t p q x y) = absurd (s (from_loop l))
        go (none s t x y) = absurd (s (from_loop l))

    inside : {u v : ℕ} → Inner n tris u v → (holders u v tris ≡ 2) × (runs u v tris ≡ 1) × (runs v u tris ≡ 1)
    inside {u} {v} i = go (whole.kind u v)
      where
        go : Kind (In (numbers n)) tris u v → (holders u v tris ≡ 2) × (runs u v tris ≡ 1) × (runs v u tris ≡ 1)
        go (along s x y) = absurd (i.not_ahead (to_loop s))
        go (against s x y) = absurd (i.not_back (to_loop s))
        go (inner s t p q x y) = (omega (arith, whole.held u v), x, y)
        go (none s t x y) = absurd (omega (arith, whole.held u v, i.side))

    on_side : {u v : ℕ} → Inner n tris u v → On tris u v
    on_side {u} {v} i = omega (arith, whole.held u v, i.side)

    proved : Demand3 n tris
    proved = record {
      count = rw size at (counted c);
      within = bounded c (below n);
      loop_once = λ u v l. (on_loop l).0;
      loop_ahead = λ u v l. (on_loop l).1;
      loop_not_back = λ u v l. (on_loop l).2;
      inner_twice = λ u v i. (inside i).0;
      inner_ahead = λ u v i. (inside i).1;
      inner_back = λ u v i. (inside i).2;
      apart = λ u v w z i k h l m. whole.clear u v w z (on_side i) (on_side k) (record { there = straight h l; back = over (omega arith) m });
    }

pub demand_3 : (n : ℕ) → 3 ≤ n → {tris : List ℕ} → Cuts (numbers n) tris → Demand3 n tris
demand_3 n h c = proved n h c
