-- The edges listed: what the work arrays hold of them, and that the least over a block is that of its settled edges and then of the listed ones. Assumes nothing.
use Prim.Native.Nat.{ℕ, zero, suc, ◌+◌, ◌*◌, ◌≤◌, ◌<◌}
use mathlib.Core.Path.{◌≡◌, refl, ap, ◌∙◌}
use mathlib.Core.Bool.{Bool, true, false}
use mathlib.Core.List.{List}
use native.Mathlib.Nat.{zero-add}
use native.Mathlib.Omega.{arith}
use lib.Ieee.{Float}
use lib.ListN.{length, get_or}
use Rattle.laws.specs.Loop.{iterate, flat}
use Rattle.laws.proofs.Parts.{flat_same}
use Rattle.vec3.specs.declared.Vec3.{Vec3}
use Rattle.vec3.specs.Vec.{unit_vec, stable_unit, pos_at, raw_at, coords}
use Rattle.vec3.proofs.Arrays.{raw_written}
use Rattle.chord_length.specs.declared.ChordLength.{ChordLength}
use Rattle.chord_length.specs.Chords.{least}
use Rattle.ring_edges.specs.Blocks.{unit_at, units}
use Rattle.ring_edges.specs.Edges.{edge_at}
use Rattle.loop_distances.specs.Blocks.{listed_if, opens, Indexed, Below, across_product, across_products, foot_product, foot_products, far_with, each_least, listed_far, listed_least}

-- the unit vectors of vectors that were written
unit_of_lem : (f : ℕ → Vec3) (k j : ℕ) → j < k → unit_at (flat (λ i. coords (f i)) k 0) j ≡ unit_vec (f j).x (f j).y (f j).z
unfolding unit_at
unit_of_lem f k j h = ap (λ (v : Vec3). unit_vec v.x v.y v.z) (raw_written f k j h)

units_of : (f : ℕ → Vec3) (k : ℕ) → units (flat (λ i. coords (f i)) k 0) k ≡ flat (λ i. coords (unit_vec (f i).x (f i).y (f i).z)) k 0
units_of f k =
    flat_same (λ j. coords (unit_at (flat (λ i. coords (f i)) k 0) j)) (λ j. coords (unit_vec (f j).x (f j).y (f j).z)) k 0
    (λ j h. rw (zero-add) (ap coords (unit_of_lem f k j h)))

-- two iterations that are the same step by step
pub iterate_same : {A : Type 0} (f g : ℕ → A → A) (k i : ℕ) (a : A) → ((j : ℕ) → i ≤ j → j < i + k → (x : A) → f j x ≡ g j x) → iterate f k i a ≡ iterate g k i a
unfolding iterate
iterate_same f g zero i a e = refl
iterate_same f g (suc k) i a e =
    ap (iterate f k (suc i)) (e i (omega arith) (omega arith) a) ∙ iterate_same f g k (suc i) (g i a) (λ j h l x. e j (omega arith) (omega arith) x)

module _ (ps ns : List Float) (n : ℕ) (p : Vec3) (list : List ℕ) where
  abbrev across_at : ℕ → Vec3
  across_at j = stable_unit p (pos_at ns (get_or list j 0))

  abbrev unit_foot : ℕ → Vec3
  unit_foot j = stable_unit (pos_at ns (get_or list j 0)) (across_at j)

  -- what the two arrays of unit vectors hold
  across_is : {across : List Float} → across ≡ units (across_products p ns list) (length list) → across ≡ flat (λ j. coords (across_at j)) (length list) 0
  across_is e = e ∙ units_of (across_product p ns list) (length list)

  module _ {across units' : List Float} (e : across ≡ units (across_products p ns list) (length list)) (g : units' ≡ units (foot_products ns list across) (length list)) where
    foot_same : (j : ℕ) → j < length list → coords (unit_vec (foot_product ns list across j).x (foot_product ns list across j).y (foot_product ns list across j).z) ≡ coords (unit_foot j)
    foot_same j h =
        let raw : raw_at across j ≡ across_at j = ap (λ (l : List Float). raw_at l j) (across_is e) ∙ raw_written across_at (length list) j h in
        ap (λ (v : Vec3). coords (stable_unit (pos_at ns (get_or list j 0)) v)) raw

    feet_are : units' ≡ flat (λ j. coords (unit_foot j)) (length list) 0
    feet_are =
        g ∙ units_of (foot_product ns list across) (length list)
        ∙ flat_same (λ j. coords (unit_vec (foot_product ns list across j).x (foot_product ns list across j).y (foot_product ns list across j).z)) (λ j. coords (unit_foot j)) (length list) 0
        (λ j h. rw (zero-add) (foot_same j h))

    -- so the least with these is the least with the edges listed
    each_is : (before : ChordLength) → each_least ps ns n p list across units' before ≡ listed_least ps ns n p list before
    unfolding edge_at
    each_is before =
        iterate_same (λ j r. least r (far_with (edge_at ps ns n (get_or list j 0)) p (raw_at across j) (raw_at units' j))) (λ j r. least r (listed_far ps ns n p list j)) (length list) 0 before
        (λ j h l r.
        let k : j < length list = omega arith in
        let one : raw_at across j ≡ across_at j = ap (λ (l : List Float). raw_at l j) (across_is e) ∙ raw_written across_at (length list) j k in
        let two : raw_at units' j ≡ unit_foot j = ap (λ (l : List Float). raw_at l j) feet_are ∙ raw_written unit_foot (length list) j k in
        rw (one, two))

  -- the same, as the arrays were written one after the other
  pub each_by : {work across work' units' : List Float} → work ≡ across_products p ns list → across ≡ units work (length list) → work' ≡ foot_products ns list across
      → units' ≡ units work' (length list) → (before : ChordLength) → each_least ps ns n p list across units' before ≡ listed_least ps ns n p list before
  each_by w e w' g before = each_is (e ∙ ap (λ (l : List Float). units l (length list)) w) (g ∙ ap (λ (l : List Float). units l (length list)) w') before

-- ---- the lists themselves
pub indexed : (ns : List Float) (n : ℕ) (list : List ℕ) → Below n list → 3 * n ≤ length ns → Indexed ns list
indexed ns n list b l j h = omega (arith, b j h)

-- each entry is one of the k edges from i on, and is open
pub record Entry (s : ℕ → Bool) (k i e : ℕ) : Type 0 where
  pub from_first : i ≤ e
  pub to_last : e < i + k
  pub is_open : s e ≡ false

later : {s : ℕ → Bool} {k i e : ℕ} → Entry s k (suc i) e → Entry s (suc k) i e
later x = record { from_first = omega (arith, x.from_first); to_last = omega (arith, x.to_last); is_open = x.is_open }

pub entries : (s : ℕ → Bool) (k i j : ℕ) → j < length (opens s k i) → Entry s k i (get_or (opens s k i) j 0)
unfolding opens
entries s zero i j h = absurd (omega arith)
entries s (suc k) i j h = go (s i) refl j h (entries s k (suc i))
  where
    go : (b : Bool) → s i ≡ b → (j : ℕ) → j < length (listed_if b i (opens s k (suc i))) → ((j : ℕ) → j < length (opens s k (suc i)) → Entry s k (suc i) (get_or (opens s k (suc i)) j 0))
        → Entry s (suc k) i (get_or (listed_if b i (opens s k (suc i))) j 0)
    go true e j h r = later (r j h)
    go false e zero h r = record { from_first = omega arith; to_last = omega arith; is_open = e }
    go false e (suc j) h r = later (r j (omega arith))

-- so those of a block are all below the count, and few
pub listed_below : (s : ℕ → Bool) (k i n : ℕ) → i + k ≤ n → Below n (opens s k i)
listed_below s k i n h j l = let e = entries s k i j l in omega (arith, e.to_last)
