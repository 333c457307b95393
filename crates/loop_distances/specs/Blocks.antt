-- The faster form over a block of edges: those that are settled are taken in ahead of any root, and the others are listed. Definitions only.
use Rattle.std.specs.Prelude.{ℕ, zero, suc, ◌+◌, ◌-◌, ◌*◌, ◌≤◌, ◌<◌, ◌≡◌, Bool, true, false, ◌||◌, List, [], ◌∷◌, Float, length, get_or, take, if◌then◌else◌}
use Rattle.std.specs.Float.Ieee.{le}
use Rattle.numbers.specs.F64.{◌⊕◌, ◌⊖◌, epsilon}
use Rattle.laws.specs.Loop.{iterate, flat}
use Rattle.vec3.specs.declared.Vec3.{Vec3}
use Rattle.vec3.specs.Vec.{origin, same, stable_cross, stable_unit, orthogonal, pos_at, raw_at, coords}
use Rattle.chord_length.specs.declared.ChordLength.{ChordLength}
use Rattle.chord_length.specs.Chords.{most, least}
use Rattle.chord_length.specs.Chords as Chords
use Rattle.minor_arc.specs.declared.MinorArc.{MinorArc}
use Rattle.judge.specs.Judge.{fault_of, position_fault}
use Rattle.sure_sides.specs.Sure.{surely}
use Rattle.ring_edges.specs.Edges.{edge_at}
use Rattle.loop_distances.specs.declared.Settled.{Settled}
use Rattle.loop_distances.specs.Distances.{nearer_end, by_foot, far_edge}

-- ---- which edges are settled: their distance is the nearer end's, and no root is needed to know it
abbrev pub settled_by : MinorArc → Vec3 → ChordLength → ChordLength → Bool
settled_by a p start end = surely a p || le ((Chords.chord a.start a.end).0 ⊕ epsilon) (start.0 ⊖ end.0)

abbrev pub settled : MinorArc → Vec3 → Bool
settled a p = settled_by a p (Chords.chord p a.start) (Chords.chord p a.end)

abbrev pub settled_at : List Float → List Float → ℕ → Vec3 → ℕ → Bool
settled_at ps ns n p i = settled (edge_at ps ns n i) p

-- a settled one is taken in, and an open one is listed
abbrev pub taken_if : Bool → ChordLength → ChordLength → ChordLength
taken_if true r c = least r c
taken_if false r c = r

abbrev pub counted_if : Bool → ℕ → ℕ
counted_if true k = k
counted_if false k = k + 1

abbrev pub listed_if : Bool → ℕ → List ℕ → List ℕ
listed_if true i l = l
listed_if false i l = i ∷ l

-- the open ones of k edges from i on
unfoldable pub opens : (ℕ → Bool) → ℕ → ℕ → List ℕ
opens s zero i = []
opens s (suc k) i = listed_if (s i) i (opens s k (suc i))

abbrev pub settling : List Float → List Float → ℕ → Vec3 → ℕ → ChordLength → ChordLength
settling ps ns n p i r = taken_if (settled_at ps ns n p i) r (nearer_end (edge_at ps ns n i) p)

-- what a pass over the edges from `from` up to `to` leaves: the least with those that are settled, and the others at the front of a list
pub record Passed (ps ns : List Float) (n from to : ℕ) (p : Vec3) (before : ChordLength) (list : List ℕ) (r : Settled) : Type 0 where
  pub least_is : r.least ≡ iterate (settling ps ns n p) (to - from) from before
  pub listed : take r.count list ≡ opens (settled_at ps ns n p) (to - from) from
  pub few : r.count ≤ to - from
  pub size : to - from ≤ length list

-- ---- the edges listed
-- each has its normal, and is one of n
abbrev pub Indexed : List Float → List ℕ → Type 0
Indexed ns list = (j : ℕ) → j < length list → 3 * get_or list j 0 + 2 < length ns

abbrev pub Below : ℕ → List ℕ → Type 0
Below n list = (j : ℕ) → j < length list → get_or list j 0 < n

-- no corner and no query that the judge refuses
pub record Fine (ps : List Float) (n : ℕ) (p : Vec3) : Type 0 where
  pub corners : (i : ℕ) → i < n → position_fault ps i ≡ 0
  pub query : fault_of p ≡ 0

pub record Lent (list work across units : ℕ) : Type 0 where
  pub for_work : work ≡ 3 * list
  pub for_across : across ≡ 3 * list
  pub for_units : units ≡ 3 * list

-- their products and unit vectors, as the work arrays hold them
abbrev pub across_product : Vec3 → List Float → List ℕ → ℕ → Vec3
across_product p ns list j = stable_cross p (pos_at ns (get_or list j 0))

abbrev pub across_products : Vec3 → List Float → List ℕ → List Float
across_products p ns list = flat (λ j. coords (across_product p ns list j)) (length list) 0

abbrev pub foot_product : List Float → List ℕ → List Float → ℕ → Vec3
foot_product ns list across j = stable_cross (pos_at ns (get_or list j 0)) (raw_at across j)

abbrev pub foot_products : List Float → List ℕ → List Float → List Float
foot_products ns list across = flat (λ j. coords (foot_product ns list across j)) (length list) 0

-- the distance by these: of an edge that is not settled
unfoldable pub foot_by : Vec3 → Vec3 → Vec3
foot_by normal unit = if same unit origin then orthogonal normal else unit

unfoldable pub far_with : MinorArc → Vec3 → Vec3 → Vec3 → ChordLength
far_with a p across unit = if same across origin then Chords.chord p a.start else by_foot a p (foot_by a.normal unit)

abbrev pub each_least : List Float → List Float → ℕ → Vec3 → List ℕ → List Float → List Float → ChordLength → ChordLength
each_least ps ns n p list across units before =
    iterate (λ j r. least r (far_with (edge_at ps ns n (get_or list j 0)) p (raw_at across j) (raw_at units j))) (length list) 0 before

-- the least with the edges listed
abbrev pub listed_far : List Float → List Float → ℕ → Vec3 → List ℕ → ℕ → ChordLength
listed_far ps ns n p list j =
    let a = edge_at ps ns n (get_or list j 0) in
    let across = stable_unit p a.normal in
    far_with a p across (stable_unit a.normal across)

abbrev pub listed_least : List Float → List Float → ℕ → Vec3 → List ℕ → ChordLength → ChordLength
listed_least ps ns n p list before = iterate (λ j r. least r (listed_far ps ns n p list j)) (length list) 0 before

-- the least of the first k edges
abbrev pub least_of : List Float → List Float → ℕ → Vec3 → ℕ → ChordLength
least_of ps ns n p k = iterate (λ i r. least r (far_edge ps ns n p i)) k 0 most
