-- Demand 3 (SCOPE 20) of the lists that the checker accepts and of our cutting. Proved in proofs/Theorems.antt. Definitions only.
use Rattle.std.specs.Prelude.{ℕ, ◌<◌, ◌≡◌, true, false, List, Float, length}
use Rattle.ring_theory.specs.Demand3.{Demand3}
use Rattle.ring_ears.specs.Ears.{ear, Remaining, cut_at}
use Rattle.ring_cut.specs.Cut.{whole_ring, cutting_of}
use Rattle.ring_cut.specs.Accepted.{CutBy, Eligible, Lowest}
use Rattle.ring_check.specs.Accepted.{accepted}

-- the rings that are got from s by cutting the lowest eligible ear each time
pub data Reaches (ps : List Float) : Remaining → Remaining → Type 0 where
  here : {s : Remaining} → Reaches ps s s
  cut : {s u : Remaining} (i : ℕ) → 3 < length s.ids → i < length s.ids → Lowest ps s i → Reaches ps (cut_at ps s i) u → Reaches ps s u

-- one of them is above three and has no eligible ear
pub record MeetsNoEar (ps : List Float) (s : Remaining) : Type 0 where
  pub ring : Remaining
  pub reached : Reaches ps s ring
  pub above : 3 < length ring.ids
  pub none : (i : ℕ) → i < length ring.ids → ear ps ring.ids ring.classes i ≡ false

-- of a ring with the positions ps and the classes given: proved for every number of corners from three on, so from 3 to 512
pub record Demand (ps : List Float) (classes : List ℕ) : Type 0 where
  -- the checker accepts the lists whose triples are, but for the last, eligible ears of the ring then left, and whose last is that ring's three, and no others
  pub only_ears : (tris : List ℕ) → accepted ps classes tris ≡ true → CutBy ps (Eligible ps) (whole_ring classes) tris
  pub all_ears : (tris : List ℕ) → CutBy ps (Eligible ps) (whole_ring classes) tris → accepted ps classes tris ≡ true
  -- in any list that it accepts: n - 2 triples, each side of the loop in one, every other side in two, run opposite ways, and no two inner sides cross
  pub sides : (tris : List ℕ) → accepted ps classes tris ≡ true → Demand3 (length classes) tris
  -- our cutting takes the lowest ear each time
  pub lowest : (cutting_of ps classes).stuck ≡ false → CutBy ps (Lowest ps) (whole_ring classes) (cutting_of ps classes).triangles
  -- it is stuck exactly if it reaches a ring above three that has no eligible ear
  pub stuck_meets : (cutting_of ps classes).stuck ≡ true → MeetsNoEar ps (whole_ring classes)
  pub meets_stuck : MeetsNoEar ps (whole_ring classes) → (cutting_of ps classes).stuck ≡ true
  -- and otherwise the checker accepts its list
  pub own_list : (cutting_of ps classes).stuck ≡ false → accepted ps classes (cutting_of ps classes).triangles ≡ true
