-- SCOPE 17: cutting a ring into triangles, each three ring numbers: previous, this, next, and of the last the ring left, from its first. Definitions only.
use Rattle.std.specs.Prelude.{ℕ, zero, suc, ◌-◌, ◌*◌, ◌≤◌, ◌≡◌, Bool, true, false, not, List, [], ◌++◌, length, drop, ltb, Float}
use Rattle.ring_theory.specs.Ring.{numbers, ear_of}
use Rattle.ring_ears.specs.Ears.{Remaining, cut_at}
use Rattle.ring_reflex.specs.Lowest.{lowest}

-- what the functions are lent: positions and classes of one ring of three to 512
pub record Ring (ps : List Float) (classes : List ℕ) : Type 0 where
  pub whole : length ps ≡ 3 * length classes
  pub least : 3 ≤ length classes
  pub most : length classes ≤ 512

-- with work arrays, as many of either as the ring has corners
pub record Work (ps : List Float) (classes ids work : List ℕ) : Type 0 where
  pub ring : Ring ps classes
  pub ids_size : length ids ≡ length classes
  pub work_size : length work ≡ length classes

-- the ring before any cut
abbrev pub whole_ring : List ℕ → Remaining
whole_ring classes = record { ids = numbers (length classes); classes = classes }

-- the triples that were cut, three ring numbers each, and whether a ring above three was met that has no ear
pub record Cutting : Type 0 where
  pub triangles : List ℕ
  pub stuck : Bool

abbrev pub ahead : List ℕ → Cutting → Cutting
ahead t c = record { triangles = t ++ c.triangles; stuck = c.stuck }

-- on from the index i, where that is one of the ring's
abbrev pub at_ear : Bool → ℕ → (ℕ → Cutting) → Cutting
at_ear true i on = on i
at_ear false i on = record { triangles = []; stuck = true }

abbrev pub lowest_of : List Float → Remaining → ℕ
lowest_of ps s = lowest ps s.ids s.classes

-- k cuts, each at the lowest eligible ear of the ring then left, and then the ring left, from its first
unfoldable pub cutting : List Float → ℕ → Remaining → Cutting
cutting ps zero s = record { triangles = s.ids; stuck = false }
cutting ps (suc k) s = at_ear (ltb (lowest_of ps s) (length s.ids)) (lowest_of ps s) (λ i. ahead (ear_of s.ids i) (cutting ps k (cut_at ps s i)))

-- of what is left of a ring: three are left after m - 3 cuts
abbrev pub cutting_from : List Float → Remaining → Cutting
cutting_from ps s = cutting ps (length s.ids - 3) s

abbrev pub cutting_of : List Float → List ℕ → Cutting
cutting_of ps classes = cutting_from ps (whole_ring classes)

-- a function's answer, whether all is cut, with what its output holds at exit
pub record Outcome : Type 0 where
  pub answer : Bool
  pub out : List ℕ

-- the triples ahead of what lies past them, those before no ear was found too
abbrev pub laid : Cutting → List ℕ → Outcome
laid c out = record { answer = not c.stuck; out = c.triangles ++ drop (length c.triangles) out }

-- the same, but that nothing is written where a ring has no ear
abbrev pub outcome_if : Bool → List ℕ → List ℕ → Outcome
outcome_if true t out = record { answer = false; out = out }
outcome_if false t out = record { answer = true; out = t ++ drop (length t) out }

unfoldable pub cut_ring_outcome : List Float → List ℕ → List ℕ → Outcome
cut_ring_outcome ps classes out = outcome_if (cutting_of ps classes).stuck (cutting_of ps classes).triangles out
