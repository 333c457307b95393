-- What a ring is made of, from the n positions of an opened list and its edges (ring_turns/specs/Turns). Definitions only.
use Rattle.std.specs.Prelude.{ℕ, zero, suc, ◌+◌, ◌-◌, ◌*◌, ◌%◌, Bool, true, false, not, cond, List, [], ◌∷◌, length, get_or, eqb, Float, if◌then◌else◌}
use Rattle.std.specs.Float.Ieee.{lt}
use Rattle.numbers.specs.F64 as F
use Rattle.numbers.specs.Near.{near}
use Rattle.laws.specs.Loop.{flat, any_of}
use Rattle.vec3.specs.declared.Vec3.{Vec3}
use Rattle.vec3.specs.Vec.{same, dot, opposite, pos_at, coords}
use Rattle.angle.specs.Angles.{clockwise}
use Rattle.ring_turns.specs.Turns.{edge_normal, turn_sum}

-- SCOPE 11: a closing position goes, and no more
abbrev pub closed : List Float → ℕ → Bool
closed l m = same (pos_at l 0) (pos_at l (m - 1))

abbrev pub opened_if : List Float → ℕ → ℕ
opened_if l zero = 0
opened_if l (suc k) = cond (closed l (suc k)) k (suc k)

unfoldable pub opened : List Float → ℕ → ℕ
opened l m = opened_if l m

-- SCOPE 12: a turn sum below 0 keeps the list; otherwise it is reversed, and each normal is negated, not worked out again
unfoldable pub reversal : List Float → ℕ → Bool
reversal l n = not (clockwise (turn_sum l n))

abbrev pub corner_source : ℕ → Bool → ℕ → ℕ
corner_source n reversed k = cond reversed (n - 1 - k) k

abbrev pub corner_at : List Float → ℕ → Bool → ℕ → Vec3
corner_at l n reversed k = pos_at l (corner_source n reversed k)

-- corner k of the reversed list is position n - 1 - k, so the edge from there is that of position n - 2 - k, counted round, walked the other way
unfoldable pub normal_at : List Float → ℕ → Bool → ℕ → Vec3
normal_at l n true k = opposite (edge_normal l n ((2 * n - 2 - k) % n))
normal_at l n false k = edge_normal l n k

-- SCOPE 13: by the side of the corner before against the edge to the next: right is convex (0), left is reflex (1), collinear is both (2)
unfoldable pub class_by : Float → ℕ
class_by p = if near p F.zero then 2 else (if lt p F.zero then 0 else 1)

unfoldable pub class_at : List Float → ℕ → Bool → ℕ → ℕ
class_at l n reversed k = class_by (dot (corner_at l n reversed ((k + n - 1) % n)) (normal_at l n reversed k))

-- the ring: its corners, normals and classes
abbrev pub ring_of : List Float → ℕ → Bool → List Float
ring_of l n reversed = flat (λ k. coords (corner_at l n reversed k)) n 0

abbrev pub normals_of : List Float → ℕ → Bool → List Float
normals_of l n reversed = flat (λ k. coords (normal_at l n reversed k)) n 0

abbrev pub classes_of : List Float → ℕ → Bool → List ℕ
classes_of l n reversed = flat (λ k. class_at l n reversed k ∷ []) n 0

-- SCOPE 13: if all are both, the loop is FULL
abbrev pub other_than_both : List ℕ → ℕ → Bool
other_than_both classes k = not (eqb (get_or classes k 0) 2)

unfoldable pub all_both : List ℕ → Bool
all_both classes = not (any_of (other_than_both classes) (length classes) 0)
