-- A loop's header (SCOPE 15, 54), and what a loop that is handed back is refused for: the number, 0 for none (SCOPE 25, 26). Definitions only.
use Rattle.std.specs.Prelude.{ℕ, ◌*◌, ◌%◌, Bool, true, false, ◌&&◌, cond, List, Option, None, Some, length, get_or, ltb, leb, eqb, Float}
use Rattle.numbers.specs.Finite.{finite}
use Rattle.laws.specs.Loop.{first, first_of}
use Rattle.vec3.specs.declared.Vec3.{Vec3}
use Rattle.cap.specs.declared.Cap.{Cap}
use Rattle.cap.specs.Caps.{empty_one, full_one}
use Rattle.minor_arc.specs.declared.Mode.{Mode}
use Rattle.judge.specs.Judge.{finite_vec, vector_fault, positions_fault}
use Rattle.judge.specs.Judge as J
use Rattle.loop_header.specs.declared.State.{State}
use Rattle.loop_header.specs.declared.State.TheVariants.{Empty, Full, Ring}
use Rattle.loop_header.specs.declared.Header.{Header}

-- SCOPE 15: the number of each state
abbrev pub state_code : State → ℕ
state_code Empty = 0
state_code Full = 1
state_code Ring = 2

-- SCOPE 15: EMPTY is kept and steady, FULL is kept; SCOPE 54: each has the mode that it was built in
abbrev pub bare_header : Mode → State → Cap → Bool → Header
bare_header mode state cap weak = record { count = 0; state = state; cap = cap; insides = None; reversed = false; weak = weak; mode = mode }

abbrev pub empty_header : Mode → Header
empty_header mode = bare_header mode Empty empty_one false

abbrev pub full_header : Mode → Bool → Header
full_header mode weak = bare_header mode Full full_one weak

-- SCOPE 15: mute is a loop of more than three corners without insides
abbrev pub is_absent : Option (Vec3 × Vec3) → Bool
is_absent None = true
is_absent (Some (a, b)) = false

abbrev pub mute : Header → Bool
mute h = ltb 3 h.count && is_absent h.insides

-- SCOPE 25: 1 for a count that does not fit its state
abbrev pub count_fits : State → ℕ → Bool
count_fits Empty count = eqb count 0
count_fits Full count = eqb count 0
count_fits Ring count = leb 3 count

-- SCOPE 25: 1 for a slice that does not agree with the count, three floats or one code for each corner
unfoldable pub threes_of : ℕ → ℕ → Bool
threes_of size count = eqb size (3 * count)

unfoldable pub shape_fault : Header → List Float → List ℕ → ℕ
shape_fault h ps cs = cond ((count_fits h.state h.count && threes_of (length ps) h.count) && eqb (length cs) h.count) 0 1

-- SCOPE 25: 6 for a class code above 2
abbrev pub class_fault : List ℕ → ℕ → ℕ
class_fault cs i = cond (ltb 2 (get_or cs i 0)) 6 0

unfoldable pub classes_fault : List ℕ → ℕ
classes_fault cs = first_of (class_fault cs) (length cs) 0

-- SCOPE 25: 2 for a ring count above 512; then 6, then 3 and 4 position by position
unfoldable pub ring_fault : Header → List Float → List ℕ → ℕ
ring_fault h ps cs = first (cond (ltb 512 h.count) 2 0) (first (classes_fault cs) (positions_fault ps h.count))

-- SCOPE 25: 3, of the cap and the insides
unfoldable pub cap_fault : Cap → ℕ
cap_fault c = cond (finite_vec c.centre && finite c.radius.0) 0 3

abbrev pub insides_fault : Option (Vec3 × Vec3) → ℕ
insides_fault None = 0
insides_fault (Some (a, b)) = first (vector_fault a 0) (vector_fault b 0)

-- SCOPE 26: 3, of normals, cap and insides, after all positions
unfoldable pub vectors_fault : Header → List Float → ℕ
vectors_fault h ns = first (J.vectors_fault ns h.count) (first (cap_fault h.cap) (insides_fault h.insides))

-- SCOPE 27: cutting and the checker judge no normal, cap or inside
unfoldable pub cut_fault : Header → List Float → List ℕ → ℕ
cut_fault h ps cs = first (shape_fault h ps cs) (ring_fault h ps cs)

-- SCOPE 25: 9 where the checker is given an empty or full loop
abbrev pub ring_only : State → ℕ
ring_only Empty = 9
ring_only Full = 9
ring_only Ring = 0

-- SCOPE 25: the checker, 1 also for a triangle slice that is not in threes
unfoldable pub check_fault : Header → List Float → List ℕ → ℕ → ℕ
check_fault h ps cs size =
    first (shape_fault h ps cs)
    (first (cond (eqb (size % 3) 0) 0 1)
    (first (ring_fault h ps cs) (ring_only h.state)))

-- a whole loop
unfoldable pub loop_fault : Header → List Float → List Float → List ℕ → ℕ
loop_fault h ps ns cs =
    first (shape_fault h ps cs)
    (first (cond (threes_of (length ns) h.count) 0 1)
    (first (ring_fault h ps cs) (vectors_fault h ns)))
