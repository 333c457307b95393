-- SCOPE 21, 55: where a place lies, as a number: 0 outside, 1 inside, 2 mute. Definitions only.
use Rattle.std.specs.Prelude.{ℕ, Bool, true, false, List, Option, None, Some, eqb, ltb, Float, if◌then◌else◌}
use Rattle.vec3.specs.declared.Vec3.{Vec3}
use Rattle.vec3.specs.Vec.{cleared}
use Rattle.cap.specs.declared.Cap.{Cap}
use Rattle.loop_header.specs.declared.State.{State}
use Rattle.loop_header.specs.declared.State.TheVariants.{Empty, Full, Ring}
use Rattle.loop_header.specs.declared.Header.{Header}
use Rattle.ring_place.specs.Places.{inside_by, in_triangle}

-- SCOPE 3: free of -0.0
abbrev pub cleared_cap : Cap → Cap
cleared_cap c = record { centre = cleared c.centre; radius = c.radius }

abbrev pub inside_code : Bool → ℕ
inside_code false = 0
inside_code true = 1

-- no corner: everywhere in the full loop, nowhere in the empty one
abbrev pub place_no_corner : State → ℕ
place_no_corner Empty = 0
place_no_corner Full = 1
place_no_corner Ring = 0

-- SCOPE 21: three corners by their sides; a ring above three without insides is mute
unfoldable pub place_without : Header → List Float → List Float → Vec3 → ℕ
place_without h ps ns p =
    if eqb h.count 3 then inside_code (in_triangle ps ns p) else
    (if ltb 3 h.count then 2 else place_no_corner h.state)

-- SCOPE 55: by the loop's mode
abbrev pub inside_with : Header → Vec3 → Vec3 → List Float → List Float → Vec3 → Bool
inside_with h a b ps ns p = inside_by h.mode (cleared_cap h.cap) (cleared a) (cleared b) ps ns h.count p

abbrev pub place_by : Option (Vec3 × Vec3) → Header → List Float → List Float → Vec3 → ℕ
place_by None h ps ns p = place_without h ps ns p
place_by (Some (a, b)) h ps ns p = inside_code (inside_with h a b ps ns p)

abbrev pub place_of : Header → List Float → List Float → Vec3 → ℕ
place_of h ps ns p = place_by h.insides h ps ns p
