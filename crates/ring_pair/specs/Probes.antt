-- SCOPE 24: a point of a ring, the probe, that is on no edge of another, the reference: a corner, or else the midpoint of an edge. Definitions only.
use Rattle.std.specs.Prelude.{ℕ, ◌+◌, ◌%◌, Bool, false, not, List, Option, None, Some, ltb, Float, if◌then◌else◌}
use Rattle.laws.specs.Loop.{any_of, first_at}
use Rattle.vec3.specs.declared.Vec3.{Vec3}
use Rattle.vec3.specs.Vec.{pos_at}
use Rattle.vec3.specs.Points.{midpoint}
use Rattle.ring_edges.specs.Edges.{on_edge}
use Rattle.ring_pair.specs.declared.Probe.{Probe}
use Rattle.ring_pair.specs.declared.Probe.TheVariants.{Nowhere, Corner, Middle}

-- corner i of the probe is on no edge of the reference, rs and rn of m corners
unfoldable pub free_corner : List Float → List Float → List Float → ℕ → ℕ → Bool
free_corner ps rs rn m i = not (on_edge rs rn m (pos_at ps i))

-- the midpoint of the probe's edge i (SCOPE 3)
unfoldable pub middle_at : List Float → ℕ → ℕ → Option Vec3
middle_at ps n i = midpoint (pos_at ps i) (pos_at ps ((i + 1) % n))

-- an edge without a midpoint is passed over
abbrev pub free_point : List Float → List Float → ℕ → Option Vec3 → Bool
free_point rs rn m None = false
free_point rs rn m (Some p) = not (on_edge rs rn m p)

abbrev pub free_middle : List Float → ℕ → List Float → List Float → ℕ → ℕ → Bool
free_middle ps n rs rn m i = free_point rs rn m (middle_at ps n i)

-- the first free corner, and the first edge with a free midpoint; n where there is none
unfoldable pub first_corner : List Float → ℕ → List Float → List Float → ℕ → ℕ
first_corner ps n rs rn m = first_at (free_corner ps rs rn m) n 0

unfoldable pub first_middle : List Float → ℕ → List Float → List Float → ℕ → ℕ
first_middle ps n rs rn m = first_at (free_middle ps n rs rn m) n 0

-- SCOPE 10: whether a midpoint is asked for, as no corner is free; the pair is then outside the domain
unfoldable pub asked_midpoint : List Float → ℕ → List Float → List Float → ℕ → Bool
asked_midpoint ps n rs rn m = not (any_of (free_corner ps rs rn m) n 0)

abbrev pub as_middle : Option Vec3 → Probe
as_middle None = Nowhere
as_middle (Some p) = Middle p

-- the midpoint of the first edge that has a free one
unfoldable pub middle_probe : List Float → ℕ → List Float → List Float → ℕ → Probe
middle_probe ps n rs rn m =
    let i = first_middle ps n rs rn m in
    if ltb i n then as_middle (middle_at ps n i) else Nowhere

unfoldable pub unambiguous_point : List Float → ℕ → List Float → List Float → ℕ → Probe
unambiguous_point ps n rs rn m =
    if asked_midpoint ps n rs rn m then middle_probe ps n rs rn m else Corner (pos_at ps (first_corner ps n rs rn m))
