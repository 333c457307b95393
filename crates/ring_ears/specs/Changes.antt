-- Whether a cut changes which corners are convex. Definitions only.
use Rattle.std.specs.Prelude.{ℕ, Bool, true, false, not, ◌||◌, cond, List, length, eqb, ltb, Float}
use Rattle.ring_ears.specs.Ears.{convex, triangle_at, class_of, turn_of, reclassify, at_cut, before_cut}

-- one of two holds, and the other does not
abbrev pub differ : Bool → Bool → Bool
differ true b = not b
differ false b = b

-- classing the corner at index i afresh changes whether it is convex
unfoldable pub changed : List Float → List ℕ → ℕ → List ℕ → Bool
changed ps ids i classes = differ (convex ids classes i) (eqb (class_of (turn_of (triangle_at ps ids i))) 0)

-- so does classing the two neighbours of a cut at index i that left `ids`
unfoldable pub one_changed : List Float → List ℕ → ℕ → List ℕ → Bool
one_changed ps ids i classes =
    let m = length ids in
    cond (ltb 3 m) (changed ps ids (at_cut m i) classes || changed ps ids (before_cut m i) (reclassify ps ids (at_cut m i) classes)) false
