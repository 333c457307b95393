-- SCOPE 41: how the source finds the neighbours of a cut, `re_classify` of sloop.rs branch by branch with its own indexes, and that this is the rule of `Ears`.
-- Proved in proofs/Branches.antt: one_rule, and read by nothing else. Definitions only.
use Rattle.std.specs.Prelude.{ℕ, ◌+◌, ◌-◌, ◌≤◌, ◌<◌, ◌≡◌, ◌||◌, cond, List, length, get_or, set, eqb, Float}
use Rattle.ring_theory.specs.Cuts.{RingLeft}
use Rattle.base.specs.Sides.{side_of}
use Rattle.ring_ears.specs.Ears.{corner, class_of, reclassify, at_cut, before_cut, reclassify_both}

-- `classify(&mut vertices[this], Sphere::side(v_prev, v_cur, v_next))`, the three vertices by their indexes in the ring left
abbrev pub classify : List Float → List ℕ → ℕ → ℕ → ℕ → List ℕ → List ℕ
classify ps ids previous this next classes = set classes (get_or ids this 0) (class_of (side_of (corner ps ids previous) (corner ps ids this) (corner ps ids next)))

-- `ear_index == 0 || ear_index == len`: index 0, and then the last
abbrev pub at_ends : List Float → List ℕ → ℕ → List ℕ → List ℕ
at_ends ps ids last classes = classify ps ids (last - 1) last 0 (classify ps ids last 0 1 classes)

-- else: `ear_index`, whose next is 0 where it is the last, and then the one before it, whose previous is the last where `ear_index` is 1
abbrev pub elsewhere : List Float → List ℕ → ℕ → ℕ → List ℕ → List ℕ
elsewhere ps ids last i classes = classify ps ids (cond (eqb i 1) last (i - 2)) (i - 1) i (classify ps ids (i - 1) i (cond (eqb i last) 0 (i + 1)) classes)

unfoldable pub by_branches : List Float → List ℕ → ℕ → List ℕ → List ℕ
by_branches ps ids i classes =
    let last = length ids - 1 in
    cond (eqb i 0 || eqb i (length ids)) (at_ends ps ids last classes) (elsewhere ps ids last i classes)

pub record OneRule : Type 0 where
  -- the classes by the branches are those by the rule: of every list, where more than three are left, for every index from 0 to m
  pub same_classes : (ps : List Float) (ids classes : List ℕ) (i : ℕ) → 3 < length ids → i ≤ length ids → by_branches ps ids i classes ≡ reclassify_both ps ids i classes
  -- which of two is classed first does not matter where their ring numbers differ: each writes its own class, and reads positions alone
  pub either_first : (ps : List Float) (ids classes : List ℕ) (j k : ℕ) → (get_or ids j 0 ≡ get_or ids k 0 → ⊥)
      → reclassify ps ids j (reclassify ps ids k classes) ≡ reclassify ps ids k (reclassify ps ids j classes)
  -- and those of a cut's neighbours differ in every ring left
  pub numbers_differ : (n : ℕ) (ids : List ℕ) (i : ℕ) → RingLeft n ids → 3 < length ids → get_or ids (before_cut (length ids) i) 0 ≡ get_or ids (at_cut (length ids) i) 0 → ⊥
