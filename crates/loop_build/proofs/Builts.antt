-- What a built ring is: its count, state and slices agree, its class codes are at most 2 and its positions are fine, so that handed back it is not refused
-- by cutting or the checker. Of lists of doubles, as every lent slice is. Assumes nothing.
use Prim.Native.Nat.{ℕ, ◌+◌, ◌*◌, ◌/◌, ◌≤◌, ◌<◌}
use mathlib.Core.Path.{◌≡◌, refl, sym, ap, ◌∙◌}
use mathlib.Core.Bool.{Bool, true, false}
use mathlib.Core.List.{List, [], ◌∷◌}
use native.Mathlib.Nat.{zero-add}
use native.Mathlib.Omega.{arith}
use lib.ListN.{length, get_or}
use lib.Ieee.{Float, lt}
use borrow.Author.Tests.{le-leb, le-ltb, eq-eqb}
use Rattle.numbers.specs.F64 as F
use Rattle.numbers.specs.Near.{near}
use Rattle.std.specs.Prelude.{if◌then◌else◌}
use Rattle.laws.specs.Loop.{flat}
use Rattle.laws.proofs.Blocks.{get_d_flat}
use Rattle.laws.proofs.Copies.{length_flat}
use Rattle.laws.proofs.Firsts.{first_of_zero, first_of_fine}
use Rattle.vec3.specs.declared.Vec3.{Vec3}
use Rattle.vec3.specs.Vec.{pos_at, coords, vec}
use Rattle.judge.specs.Judge.{position_fault, positions_fault}
use Rattle.minor_arc.specs.declared.Mode.{Mode}
use Rattle.signs.proofs.Clears.{clear_once}
use Rattle.ring_corners.specs.Corners.{corner_source, corner_at, class_by, class_at, ring_of, classes_of}
use Rattle.vec3.proofs.Arrays.{size, raw_written}
use Rattle.loop_header.specs.Loops.{threes_of, shape_fault, class_fault, classes_fault, ring_fault, cut_fault}
use Rattle.loop_build.specs.Build.{Doubles, list_fault, opened_count, ring_header}
use Rattle.loop_build.proofs.Rooms.{Listed, list_fine}

-- ---- classes
either : (b c : Bool) → ◌≤◌ (if b then 2 else (if c then 0 else 1)) 2
either true c = omega arith
either false true = omega arith
either false false = omega arith

class_small : (p : Float) → class_by p ≤ 2
unfolding class_by
class_small p = either (near p F.zero) (lt p F.zero)

module _ (l : List Float) (n : ℕ) (reversed : Bool) where
  code_at : (j : ℕ) → j < n → get_or (classes_of l n reversed) j 0 ≡ class_at l n reversed j
  code_at j h =
      let e : 1 * j + 0 ≡ j = omega arith in
      let g = get_d_flat 0 1 (λ k. class_at l n reversed k ∷ []) (λ k. refl) n 0 j 0 h (omega arith) in
      ap (λ (i : ℕ). get_or (classes_of l n reversed) i 0) (sym e) ∙ g ∙ ap (class_at l n reversed) (zero-add j)

  pub codes_count : length (classes_of l n reversed) ≡ n
  codes_count = length_flat (λ k. class_at l n reversed k ∷ []) (λ j. refl) n 0

  small : (j : ℕ) → class_at l n reversed j ≤ 2
  unfolding class_at
  small j = class_small _

  code_fine : (j : ℕ) → j < length (classes_of l n reversed) → class_fault (classes_of l n reversed) (0 + j) ≡ 0
  code_fine j h =
      let k : j < n = omega (arith, codes_count) in
      rw (zero-add j, code_at j k, le-ltb 2 (class_at l n reversed j) (small j))

  pub codes_fine : classes_fault (classes_of l n reversed) ≡ 0
  unfolding classes_fault
  codes_fine = first_of_fine (class_fault (classes_of l n reversed)) (length (classes_of l n reversed)) 0 code_fine

-- ---- positions
source_below : (b : Bool) (n m j : ℕ) → n ≤ m → j < n → corner_source n b j < m
source_below true n m j l h = omega arith
source_below false n m j l h = omega arith

-- a position that is written and read again is the same
again : (g : ℕ → Vec3) (n j : ℕ) → j < n → ((k : ℕ) → k < n → vec (g k).x (g k).y (g k).z ≡ g k) → pos_at (flat (λ i. coords (g i)) n 0) j ≡ g j
again g n j h c =
    let r = raw_written g n j h in
    let e : pos_at (flat (λ i. coords (g i)) n 0) j ≡ vec (g j).x (g j).y (g j).z = ap (λ (v : Vec3). vec v.x v.y v.z) r in
    e ∙ c j h

module _ (l : List Float) (d : Doubles l) (f : list_fault l ≡ 0) (reversed : Bool) (n : ℕ) (o : n ≡ opened_count l) where
  known : Listed l
  known = list_fine l f

  from_list : (j : ℕ) → j < n → corner_source n reversed j < length l / 3
  from_list j h = source_below reversed n (length l / 3) j (omega (arith, known.within, known.threes, o)) h

  clear_corner : (j : ℕ) → j < n → vec (corner_at l n reversed j).x (corner_at l n reversed j).y (corner_at l n reversed j).z ≡ corner_at l n reversed j
  clear_corner j h =
      let k = corner_source n reversed j in
      let b : 3 * k + 2 < length l = omega (arith, from_list j h, known.threes) in
      clear_once _ _ _ (d (3 * k) (omega arith)) (d (3 * k + 1) (omega arith)) (d (3 * k + 2) b)

  position_fine : (j : ℕ) → j < n → position_fault (ring_of l n reversed) (0 + j) ≡ 0
  position_fine j h =
      let p = first_of_zero (position_fault l) (length l / 3) 0 known.positions_fine (corner_source n reversed j) (from_list j h) in
      rw (zero-add j, again (corner_at l n reversed) n j h clear_corner) (rw zero-add at p)

  pub positions_fine : positions_fault (ring_of l n reversed) n ≡ 0
  positions_fine = first_of_fine (position_fault (ring_of l n reversed)) n 0 position_fine

  pub built_cuttable : (mode : Mode) → 3 ≤ n → cut_fault (ring_header mode l n reversed) (ring_of l n reversed) (classes_of l n reversed) ≡ 0
  unfolding cut_fault shape_fault threes_of ring_fault ring_header
  built_cuttable mode h =
      let s = size (corner_at l n reversed) n in
      let q = codes_count l n reversed in
      rw (le-leb 3 n h, eq-eqb _ _ s, eq-eqb _ _ q, le-ltb 512 n (omega (arith, known.small, o)), codes_fine l n reversed) positions_fine
