-- A loop as built has doubles alone, and its cap's centre and insides are free of -0.0: its bytes keep all of it. Assumes nothing.
use Prim.Native.Nat.{ℕ, zero, suc, ◌≤◌}
use mathlib.Core.Path.{◌≡◌, refl}
use mathlib.Core.Bool.{Bool, true, false, ◌||◌, cond}
use mathlib.Core.List.{List, [], ◌∷◌}
use lib.ListN.{length, get_or}
use lib.Dec.{T, ltb}
use lib.Ieee.{Float, nan, binary64, of_bits, add, fits, lt, le, eq}
use lib.Ieee.Bits.{of_bits-fits}
use lib.Ieee.Fits.{nan-fits, add-fits, mul-fits}
use Rattle.numbers.specs.F64 as F
use Rattle.std.specs.Prelude.{Option, None, Some, if◌then◌else◌}
use Rattle.numbers.specs.Near.{near}
use Rattle.root.specs.Root.{root_of}
use Rattle.laws.specs.Loop.{iterate, flat}
use Rattle.vec3.specs.declared.Vec3.{Vec3}
use Rattle.vec3.specs.Vec.{vec, cleared, origin, axis_z, same, dot, times, unit_vec, unit, stable_unit, orthogonal, orthogonal_to, antipodes, mean3, pos_at, coords}
use Rattle.vec3.specs.Points.{triangle_mean}
use Rattle.chord_length.specs.declared.ChordLength.{ChordLength}
use Rattle.chord_length.specs.Chords.{squared, negative, most, from_squared_length, chord, joined, sum, later_max}
use Rattle.cap.specs.declared.Cap.{Cap}
use Rattle.cap.specs.Caps.{growth, quarter_circle, empty_one, full_one, sum_of, farther, farthest_of, grown, bounding_cap}
use Rattle.signs.proofs.Clears.{clear_once}
use Rattle.minor_arc.specs.declared.Mode.{Mode}
use Rattle.ring_turns.specs.Turns.{edge_normal}
use Rattle.ring_corners.specs.Corners.{corner_at, normal_at, ring_of, classes_of}
use Rattle.ring_cut.specs.Cut.{Ring}
use Rattle.ring_insides.specs.Insides.{insides_of}
use Rattle.ring_insides.proofs.Means.{AtPoint, InInsides, insides_means}
use Rattle.loop_build.specs.Build.{Doubles, list_fault, opened_count, insides_for, ring_header}
use Rattle.theorem_built.specs.Built.{Loop, AsBuilt}
use Rattle.theorem_built.proofs.Whole.{empty_loop, full_loop, ring_loop, ring, of_three}

abbrev Double : Float → Type 0
Double x = T (fits binary64 x)

-- ---- vectors
pub record Vector (v : Vec3) : Type 0 where
  pub x_fits : T (fits binary64 v.x)
  pub y_fits : T (fits binary64 v.y)
  pub z_fits : T (fits binary64 v.z)

pub record Clear (v : Vec3) : Type 0 where
  pub doubles : Vector v
  pub clear : cleared v ≡ v

stored : (a b c : Float) → Vector (vec a b c)
stored a b c = record { x_fits = add-fits binary64 F.zero a; y_fits = add-fits binary64 F.zero b; z_fits = add-fits binary64 F.zero c }

stored_clear : (a b c : Float) → Double a → Double b → Double c → Clear (vec a b c)
stored_clear a b c p q r = record { doubles = stored a b c; clear = clear_once a b c p q r }

zero_fits : Double F.zero
zero_fits = of_bits-fits binary64 0

origin_clear : Clear origin
origin_clear = record { doubles = record { x_fits = zero_fits; y_fits = zero_fits; z_fits = zero_fits }; clear = unfold add of_bits in refl }

axis_clear : Clear axis_z
axis_clear = record { doubles = record { x_fits = zero_fits; y_fits = zero_fits; z_fits = of_bits-fits binary64 _ }; clear = unfold add of_bits in refl }

if_clear : (b : Bool) (u v : Vec3) → Clear u → Clear v → Clear (if b then u else v)
if_clear true u v h k = h
if_clear false u v h k = k

unit_vec_clear : (a b c : Float) → Clear (unit_vec a b c)
unfolding unit_vec
unit_vec_clear a b c =
    let n = root_of (F.◌⊕◌ (F.◌⊕◌ (F.◌⊗◌ a a) (F.◌⊗◌ b b)) (F.◌⊗◌ c c)) in
    let m = F.◌⊘◌ F.one n in
    if_clear (eq n F.zero) origin (vec (F.◌⊗◌ m a) (F.◌⊗◌ m b) (F.◌⊗◌ m c)) origin_clear
    (stored_clear _ _ _ (mul-fits binary64 m a) (mul-fits binary64 m b) (mul-fits binary64 m c))

unit_clear : (u : Vec3) → Clear (unit u)
unfolding unit
unit_clear u =
    let n = root_of (dot u u) in
    let m = F.◌⊘◌ F.one n in
    if_clear (eq n F.zero) origin (times u m) origin_clear
    (stored_clear _ _ _ (mul-fits binary64 u.x m) (mul-fits binary64 u.y m) (mul-fits binary64 u.z m))

orthogonal_clear : (u v : Vec3) → Clear (orthogonal_to u v)
unfolding orthogonal_to
orthogonal_clear u v = if_clear (same (stable_unit u v) origin) (orthogonal u) (stable_unit u v) (unit_vec_clear _ _ _) (unit_vec_clear _ _ _)

-- ---- lists of them; past its end a list gives a NaN, which fits
abbrev Whole : List Float → Type 0
Whole l = (i : ℕ) → Double (get_or l i nan)

on : (x : Float) (l : List Float) → Double x → Whole l → Whole (x ∷ l)
on x l h k zero = h
on x l h k (suc i) = k i

none : Whole []
none i = nan-fits binary64

flat_whole : (g : ℕ → Vec3) → ((k : ℕ) → Vector (g k)) → (n i : ℕ) → Whole (flat (λ k. coords (g k)) n i)
unfolding flat
flat_whole g h zero i = none
flat_whole g h (suc n) i =
    let v = h i in
    let r = flat (λ k. coords (g k)) n (suc i) in
    on (g i).x ((g i).y ∷ (g i).z ∷ r) v.x_fits (on (g i).y ((g i).z ∷ r) v.y_fits (on (g i).z r v.z_fits (flat_whole g h n (suc i))))

module _ (l : List Float) (n : ℕ) where
  normal_stored : (reversed : Bool) (k : ℕ) → Vector (normal_at l n reversed k)
  unfolding normal_at edge_normal
  normal_stored true k = stored _ _ _
  normal_stored false k = (orthogonal_clear _ _).doubles

-- ---- squared chords
if_fits : (b : Bool) (c d : ChordLength) → Double c.0 → Double d.0 → Double (if b then c else d).0
if_fits true c d h k = h
if_fits false c d h k = k

most_fits : Double most.0
most_fits = of_bits-fits binary64 _

from_fits : (x : Float) → Double x → Double (from_squared_length x).0
unfolding from_squared_length
from_fits x h = if_fits (lt x F.four) (squared x) most h most_fits

chord_fits : (u v : Vec3) → Double (chord u v).0
chord_fits u v = from_fits _ (add-fits binary64 _ _)

later_fits : (a b : ChordLength) → Double a.0 → Double b.0 → Double (later_max a b).0
unfolding later_max
later_fits a b h k = let d = F.◌⊖◌ a.0 b.0 in if_fits (eq d F.zero || lt d F.zero) b a k h

joined_fits : (a b : Float) → Double (joined a b).0
unfolding joined
joined_fits a b = from_fits _ (add-fits binary64 _ _)

sum_fits : (a b : ChordLength) → Double a.0 → Double b.0 → Double (sum a b).0
unfolding sum
sum_fits a b h k =
    let fifth = if le F.four (F.◌⊕◌ a.0 b.0) then most else joined a.0 b.0 in
    let fourth = if eq b.0 F.zero then a else fifth in
    let third = if eq a.0 F.zero then b else fourth in
    if_fits (lt a.0 F.zero) b (if lt b.0 F.zero then a else third) k
    (if_fits (lt b.0 F.zero) a third h
    (if_fits (eq a.0 F.zero) b fourth k
    (if_fits (eq b.0 F.zero) a fifth h
    (if_fits (le F.four (F.◌⊕◌ a.0 b.0)) most (joined a.0 b.0) most_fits (joined_fits a.0 b.0)))))

-- ---- caps
pub record KeptCap (c : Cap) : Type 0 where
  pub centre_clear : Clear c.centre
  pub radius_fits : T (fits binary64 c.radius.0)

if_cap : (b : Bool) (c d : Cap) → KeptCap c → KeptCap d → KeptCap (if b then c else d)
if_cap true c d h k = h
if_cap false c d h k = k

full_cap : KeptCap full_one
full_cap = record { centre_clear = axis_clear; radius_fits = most_fits }

empty_cap_lem : KeptCap empty_one
empty_cap_lem = record { centre_clear = axis_clear; radius_fits = of_bits-fits binary64 _ }

grown_cap : (centre : Vec3) (radius : ChordLength) → Clear centre → Double radius.0 → KeptCap (grown centre radius)
unfolding grown
grown_cap centre radius h k =
    let r = sum radius growth in
    if_cap (le quarter_circle r.0) full_one (record { centre = centre; radius = r }) full_cap (record { centre_clear = h; radius_fits = sum_fits radius growth k (of_bits-fits binary64 _) })

module _ (l : List Float) where
  farthest_fits : (centre : Vec3) (k i : ℕ) (m : ChordLength) → Double m.0 → Double (iterate (farther l centre) k i m).0
  unfolding iterate
  farthest_fits centre zero i m h = h
  farthest_fits centre (suc k) i m h = farthest_fits centre k (suc i) (later_max m (chord centre (pos_at l i))) (later_fits m (chord centre (pos_at l i)) h (chord_fits centre (pos_at l i)))

  cap_kept : (n : ℕ) → KeptCap (bounding_cap l n)
  unfolding bounding_cap
  cap_kept n =
      let s = sum_of l n in
      if_cap (near (dot s s) F.zero) full_one (grown (unit s) (farthest_of l n (unit s))) full_cap
      (grown_cap (unit s) (farthest_of l n (unit s)) (unit_clear s) (farthest_fits (unit s) n 0 negative (of_bits-fits binary64 _)))

-- ---- insides
abbrev pub KeptInsides : Option (Vec3 × Vec3) → Type 0
KeptInsides i = InInsides Clear i

if_mean : (b : Bool) (p q : Option Vec3) → AtPoint Clear p → AtPoint Clear q → AtPoint Clear (if b then p else q)
if_mean true p q h k = h
if_mean false p q h k = k

mean_clear : (a b c : Vec3) → AtPoint Clear (triangle_mean a b c)
unfolding triangle_mean
mean_clear a b c = if_mean ((antipodes a b || antipodes a c) || antipodes b c) None (Some (mean3 a b c)) tt (unit_vec_clear _ _ _)

cond_kept : (b : Bool) (i : Option (Vec3 × Vec3)) → KeptInsides i → KeptInsides (cond b i None)
cond_kept true i h = h
cond_kept false i h = tt

insides_kept : (ps : List Float) (cs : List ℕ) → Ring ps cs → KeptInsides (insides_for ps cs)
unfolding insides_for
insides_kept ps cs r = cond_kept (ltb 3 (length cs)) (insides_of ps cs) (insides_means Clear ps cs r (λ x y z h k j. mean_clear (pos_at ps x) (pos_at ps y) (pos_at ps z)))

-- ---- loops
pub record Kept (a : Loop) : Type 0 where
  pub cap : KeptCap a.header.cap
  pub insides : KeptInsides a.header.insides
  pub positions : Doubles a.positions
  pub normals : Doubles a.normals

empty_kept : (mode : Mode) → Kept (empty_loop mode)
empty_kept mode = record { cap = empty_cap_lem; insides = tt; positions = λ i h. none i; normals = λ i h. none i }

full_kept : (mode : Mode) (weak : Bool) → Kept (full_loop mode weak)
full_kept mode weak = record { cap = full_cap; insides = tt; positions = λ i h. none i; normals = λ i h. none i }

ring_kept : (mode : Mode) (l : List Float) → Doubles l → list_fault l ≡ 0 → (reversed : Bool) (n : ℕ) → n ≡ opened_count l → 3 ≤ n → Kept (ring_loop mode l n reversed)
unfolding ring_header
ring_kept mode l d f reversed n o g = record {
  cap = cap_kept l n;
  insides = insides_kept (ring_of l n reversed) (classes_of l n reversed) (ring l d f reversed n o g);
  positions = λ i h. flat_whole (corner_at l n reversed) (λ k. stored _ _ _) n 0 i;
  normals = λ i h. flat_whole (normal_at l n reversed) (normal_stored l n reversed) n 0 i;
}

pub kept : (a : Loop) → AsBuilt a → Kept a
kept = of_three Kept empty_kept full_kept ring_kept
