-- SCOPE 3: the vectors' rules. Sums run left to right, each operation rounds once (SCOPE 1); a component is stored as 0.0 + v, so -0.0 becomes 0.0; a zero
-- cross product falls to `orthogonal`. Definitions only.
use Rattle.std.specs.Prelude.{ℕ, ◌+◌, ◌*◌, Bool, ◌&&◌, List, [], ◌∷◌, get_or, Float, if◌then◌else◌}
use Rattle.std.specs.Float.{nan}
use Rattle.std.specs.Float.Ieee.{neg, lt, eq}
use Rattle.root.specs.Root.{root_of}
use Rattle.numbers.specs.F64.{◌⊕◌, ◌⊖◌, ◌⊗◌, ◌⊘◌, zero, one}
use Rattle.numbers.specs.Near.{abs}
use Rattle.vec3.specs.declared.Vec3.{Vec3}

abbrev pub vec : Float → Float → Float → Vec3
vec a b c = record { x = zero ⊕ a; y = zero ⊕ b; z = zero ⊕ c }

-- a vector as it is read, free of -0.0
abbrev pub cleared : Vec3 → Vec3
cleared u = vec u.x u.y u.z

-- the origin, and the axes
abbrev pub origin : Vec3
origin = record { x = zero; y = zero; z = zero }

abbrev pub axis_x : Vec3
axis_x = record { x = one; y = zero; z = zero }

abbrev pub axis_y : Vec3
axis_y = record { x = zero; y = one; z = zero }

abbrev pub axis_z : Vec3
axis_z = record { x = zero; y = zero; z = one }

abbrev pub same : Vec3 → Vec3 → Bool
same u v = eq u.x v.x && eq u.y v.y && eq u.z v.z

abbrev pub dot : Vec3 → Vec3 → Float
dot u v = u.x ⊗ v.x ⊕ u.y ⊗ v.y ⊕ u.z ⊗ v.z

-- the cross product as it comes, and stored
abbrev pub product : Vec3 → Vec3 → Vec3
product u v = record { x = u.y ⊗ v.z ⊖ u.z ⊗ v.y; y = u.z ⊗ v.x ⊖ u.x ⊗ v.z; z = u.x ⊗ v.y ⊖ u.y ⊗ v.x }

abbrev pub cross : Vec3 → Vec3 → Vec3
cross u v = cleared (product u v)

abbrev pub plus : Vec3 → Vec3 → Vec3
plus u v = vec (u.x ⊕ v.x) (u.y ⊕ v.y) (u.z ⊕ v.z)

abbrev pub minus : Vec3 → Vec3 → Vec3
minus u v = vec (u.x ⊖ v.x) (u.y ⊖ v.y) (u.z ⊖ v.z)

abbrev pub opposite : Vec3 → Vec3
opposite u = vec (neg u.x) (neg u.y) (neg u.z)

abbrev pub times : Vec3 → Float → Vec3
times u k = vec (u.x ⊗ k) (u.y ⊗ k) (u.z ⊗ k)

-- v + u and v - u, whose components are multiplied before any is stored
abbrev pub summed : Vec3 → Vec3 → Vec3
summed u v = record { x = v.x ⊕ u.x; y = v.y ⊕ u.y; z = v.z ⊕ u.z }

abbrev pub parted : Vec3 → Vec3 → Vec3
parted u v = record { x = v.x ⊖ u.x; y = v.y ⊖ u.y; z = v.z ⊖ u.z }

-- at unit length: the origin where the length is 0
unfoldable pub unit_vec : Float → Float → Float → Vec3
unit_vec a b c =
    let n = root_of (a ⊗ a ⊕ b ⊗ b ⊕ c ⊗ c) in
    if eq n zero then origin else vec (one ⊘ n ⊗ a) (one ⊘ n ⊗ b) (one ⊘ n ⊗ c)

unfoldable pub unit : Vec3 → Vec3
unit u =
    let n = root_of (dot u u) in
    if eq n zero then origin else times u (one ⊘ n)

abbrev pub cross_unit : Vec3 → Vec3 → Vec3
cross_unit u v =
    let p = product u v in
    unit_vec p.x p.y p.z

-- (v + u) x (v - u) as it comes, of which `stable_unit` is the unit vector
abbrev pub stable_cross : Vec3 → Vec3 → Vec3
stable_cross u v = product (summed u v) (parted u v)

abbrev pub stable_unit : Vec3 → Vec3 → Vec3
stable_unit u v = cross_unit (summed u v) (parted u v)

-- an axis away from the largest of three sizes: z for x, x for y, and y otherwise
unfoldable pub axis_for : Float → Float → Float → Vec3
axis_for x y z = if lt y x then (if lt z x then axis_z else axis_y) else (if lt z y then axis_x else axis_y)

abbrev pub orthogonal : Vec3 → Vec3
orthogonal u = cross_unit u (axis_for (abs u.x) (abs u.y) (abs u.z))

unfoldable pub orthogonal_to : Vec3 → Vec3 → Vec3
orthogonal_to u v =
    let r = stable_unit u v in
    if same r origin then orthogonal u else r

-- the two add to exactly zero
abbrev pub antipodes : Vec3 → Vec3 → Bool
antipodes u v = same (plus u v) origin

-- the unit vector of the sum of three, from zero on
abbrev pub mean3 : Vec3 → Vec3 → Vec3 → Vec3
mean3 u v w = unit_vec (zero ⊕ u.x ⊕ v.x ⊕ w.x) (zero ⊕ u.y ⊕ v.y ⊕ w.y) (zero ⊕ u.z ⊕ v.z ⊕ w.z)

-- the position numbered i of a list of components, free of -0.0
abbrev pub pos_at : List Float → ℕ → Vec3
pos_at l i = vec (get_or l (3 * i) nan) (get_or l (3 * i + 1) nan) (get_or l (3 * i + 2) nan)

-- a vector of a work array, as it stands
abbrev pub raw_at : List Float → ℕ → Vec3
raw_at l i = record { x = get_or l (3 * i) nan; y = get_or l (3 * i + 1) nan; z = get_or l (3 * i + 2) nan }

-- a position's components
abbrev pub coords : Vec3 → List Float
coords v = v.x ∷ v.y ∷ v.z ∷ []
