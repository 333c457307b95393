-- The bounding cap of positions that are not refused is finite: its centre has no component above 2, its squared radius is at most 4241. Assumes nothing.
use Prim.Native.Nat.{ℕ, zero, suc, ◌+◌, ◌*◌, ◌≤◌, ◌<◌}
use mathlib.Core.Path.{◌≡◌, refl, ap, ◌∙◌, subst, sym}
use mathlib.Core.Bool.{Bool, true, false, ◌||◌}
use mathlib.Core.Logic.{◌⊎◌, inl, inr, ⊎_elim}
use mathlib.Core.List.{List}
use native.Mathlib.Omega.{arith}
use lib.Dec.{lit≤}
use lib.Ieee.{Float, nan, inf, fin, binary64, of_bits, add, mul, lt, le, eq}
use lib.Ieee.Fits.{mul-fits}
use Rattle.numbers.specs.F64 as F
use Rattle.std.specs.Prelude.{if◌then◌else◌}
use Rattle.numbers.specs.Near.{near}
use Rattle.laws.specs.Loop.{iterate}
use Rattle.root.specs.Root.{root_of}
use Rattle.vec3.specs.declared.Vec3.{Vec3}
use Rattle.vec3.specs.Vec.{origin, dot, minus, plus, unit, pos_at}
use Rattle.chord_length.specs.declared.ChordLength.{ChordLength}
use Rattle.chord_length.specs.Chords.{squared, negative, most, from_squared_length, chord, joined, sum, later_max}
use Rattle.cap.specs.declared.Cap.{Cap}
use Rattle.cap.specs.Caps.{growth, quarter_circle, full_one, plus_next, sum_of, farther, farthest_of, grown, bounding_cap}
use Rattle.fractions.proofs.Sizes.{Size, mul_size, add_size, sub_size, size_grow}
use Rattle.sizes.proofs.Inverse.{root_size}
use Rattle.sizes.proofs.Unit.{Sized, zero_size, one_size, dot_size, unit_of_sized}
use Rattle.sizes.proofs.Vectors.{sized_grow, plus_sized, minus_sized, size_finite, sized_finite}
use Rattle.sizes.proofs.Normal.{Fine, position_sized}
use Rattle.loop_header.specs.Loops.{cap_fault}

-- ---- squared chords
if_size : (c : Bool) (a b : ChordLength) (s : ℕ) → Size a.0 s → Size b.0 s → Size (if c then a else b).0 s
if_size true a b s h k = h
if_size false a b s h k = k

four_size : Size F.four 4
unfolding of_bits
four_size = record { finite = tt; small = lit≤ tt }

-- a NaN becomes 4
from_size : (x : Float) (b : ℕ) → 4 ≤ b → (x ≡ nan) ⊎ Size x b → Size (from_squared_length x).0 b
unfolding from_squared_length
from_size x b l (inl e) = subst (λ (z : Float). Size (if lt z F.four then squared z else most).0 b) (sym e) (unfold lt in size_grow F.four 4 b l four_size)
from_size x b l (inr h) = if_size (lt x F.four) (squared x) most b h (size_grow F.four 4 b l four_size)

chord_size_lem : (u v : Vec3) → Sized u 2 → Sized v 2 → Size (chord u v).0 48
chord_size_lem u v h k =
    let w = minus_sized u v 2 2 (lit≤ tt) h k in
    from_size (dot (minus u v) (minus u v)) 48 (lit≤ tt) (inr (dot_size (minus u v) (minus u v) 4 4 (lit≤ tt) (lit≤ tt) w w))

later_size : (a b : ChordLength) (s : ℕ) → Size a.0 s → Size b.0 s → Size (later_max a b).0 s
unfolding later_max
later_size a b s h k = let d = F.◌⊖◌ a.0 b.0 in if_size (eq d F.zero || lt d F.zero) b a s k h

quarter_size : Size F.quarter 1
unfolding of_bits
quarter_size = record { finite = tt; small = lit≤ tt }

two_size : Size F.two 2
unfolding of_bits
two_size = record { finite = tt; small = lit≤ tt }

add_nan : (x : Float) → add binary64 x nan ≡ nan
unfolding add
add_nan nan = refl
add_nan (inf s) = refl
add_nan (fin s m e) = refl

twice_nan : mul binary64 F.two nan ≡ nan
unfolding mul of_bits
twice_nan = refl

-- the root of a product below 0 is a NaN
joined_size : (a b : Float) → Size a 48 → Size b 1 → Size (joined a b).0 4241
unfolding joined
joined_size a b h k =
    from_size total 4241 (lit≤ tt)
    (⊎_elim (λ e. inl (off e)) (λ r. inr (on r)) (root_size (F.◌⊗◌ x y) (mul-fits binary64 x y) (size_grow (F.◌⊗◌ x y) 4704 4194304 (lit≤ tt) (mul_size x y 96 49 x_is y_is (lit≤ tt)))))
  where
    x : Float
    x = F.◌⊗◌ a (F.◌⊖◌ F.one (F.◌⊗◌ F.quarter b))

    y : Float
    y = F.◌⊗◌ b (F.◌⊖◌ F.one (F.◌⊗◌ F.quarter a))

    total : Float
    total = F.◌⊕◌ (F.◌⊕◌ x y) (F.◌⊗◌ F.two (root_of (F.◌⊗◌ x y)))

    x_is : Size x 96
    x_is =
        let q = mul_size F.quarter b 1 1 quarter_size k (lit≤ tt) in
        mul_size a (F.◌⊖◌ F.one (F.◌⊗◌ F.quarter b)) 48 2 h (sub_size F.one (F.◌⊗◌ F.quarter b) 1 1 one_size q (lit≤ tt)) (lit≤ tt)

    y_is : Size y 49
    y_is =
        let q = mul_size F.quarter a 1 48 quarter_size h (lit≤ tt) in
        mul_size b (F.◌⊖◌ F.one (F.◌⊗◌ F.quarter a)) 1 49 k (sub_size F.one (F.◌⊗◌ F.quarter a) 1 48 one_size q (lit≤ tt)) (lit≤ tt)

    off : root_of (F.◌⊗◌ x y) ≡ nan → total ≡ nan
    off e = ap (λ (r : Float). F.◌⊕◌ (F.◌⊕◌ x y) (F.◌⊗◌ F.two r)) e ∙ ap (λ (r : Float). F.◌⊕◌ (F.◌⊕◌ x y) r) twice_nan ∙ add_nan (F.◌⊕◌ x y)

    on : Size (root_of (F.◌⊗◌ x y)) 2048 → Size total 4241
    on r =
        let t = mul_size F.two (root_of (F.◌⊗◌ x y)) 2 2048 two_size r (lit≤ tt) in
        add_size (F.◌⊕◌ x y) (F.◌⊗◌ F.two (root_of (F.◌⊗◌ x y))) 145 4096 (add_size x y 96 49 x_is y_is (lit≤ tt)) t (lit≤ tt)

sum_size : (a b : ChordLength) → Size a.0 48 → Size b.0 1 → Size (sum a b).0 4241
unfolding sum
sum_size a b h k =
    let p = size_grow a.0 48 4241 (lit≤ tt) h in
    let q = size_grow b.0 1 4241 (lit≤ tt) k in
    let fifth = if le F.four (F.◌⊕◌ a.0 b.0) then most else joined a.0 b.0 in
    let fourth = if eq b.0 F.zero then a else fifth in
    let third = if eq a.0 F.zero then b else fourth in
    if_size (lt a.0 F.zero) b (if lt b.0 F.zero then a else third) 4241 q
    (if_size (lt b.0 F.zero) a third 4241 p
    (if_size (eq a.0 F.zero) b fourth 4241 q
    (if_size (eq b.0 F.zero) a fifth 4241 p
    (if_size (le F.four (F.◌⊕◌ a.0 b.0)) most (joined a.0 b.0) 4241 (size_grow F.four 4 4241 (lit≤ tt) four_size) (joined_size a.0 b.0 h k)))))

-- ---- caps
pub record Bounded (c : Cap) : Type 0 where
  pub centre_is : Sized c.centre 2
  pub radius_is : Size c.radius.0 4241

pub bounded_fine : (c : Cap) → Bounded c → cap_fault c ≡ 0
unfolding cap_fault
bounded_fine c b = rw (sized_finite c.centre 2 b.centre_is, size_finite c.radius.0 4241 b.radius_is)

if_bounded : (e : Bool) (c d : Cap) → Bounded c → Bounded d → Bounded (if e then c else d)
if_bounded true c d h k = h
if_bounded false c d h k = k

full_bounded : Bounded full_one
full_bounded = record {
  centre_is = record { x_is = zero_size 2; y_is = zero_size 2; z_is = size_grow F.one 1 2 (lit≤ tt) one_size };
  radius_is = size_grow F.four 4 4241 (lit≤ tt) four_size;
}

growth_size : Size growth.0 1
unfolding of_bits
growth_size = record { finite = tt; small = lit≤ tt }

negative_size : Size negative.0 48
unfolding of_bits
negative_size = record { finite = tt; small = lit≤ tt }

grown_bounded : (centre : Vec3) (radius : ChordLength) → Sized centre 2 → Size radius.0 48 → Bounded (grown centre radius)
unfolding grown
grown_bounded centre radius h k =
    let r = sum radius growth in
    if_bounded (le quarter_circle r.0) full_one (record { centre = centre; radius = r }) full_bounded (record { centre_is = h; radius_is = sum_size radius growth k growth_size })

module _ (l : List Float) (n : ℕ) (f : Fine l n) where
  at_sized : (i : ℕ) → i < n → Sized (pos_at l i) 2
  at_sized i h = position_sized (pos_at l i) (f i h)

  sum_sized : (k i s : ℕ) (v : Vec3) → i + k ≤ n → s + 2 * k ≤ 1024 → Sized v s → Sized (iterate (plus_next l) k i v) 1024
  unfolding iterate
  sum_sized zero i s v a b h = sized_grow v s 1024 (omega arith) h
  sum_sized (suc k) i s v a b h = sum_sized k (suc i) (s + 2) (plus v (pos_at l i)) (omega arith) (omega arith) (plus_sized v (pos_at l i) s 2 (omega arith) h (at_sized i (omega arith)))

  farthest_size : (centre : Vec3) → Sized centre 2 → (k i : ℕ) (m : ChordLength) → i + k ≤ n → Size m.0 48 → Size (iterate (farther l centre) k i m).0 48
  unfolding iterate
  farthest_size centre c zero i m a h = h
  farthest_size centre c (suc k) i m a h =
      farthest_size centre c k (suc i) (later_max m (chord centre (pos_at l i))) (omega arith) (later_size m (chord centre (pos_at l i)) 48 h (chord_size_lem centre (pos_at l i) c (at_sized i (omega arith))))

  pub cap_bounded : n ≤ 512 → Bounded (bounding_cap l n)
  unfolding bounding_cap
  cap_bounded small =
      let s = sum_of l n in
      let c = unit_of_sized s 1024 (lit≤ tt) (sum_sized n 0 0 origin (omega arith) (omega arith) (record { x_is = zero_size 0; y_is = zero_size 0; z_is = zero_size 0 })) in
      if_bounded (near (dot s s) F.zero) full_one (grown (unit s) (farthest_of l n (unit s))) full_bounded
      (grown_bounded (unit s) (farthest_of l n (unit s)) c (farthest_size (unit s) c n 0 negative (omega arith) negative_size))
