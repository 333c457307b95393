-- The sines and cosines of the turns of positions that are not refused are finite, so the theorem on steady sums asks nothing more of them. Assumes nothing.
use mathlib.Core.Path.{◌≡◌}
use mathlib.Core.Bool.{Bool, true, false}
use mathlib.Core.List.{List}
use Prim.Native.Nat.{ℕ, zero, suc, ◌+◌, ◌%◌, ◌≤◌, ◌<◌}
use native.Mathlib.Nat.{mod-lt}
use native.Mathlib.Omega.{arith}
use lib.Dec.{lit≤}
use lib.Ieee.{Float, nan, inf, fin, binary64, neg, le}
use lib.Ieee.Fits.{add-fits}
use Rattle.numbers.specs.F64 as F
use Rattle.std.specs.Prelude.{if◌then◌else◌}
use Rattle.root.specs.Root.{root_of}
use Rattle.vec3.specs.declared.Vec3.{Vec3}
use Rattle.vec3.specs.Vec.{dot, product, cross, pos_at}
use Rattle.base.specs.Turns.{sine_of}
use Rattle.angle.specs.Angles.{weak, clockwise}
use Rattle.judge.specs.Judge.{positions_fault}
use Rattle.fractions.proofs.Sizes.{Fin}
use Rattle.sizes.proofs.Unit.{Sized, vec_sized, dot_size, square_plus}
use Rattle.sizes.proofs.Vectors.{product_sized, root_finite, neg_finite}
use Rattle.sizes.proofs.Normal.{position_sized, normal_sized, Fine, fine_of}
use Rattle.exact_angles.specs.Steady.{Aimed, AllAimed}
use Rattle.ring_turns.specs.Turns.{edge_normal, turn_sum}
use Rattle.ring_turns.specs.Blocks.{sine_at, cosine_at}
use Rattle.theorem_steady.specs.Turns.{pairs_from, turn_pairs}
use Rattle.theorem_steady.specs.Directed.{SumBelow, SumAbove}
use Rattle.theorem_steady.proofs.Turned.{kept_below, reversed_above}

-- ---- a turn
sine_finite : (u v w : Vec3) → Sized u 2 → Sized v 2 → Fin (sine_of u v w)
unfolding sine_of
sine_finite u v w h k = go (le F.zero (dot (cross u v) w))
  where
    c : Sized (cross u v) 8
    c = let p = product_sized u v 2 2 (lit≤ tt) (lit≤ tt) h k in vec_sized (product u v).x (product u v).y (product u v).z 8 (lit≤ tt) p.x_is p.y_is p.z_is

    r : Fin (root_of (dot (cross u v) (cross u v)))
    r = root_finite (dot (cross u v) (cross u v)) (square_plus (cross u v) 8 (lit≤ tt) c) (add-fits binary64 _ _)

    go : (b : Bool) → Fin (if b then root_of (dot (cross u v) (cross u v)) else neg (root_of (dot (cross u v) (cross u v))))
    go true = r
    go false = neg_finite (root_of (dot (cross u v) (cross u v))) r

aimed_of : (y x : Float) → Fin y → Fin x → Aimed y x
aimed_of nan x f g = f
aimed_of (inf s) x f g = f
aimed_of (fin s m e) nan f g = g
aimed_of (fin s m e) (inf t) f g = g
aimed_of (fin s m e) (fin t n d) f g = tt

-- ---- the list
edge_sized : (l : List Float) (n i : ℕ) → Fine l n → i < n → Sized (edge_normal l n i) 2
unfolding edge_normal
edge_sized l n i f h =
    normal_sized (pos_at l i) (pos_at l ((i + 1) % n)) (position_sized (pos_at l i) (f i h)) (position_sized (pos_at l ((i + 1) % n)) (f ((i + 1) % n) (mod-lt (i + 1) (omega arith))))

turn_aimed : (l : List Float) (n i : ℕ) → Fine l n → i < n → Aimed (sine_at l n i) (cosine_at l n i)
unfolding sine_at cosine_at
turn_aimed l n i f h =
    let a = edge_sized l n i f h in
    let b = edge_sized l n ((i + 1) % n) f (mod-lt (i + 1) (omega arith)) in
    aimed_of (sine_of (edge_normal l n i) (edge_normal l n ((i + 1) % n)) (pos_at l ((i + 1) % n))) (dot (edge_normal l n i) (edge_normal l n ((i + 1) % n)))
    (sine_finite (edge_normal l n i) (edge_normal l n ((i + 1) % n)) (pos_at l ((i + 1) % n)) a b)
    (dot_size (edge_normal l n i) (edge_normal l n ((i + 1) % n)) 2 2 (lit≤ tt) (lit≤ tt) a b).finite

pub all_aimed : (l : List Float) (n k i : ℕ) → Fine l n → i + k ≤ n → AllAimed (pairs_from l n k i)
unfolding pairs_from
all_aimed l n zero i f h = tt
all_aimed l n (suc k) i f h = (turn_aimed l n i f (omega arith), all_aimed l n k (suc i) f (omega arith))

pub turns_aimed : (l : List Float) (n : ℕ) → positions_fault l n ≡ 0 → AllAimed (turn_pairs l n)
turns_aimed l n z = all_aimed l n n 0 (fine_of l n n (omega arith) z) (omega arith)

-- ---- not refused and not weak: the exact sum of the exact angles is below 0 where the float sum is, and else above 0
module _ (l : List Float) (n : ℕ) (few : n ≤ 512) (fine : positions_fault l n ≡ 0) (steady : weak (turn_sum l n) ≡ false) where
  pub steady_kept : clockwise (turn_sum l n) ≡ true → SumBelow l n
  steady_kept = kept_below l n few (turns_aimed l n fine) steady

  pub steady_reversed : clockwise (turn_sum l n) ≡ false → SumAbove l n
  steady_reversed = reversed_above l n few (turns_aimed l n fine) steady
