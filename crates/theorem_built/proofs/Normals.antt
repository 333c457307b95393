-- The normals of a ring that is built are finite: no component is above 2. Assumes nothing.
use Prim.Native.Nat.{ℕ, ◌+◌, ◌-◌, ◌*◌, ◌%◌, ◌<◌}
use mathlib.Core.Path.{◌≡◌, sym, subst}
use mathlib.Core.Bool.{Bool, true, false}
use mathlib.Core.List.{List}
use native.Mathlib.Nat.{mod-lt, zero-add}
use native.Mathlib.Omega.{arith}
use lib.Dec.{lit≤}
use lib.Ieee.{Float}
use Rattle.laws.proofs.Firsts.{first_of_fine}
use Rattle.vec3.specs.declared.Vec3.{Vec3}
use Rattle.vec3.specs.Vec.{vec, pos_at}
use Rattle.vec3.proofs.Arrays.{raw_written}
use Rattle.judge.specs.Judge.{vector_fault, normal_fault, vectors_fault}
use Rattle.sizes.proofs.Unit.{Sized, vec_sized}
use Rattle.sizes.proofs.Vectors.{sized_finite, opposite_sized}
use Rattle.sizes.proofs.Normal.{Fine, position_sized, normal_sized}
use Rattle.ring_turns.specs.Turns.{edge_normal}
use Rattle.ring_corners.specs.Corners.{normal_at, normals_of}

-- what has a size is not refused
pub sized_fine : (v : Vec3) (b : ℕ) → Sized v b → vector_fault v 0 ≡ 0
unfolding vector_fault
sized_fine v b h = rw (sized_finite v b h)

module _ (l : List Float) (n : ℕ) (f : Fine l n) where
  edge_sized : (i : ℕ) → i < n → Sized (edge_normal l n i) 2
  unfolding edge_normal
  edge_sized i h =
      let j = (i + 1) % n in
      normal_sized (pos_at l i) (pos_at l j) (position_sized (pos_at l i) (f i h)) (position_sized (pos_at l j) (f j (mod-lt (i + 1) (omega arith))))

  normal_at_sized : (reversed : Bool) (k : ℕ) → k < n → Sized (normal_at l n reversed k) 2
  unfolding normal_at
  normal_at_sized true k h = let j = (2 * n - 2 - k) % n in opposite_sized (edge_normal l n j) 2 (lit≤ tt) (edge_sized j (mod-lt (2 * n - 2 - k) (omega arith)))
  normal_at_sized false k h = edge_sized k h

  module _ (reversed : Bool) where
    read_sized : (k : ℕ) → k < n → Sized (pos_at (normals_of l n reversed) k) 2
    read_sized k h =
        let s = normal_at_sized reversed k h in
        let v = normal_at l n reversed k in
        subst (λ (u : Vec3). Sized (vec u.x u.y u.z) 2) (sym (raw_written (normal_at l n reversed) n k h)) (vec_sized v.x v.y v.z 2 (lit≤ tt) s.x_is s.y_is s.z_is)

    pub normals_fine : vectors_fault (normals_of l n reversed) n ≡ 0
    normals_fine = first_of_fine (normal_fault (normals_of l n reversed)) n 0 (λ j h. rw (zero-add j) (sized_fine (pos_at (normals_of l n reversed) j) 2 (read_sized j h)))
