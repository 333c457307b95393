-- Refusals 3 and 4 are given exactly when SCOPE 25 says, of a vector, of a position and of n positions: both ways. Assumes nothing.
use Prim.Native.Nat.{ℕ}
use mathlib.Core.Path.{◌≡◌, refl}
use mathlib.Core.Bool.{Bool, true, false}
use mathlib.Core.Logic.{◌⊎◌, inl, inr, ⊎_elim}
use lib.Ieee.{Float, le}
use Rattle.numbers.specs.Finite.{finite}
use Rattle.std.specs.Prelude.{if◌then◌else◌}
use Rattle.vec3.specs.declared.Vec3.{Vec3}
use Rattle.vec3.specs.Vec.{dot, pos_at}
use Rattle.judge.specs.Judge.{least, greatest, finite_vec, in_range, within_range, vector_fault, fault_of}
use Rattle.judge.specs.Why.{Exactly, Finite, NotFinite, in_x, in_y, in_z, VectorWhy, finite_vector, not_finite_vector}
use Rattle.judge.specs.Why.{InRange, OffRange, below, above, PositionWhy, fine, not_finite, off_range, Exact}
use Rattle.judge.proofs.Exactly.{exactly, Tells, tells, both_tell, retell, each_exact}
use Rattle.judge.proofs.Refused.{follows, index, no_other}

-- ---- what the two tests tell
pub finite_tells : (v : Vec3) → Tells (finite_vec v) (Finite v) (NotFinite v)
finite_tells v =
    retell (both_tell (both_tell (tells (finite v.x)) (tells (finite v.y))) (tells (finite v.z)))
    (λ p. record { finite_x = p.0.0; finite_y = p.0.1; finite_z = p.1 })
    (λ f. ((f.finite_x, f.finite_y), f.finite_z))
    (⊎_elim (⊎_elim in_x in_y) in_z)
    component
  where
    component : NotFinite v → ((finite v.x ≡ false) ⊎ (finite v.y ≡ false)) ⊎ (finite v.z ≡ false)
    component (in_x e) = inl (inl e)
    component (in_y e) = inl (inr e)
    component (in_z e) = inr e

pub range_tells : (d : Float) → Tells (in_range d) (InRange d) (OffRange d)
range_tells d =
    retell (both_tell (tells (le least d)) (tells (le d greatest)))
    (λ p. record { from_least = p.0; to_greatest = p.1 })
    (λ r. (r.from_least, r.to_greatest))
    (⊎_elim below above)
    end
  where
    end : OffRange d → (le least d ≡ false) ⊎ (le d greatest ≡ false)
    end (below e) = inl e
    end (above e) = inr e

-- ---- a vector
module _ (v : Vec3) where
  vector_why : (b : Bool) → finite_vec v ≡ b → VectorWhy v (if b then 0 else 3)
  vector_why true e = finite_vector ((finite_tells v).yes e)
  vector_why false e = not_finite_vector ((finite_tells v).no e)

  why_vector : (k : ℕ) → VectorWhy v k → vector_fault v 0 ≡ k
  unfolding vector_fault
  why_vector _ (finite_vector f) = rw ((finite_tells v).good f)
  why_vector _ (not_finite_vector f) = rw ((finite_tells v).bad f)

  vector_exact : Exactly (vector_fault v 0) (VectorWhy v)
  vector_exact = exactly (VectorWhy v) (unfold vector_fault in vector_why (finite_vec v) refl) why_vector

-- ---- a position
module _ (p : Vec3) where
  position_why : (b c : Bool) → finite_vec p ≡ b → within_range p ≡ c → PositionWhy p (if b then (if c then 0 else 4) else 3)
  position_why false c e f = not_finite ((finite_tells p).no e)
  position_why true true e f = fine ((finite_tells p).yes e) ((range_tells (dot p p)).yes f)
  position_why true false e f = off_range ((finite_tells p).yes e) ((range_tells (dot p p)).no f)

  why_position : (k : ℕ) → PositionWhy p k → fault_of p ≡ k
  unfolding fault_of vector_fault
  why_position _ (fine f r) = rw ((finite_tells p).good f, (range_tells (dot p p)).good r)
  why_position _ (not_finite f) = rw ((finite_tells p).bad f)
  why_position _ (off_range f r) = rw ((finite_tells p).good f, (range_tells (dot p p)).bad r)

  position_exact : Exactly (fault_of p) (PositionWhy p)
  position_exact = exactly (PositionWhy p) (unfold fault_of vector_fault in position_why (finite_vec p) (within_range p) refl refl) why_position

pub exact : Exact
exact = record {
  vector = vector_exact;
  position = position_exact;
  positions = λ l n. each_exact {Why = λ i. PositionWhy (pos_at l i)} n (λ i h. position_exact (pos_at l i));
  follows = follows;
  index = λ l n. index l n (λ i. position_exact (pos_at l i));
  no_other = λ l n. no_other l n (λ i. position_exact (pos_at l i));
}
