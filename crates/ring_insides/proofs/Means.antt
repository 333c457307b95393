-- The insides of a ring are means of triangles of its corners: what holds of every such mean holds of both. Assumes nothing.
use Prim.Native.Nat.{ℕ, zero, suc, ◌+◌, ◌-◌, ◌<◌}
use mathlib.Core.Path.{◌≡◌, refl}
use mathlib.Core.Bool.{Bool, true, false}
use mathlib.Core.List.{List, [], ◌∷◌, ◌++◌}
use native.Mathlib.Nat.{mod-lt, not-suc-le-zero}
use native.Mathlib.Omega.{arith}
use lib.ListN.{length}
use lib.Dec.{ltb}
use lib.Ieee.{Float}
use borrow.Author.Tests.{ltb-true, ltb-false}
use Rattle.std.specs.Prelude.{Option, None, Some}
use Rattle.vec3.specs.declared.Vec3.{Vec3}
use Rattle.vec3.specs.Vec.{pos_at}
use Rattle.vec3.specs.Points.{triangle_mean}
use Rattle.ring_theory.specs.Ring.{Below, prev, next, ear_of}
use Rattle.ring_theory.proofs.Withouts.{below_without}
use Rattle.ring_ears.specs.Ears.{Remaining, cut_at}
use Rattle.ring_cut.specs.Cut.{Ring, whole_ring, lowest_of, cutting, cutting_of}
use Rattle.ring_cut.proofs.Steps.{cutting_on, cutting_stuck, cutting_end}
use Rattle.ring_cut.proofs.Wholes.{lent}
use Rattle.ring_insides.specs.declared.Found.{Found}
use Rattle.ring_insides.specs.declared.Found.TheVariants as F
use Rattle.ring_insides.specs.Insides.{with_mean, with_means, means_from, insides_from, insides_of}

-- ---- every number that is cut is one of the ring's, where a ring got stuck too
below_ear : {n : ℕ} (ids rest : List ℕ) (i : ℕ) → i < length ids → Below n ids → Below n rest → Below n (ear_of ids i ++ rest)
below_ear ids rest i h b r zero l = b (prev ids i) (mod-lt (i + length ids - 1) (omega arith))
below_ear ids rest i h b r (suc zero) l = b i h
below_ear ids rest i h b r (suc (suc zero)) l = b (next ids i) (mod-lt (i + 1) (omega arith))
below_ear ids rest i h b r (suc (suc (suc j))) l = r j (omega arith)

pub below_cutting : (ps : List Float) (n k : ℕ) (s : Remaining) → Below n s.ids → Below n (cutting ps k s).triangles
below_cutting ps n zero s b = rw (cutting_end ps s) b
below_cutting ps n (suc k) s b = go (λ h. below_cutting ps n k (cut_at ps s (lowest_of ps s)) (after h)) (ltb (lowest_of ps s) (length s.ids)) refl
  where
    i : ℕ
    i = lowest_of ps s

    after : i < length s.ids → Below n (cut_at ps s i).ids
    after h = unfold cut_at in below_without i s.ids h b

    go : (i < length s.ids → Below n (cutting ps k (cut_at ps s i)).triangles) → (c : Bool) → ltb i (length s.ids) ≡ c → Below n (cutting ps (suc k) s).triangles
    go rest true e =
        let h = ltb-true i (length s.ids) e in
        rw (cutting_on ps k s refl h) (below_ear s.ids (cutting ps k (cut_at ps s i)).triangles i h b (rest h))
    go rest false e = rw (cutting_stuck ps k s refl (ltb-false i (length s.ids) e)) (λ j h. absurd (not-suc-le-zero h))

-- ---- of a point that may be absent, of the means found so far, and of insides
abbrev pub AtPoint : (Vec3 → Type 0) → Option Vec3 → Type 0
AtPoint P None = Unit {0}
AtPoint P (Some p) = P p

abbrev InFound : (Vec3 → Type 0) → Found → Type 0
InFound P F.Nothing = Unit {0}
InFound P (F.One a) = P a
InFound P (F.Both a b) = P a × P b

abbrev pub InInsides : (Vec3 → Type 0) → Option (Vec3 × Vec3) → Type 0
InInsides P None = Unit {0}
InInsides P (Some (a, b)) = P a × P b

module _ (P : Vec3 → Type 0) where
  one_more : (f : Found) (p : Option Vec3) → InFound P f → AtPoint P p → InFound P (with_mean f p)
  one_more f None h k = h
  one_more F.Nothing (Some p) h k = k
  one_more (F.One a) (Some p) h k = (h, k)
  one_more (F.Both a b) (Some p) h k = h

  taken : (f : Found) → InFound P f → InInsides P (insides_from f)
  taken F.Nothing h = tt
  taken (F.One a) h = tt
  taken (F.Both a b) h = h

  module _ (ps : List Float) (n : ℕ) (mean : (x y z : ℕ) → x < n → y < n → z < n → AtPoint P (triangle_mean (pos_at ps x) (pos_at ps y) (pos_at ps z))) where
    all_means : (f : Found) (tris : List ℕ) → InFound P f → Below n tris → InFound P (with_means ps f tris)
    unfolding with_means
    all_means f [] h b = h
    all_means f (x ∷ []) h b = h
    all_means f (x ∷ y ∷ []) h b = h
    all_means f (x ∷ y ∷ z ∷ rest) h b =
        let m = triangle_mean (pos_at ps x) (pos_at ps y) (pos_at ps z) in
        let t = mean x y z (b 0 (omega arith)) (b 1 (omega arith)) (b 2 (omega arith)) in
        all_means (with_mean f m) rest (one_more f m h t) (λ j g. b (suc (suc (suc j))) (omega arith))

  pub insides_means : (ps : List Float) (cs : List ℕ) → Ring ps cs
      → ((x y z : ℕ) → x < length cs → y < length cs → z < length cs → AtPoint P (triangle_mean (pos_at ps x) (pos_at ps y) (pos_at ps z))) → InInsides P (insides_of ps cs)
  insides_means ps cs r mean =
      taken (means_from ps (whole_ring cs)) (all_means ps (length cs) mean F.Nothing (cutting_of ps cs).triangles tt (below_cutting ps (length cs) _ (whole_ring cs) (lent r).below))
