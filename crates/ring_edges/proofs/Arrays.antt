-- The work arrays of a block: their size, what stands in them, and that units of products are the candidates. Assumes nothing.
use Prim.Native.Nat.{ℕ, ◌+◌, ◌-◌, ◌*◌, ◌≤◌, ◌<◌}
use mathlib.Core.Path.{◌≡◌, ap, ◌∙◌}
use mathlib.Core.List.{List}
use native.Mathlib.Nat.{zero-add}
use native.Mathlib.Omega.{arith}
use lib.ListN.{length}
use lib.Ieee.{Float}
use Rattle.laws.proofs.Parts.{flat_same}
use Rattle.vec3.specs.declared.Vec3.{Vec3}
use Rattle.vec3.specs.Vec.{unit_vec, raw_at, coords}
use Rattle.vec3.proofs.Arrays.{size, raw_written}
use Rattle.ring_edges.specs.Blocks.{product_at, candidate_at, products, candidates, unit_at, units}

module _ (u : Vec3) (ns : List Float) (from : ℕ) where
  pub products_size : (k : ℕ) → length (products u ns from k) ≡ 3 * k
  products_size k = size (λ j. product_at u ns (from + j)) k

  pub candidates_size : (k : ℕ) → length (candidates u ns from k) ≡ 3 * k
  candidates_size k = size (λ j. candidate_at u ns (from + j)) k

  unit_of_lem : (k j : ℕ) → j < k → unit_at (products u ns from k) j ≡ candidate_at u ns (from + j)
  unfolding unit_at product_at candidate_at
  unit_of_lem k j h = ap (λ (v : Vec3). unit_vec v.x v.y v.z) (raw_written (λ j. product_at u ns (from + j)) k j h)

  pub units_of : (k : ℕ) → units (products u ns from k) k ≡ candidates u ns from k
  units_of k =
      flat_same (λ j. coords (unit_at (products u ns from k) j)) (λ j. coords (candidate_at u ns (from + j))) k 0
      (λ j h. rw (zero-add) (ap coords (unit_of_lem k j h)))

  module _ {cs : List Float} {to : ℕ} (e : cs ≡ candidates u ns from (to - from)) {i : ℕ} (h : from ≤ i) (g : i < to) where
    pub held_size : length cs ≡ 3 * (to - from)
    held_size = rw e (candidates_size (to - from))

    pub held : raw_at cs (i - from) ≡ candidate_at u ns i
    held =
        let q : from + (i - from) ≡ i = omega arith in
        rw e (raw_written (λ j. candidate_at u ns (from + j)) (to - from) (i - from) (omega arith) ∙ ap (candidate_at u ns) q)
