-- The work arrays of the edges' normals and of the sines: their size, and what stands in them. Assumes nothing.
use Prim.Native.Nat.{ℕ, suc, ◌+◌, ◌-◌, ◌*◌, ◌≤◌, ◌<◌}
use mathlib.Core.Path.{◌≡◌, refl, ap, ◌∙◌}
use mathlib.Core.List.{List, [], ◌∷◌}
use native.Mathlib.Nat.{add-zero, zero-add}
use native.Mathlib.Omega.{arith}
use lib.ListN.{length, get_or, set}
use lib.Seq.{sets, get_or-set_other}
use lib.Ieee.{Float, nan}
use Rattle.angle.specs.Arctan.{acute}
use Rattle.laws.proofs.Blocks.{get_d_flat}
use Rattle.vec3.specs.declared.Vec3.{Vec3}
use Rattle.laws.proofs.Copies.{length_flat}
use Rattle.laws.proofs.Parts.{flat_same}
use Rattle.vec3.specs.Vec.{coords, raw_at, pos_at, orthogonal_to}
use Rattle.vec3.proofs.Arrays.{size, raw_written}
use Rattle.arctangents.specs.Arctangents.{proportion, acutes, angle_by}
use Rattle.arctangents.proofs.Between.{between_by}
use Rattle.ring_turns.specs.Turns.{edge_normal, edge_normals, turn_at}
use Rattle.ring_turns.specs.Blocks.{product_at, products, normal_of, sine_at, row, cosine_at, proportion_at, acute_at}

module _ (l : List Float) (n : ℕ) {edges : List Float} (e : edges ≡ edge_normals l n) where
  pub edges_size : length edges ≡ 3 * n
  edges_size = rw e (size (edge_normal l n) n)

  pub edge_at_lem : (i : ℕ) → i < n → raw_at edges i ≡ edge_normal l n i
  edge_at_lem i h = rw e (raw_written (edge_normal l n) n i h)

-- ---- the work array while products turn to normals: those from i on are still products
pub record Kept (l : List Float) (n i : ℕ) (d : List Float) : Type 0 where
  pub held : (j : ℕ) → i ≤ j → j < n → raw_at d j ≡ product_at l n j

pub products_size : (l : List Float) (n : ℕ) {d : List Float} → d ≡ products l n → length d ≡ 3 * n
products_size l n e = rw e (size (product_at l n) n)

pub kept : {l : List Float} {n : ℕ} {d : List Float} → d ≡ products l n → Kept l n 0 d
kept {l} {n} e = record { held = λ j a h. rw e (raw_written (product_at l n) n j h) }

-- a vector written at i leaves those after it
raw_past : (d : List Float) (i j : ℕ) (v : Vec3) → i < j → raw_at (sets d (3 * i) (coords v)) j ≡ raw_at d j
raw_past d i j v h =
    let o : (r : ℕ) → get_or (sets d (3 * i) (coords v)) (3 * j + r) nan ≡ get_or d (3 * j + r) nan =
    λ r. get_or-set_other (set (set d (3 * i) v.x) (suc (3 * i)) v.y) (suc (suc (3 * i))) (3 * j + r) v.z nan (λ q. omega (arith, q))
    ∙ get_or-set_other (set d (3 * i) v.x) (suc (3 * i)) (3 * j + r) v.y nan (λ q. omega (arith, q))
    ∙ get_or-set_other d (3 * i) (3 * j + r) v.x nan (λ q. omega (arith, q))
    in
    let e : get_or (sets d (3 * i) (coords v)) (3 * j) nan ≡ get_or d (3 * j) nan = rw add-zero at (o 0) in
    rw (e, o 1, o 2)

pub kept_on : {l : List Float} {n i : ℕ} {d : List Float} → Kept l n i d → (v : Vec3) {e : List Float} → e ≡ sets d (3 * i) (coords v) → Kept l n (i + 1) e
kept_on {i = i} {d = d} t v q = record { held = λ j a h. rw q (raw_past d i j v (omega arith) ∙ t.held j (omega arith) h) }

pub normal_of_product : (l : List Float) (n i : ℕ) → normal_of (pos_at l i) (product_at l n i) ≡ edge_normal l n i
unfolding normal_of product_at edge_normal orthogonal_to
normal_of_product l n i = refl

-- ---- a float of each edge of a block
module _ (f : ℕ → Float) (from k : ℕ) {fs : List Float} (e : fs ≡ row f from k) where
  pub row_size : length fs ≡ k
  row_size = rw e (length_flat (λ j. f (from + j) ∷ []) (λ j. refl) k 0)

  pub row_at : (j : ℕ) → j < k → get_or fs j nan ≡ f (from + j)
  row_at j h =
      let p : 1 * j + 0 ≡ j = omega arith in
      let s = get_d_flat nan 1 (λ j. f (from + j) ∷ []) (λ j. refl) k 0 j 0 h (omega arith) in
      rw e (rw (p, zero-add) at s)

pub row_held : (f : ℕ → Float) (from : ℕ) {fs : List Float} {to : ℕ} → fs ≡ row f from (to - from) → {i : ℕ} → from ≤ i → i < to → get_or fs (i - from) nan ≡ f i
row_held f from {to = to} e {i} h g =
    let q : from + (i - from) ≡ i = omega arith in
    rw q at (row_at f from (to - from) e (i - from) (omega arith))

-- the arctangents of the proportions
pub acutes_of : (l : List Float) (n from k : ℕ) → acutes (row (proportion_at l n) from k) k ≡ row (acute_at l n) from k
unfolding acute_at
acutes_of l n from k =
    flat_same (λ j. acute (get_or (row (proportion_at l n) from k) j nan) ∷ []) (λ j. acute_at l n (from + j) ∷ []) k 0
    (λ j h. rw zero-add (ap (λ (t : Float). acute t ∷ []) (row_at (proportion_at l n) from k refl j h)))

-- ---- the turn of an edge, out of its sine, its cosine and the arctangent
pub turn_by : (l : List Float) (n i : ℕ) → angle_by (sine_at l n i) (cosine_at l n i) (acute_at l n i) ≡ turn_at l n i
unfolding acute_at proportion_at cosine_at sine_at turn_at
turn_by l n i = between_by _ _

pub proportion_held : (l : List Float) (n from k : ℕ) {fs : List Float} → fs ≡ row (sine_at l n) from k → {j : ℕ} {x y : Float}
    → x ≡ cosine_at l n (from + j) → y ≡ proportion (get_or fs j nan) x → j < k → proportion_at l n (from + j) ∷ [] ≡ y ∷ []
unfolding proportion_at
proportion_held l n from k e {j} p q h = rw (q, p, row_at (sine_at l n) from k e j h)
