-- What demand 3 (SCOPE 20) says of the sides of an accepted list of triples. Definitions only.
use Rattle.std.specs.Prelude.{ℕ, ◌+◌, ◌-◌, ◌*◌, ◌%◌, ◌<◌, ◌≡◌, ◌&&◌, cond, List, [], ◌∷◌, length, eqb}
use Rattle.ring_theory.specs.Ring.{Below}

-- 1 if the side from a to b is the one from u to v, else 0
unfoldable pub same : ℕ → ℕ → ℕ → ℕ → ℕ
same u v a b = cond (eqb u a && eqb v b) 1 0

-- how often the triple (a, b, c), whose sides are a to b, b to c and c to a, runs from u to v
unfoldable pub passes : ℕ → ℕ → ℕ → ℕ → ℕ → ℕ
passes u v a b c = same u v a b + same u v b c + same u v c a

-- 1 if the side {u, v} lies in the triple, run one way or the other, else 0
unfoldable pub lies : ℕ → ℕ → ℕ → ℕ → ℕ → ℕ
lies u v a b c = cond (eqb (passes u v a b c + passes v u a b c) 0) 0 1

-- how often a flat list of triples runs from u to v
unfoldable pub runs : ℕ → ℕ → List ℕ → ℕ
runs u v [] = 0
runs u v (a ∷ []) = 0
runs u v (a ∷ b ∷ []) = 0
runs u v (a ∷ b ∷ c ∷ rest) = passes u v a b c + runs u v rest

-- in how many of its triples the side {u, v} lies
unfoldable pub holders : ℕ → ℕ → List ℕ → ℕ
holders u v [] = 0
holders u v (a ∷ []) = 0
holders u v (a ∷ b ∷ []) = 0
holders u v (a ∷ b ∷ c ∷ rest) = lies u v a b c + holders u v rest

-- u to v is a side of the loop of n corners
abbrev pub LoopSide : ℕ → ℕ → ℕ → Type 0
LoopSide n u v = (u < n) × (v ≡ (u + 1) % n)

-- {u, v} is a side of a triple and, either way, no side of the loop
pub record Inner (n : ℕ) (tris : List ℕ) (u v : ℕ) : Type 0 where
  pub side : 0 < holders u v tris
  pub not_ahead : ¬ LoopSide n u v
  pub not_back : ¬ LoopSide n v u

pub record Demand3 (n : ℕ) (tris : List ℕ) : Type 0 where
  -- n - 2 triples of ring numbers
  pub count : length tris ≡ 3 * (n - 2)
  pub within : Below n tris
  -- each side of the loop lies in one triple, which runs it as the loop does
  pub loop_once : (u v : ℕ) → LoopSide n u v → holders u v tris ≡ 1
  pub loop_ahead : (u v : ℕ) → LoopSide n u v → runs u v tris ≡ 1
  pub loop_not_back : (u v : ℕ) → LoopSide n u v → runs v u tris ≡ 0
  -- every other side lies in two, which run it opposite ways
  pub inner_twice : (u v : ℕ) → Inner n tris u v → holders u v tris ≡ 2
  pub inner_ahead : (u v : ℕ) → Inner n tris u v → runs u v tris ≡ 1
  pub inner_back : (u v : ℕ) → Inner n tris u v → runs v u tris ≡ 1
  -- no two inner sides cross in ring order: of two that cross, a to b and c to d can be so named that a < c < b < d, as `Inner` reads a side either way
  pub apart : (a b c d : ℕ) → Inner n tris a b → Inner n tris c d → a < c → c < b → b < d → ⊥
