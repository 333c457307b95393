-- A ring in bytes. Definitions only.
use Rattle.std.specs.Prelude.{ℕ, ◌*◌, ◌≤◌, ◌≡◌}

-- p floats of a ring of three to 512, and the bytes of both its positions and its classes
pub record Bytes (size p : ℕ) : Type 0 where
  pub corners : ℕ
  pub least : 3 ≤ corners
  pub most : corners ≤ 512
  pub floats : p ≡ 3 * corners
  pub bytes : size ≡ 25 * corners
