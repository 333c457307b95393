-- Where a block of a ring ends. Definitions only.
use Rattle.std.specs.Prelude.{ℕ, ◌+◌, ◌-◌, cond, ltb}

-- 16 indexes, or those that are left
unfoldable pub block_end : ℕ → ℕ → ℕ
block_end from n = cond (ltb (n - from) 16) n (from + 16)
