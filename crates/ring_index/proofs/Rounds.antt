-- Indexes counted round, without a division. Assumes nothing.
use Prim.Native.Nat.{ℕ, ◌+◌, ◌*◌, ◌%◌, ◌<◌}
use mathlib.Core.Path.{◌≡◌, sym}
use native.Mathlib.Omega.{arith}
use lib.Arith.{digits_mod}

pub under : {k n r : ℕ} → k ≡ r → r < n → r ≡ k % n
under {k} {n} {r} e h =
    let q : 0 * n + r ≡ k = omega arith in
    sym (rw q at (digits_mod 0 h))

pub over : {k n r : ℕ} → k ≡ n + r → r < n → r ≡ k % n
over {k} {n} {r} e h =
    let q : 1 * n + r ≡ k = omega arith in
    sym (rw q at (digits_mod 1 h))
