-- The definitions, tried on numbers: π to 14 digits, and π/4 against Machin's and Euler's sums of other slopes, whose ends overlap it. Assumes nothing.
use Prim.Native.Nat.{◌^◌, ◌≤◌}
use lib.Dec.{lit≤}
use Rattle.fractions.specs.Frac.{◌over◌, ◌⊞◌, ◌⊠◌, ◌≼◌}
use Rattle.exact_angles.specs.Exact.{coef, power, term, partial, Shut, slope, twice, less, quarter, half, whole}

-- 3.14159265358979 ≤ π ≤ 3.14159265358980
pub pi_digits : ((314159265358979 over (10 ^ 14)) ≼ whole.low 48) × (whole.high 48 ≼ (314159265358980 over (10 ^ 14)))
unfolding slope partial term power coef
pi_digits = (lit≤ tt, lit≤ tt)

-- 4 atan 1/5 - atan 1/239
abbrev machin : Shut
machin = less (twice (twice (slope 1 5))) (slope 1 239)

pub machin_overlaps : (machin.low 20 ≼ quarter.high 48) × (quarter.low 48 ≼ machin.high 20) × (machin.high 20 ≼ machin.low 20 ⊞ (1 over (10 ^ 20)))
unfolding slope partial term power coef
machin_overlaps = (lit≤ tt, lit≤ tt, lit≤ tt)

-- atan 1/2 + atan 1/3
pub euler_overlaps : (((slope 1 2).low 30 ⊞ (slope 1 3).low 30) ≼ quarter.high 48) × (quarter.low 48 ≼ ((slope 1 2).high 30 ⊞ (slope 1 3).high 30))
unfolding slope partial term power coef
euler_overlaps = (lit≤ tt, lit≤ tt)

-- atan (1/√3) is π/6, and 1/√3 lies between 780/1351 and 571/989
pub sixth : ((3 over 1) ⊠ (slope 780 1351).high 40 ≼ half.low 48) × (half.high 48 ≼ (3 over 1) ⊠ (slope 571 989).low 40)
unfolding slope partial term power coef
sixth = (lit≤ tt, lit≤ tt)
