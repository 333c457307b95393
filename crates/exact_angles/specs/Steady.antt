-- SCOPE 44: the sum of the angles of a list of pairs, over floats and exactly, and what a float sum of some size says of the exact one. Definitions only.
use Rattle.std.specs.Prelude.{Bool, true, false, List, [], ◌∷◌, ℕ, zero, suc, ◌*◌, ◌^◌, ◌≤◌, ◌<◌, length, ℤ, Float}
use Rattle.std.specs.Float.{nan, inf, fin}
use Rattle.std.specs.Float.Ieee.{up, down}
use Rattle.numbers.specs.F64 as F64
use Rattle.numbers.specs.F64.{◌⊕◌}
use Rattle.fractions.specs.Frac.{Frac, ◌over◌, ◌⊞◌, ◌≼◌, magnitude}
use Rattle.angle.specs.Arctan.{atan2}
use Rattle.exact_angles.specs.Exact.{Shut, around}

-- two floats whose `atan2` is one angle
pub record Pair : Type 0 where
  pub y : Float
  pub x : Float

-- ---- SCOPE 6, 44: over floats, onto acc, the first pair's angle first
abbrev pub total : Float → List Pair → Float
total acc [] = acc
total acc (p ∷ ps) = total (acc ⊕ atan2 p.y p.x) ps

-- ---- SCOPE 44: exactly. A signed fraction is `gain` less `loss`
pub record Signed : Type 0 where
  pub gain : Frac
  pub loss : Frac

abbrev pub none : Signed
none = record { gain = 0 over 1; loss = 0 over 1 }

infixl 65 ◌⊹◌
abbrev pub ◌⊹◌ : Signed → Signed → Signed
a ⊹ b = record { gain = a.gain ⊞ b.gain; loss = a.loss ⊞ b.loss }

-- a size from `lo` to `hi` with the sign s: its lower end and its upper end
abbrev pub lowest : Bool → Frac → Frac → Signed
lowest false lo hi = record { gain = lo; loss = 0 over 1 }
lowest true lo hi = record { gain = 0 over 1; loss = hi }

abbrev pub highest : Bool → Frac → Frac → Signed
highest false lo hi = record { gain = hi; loss = 0 over 1 }
highest true lo hi = record { gain = 0 over 1; loss = lo }

-- SCOPE 44: the exact angle of a pair of sizes m 2^e and n 2^d, its sign left off; t says that x's sign is minus. Two zeros count as IEEE 754 has them: 0
-- where x is 0.0, π where it is -0.0.
abbrev pub exact_of : Bool → ℕ → ℤ → ℕ → ℤ → Shut
exact_of t zero e zero d = around t 0 1
exact_of t zero e (suc n) d = around t (zero * up e * down d) (suc n * up d * down e)
exact_of t (suc m) e n d = around t (suc m * up e * down d) (n * up d * down e)

-- the ends of the exact angle of a pair, which has y's sign, of a zero too; of a pair that is not finite there is none
abbrev pub low_end : Float → Float → ℕ → Signed
low_end nan x i = none
low_end (inf s) x i = none
low_end (fin s m e) nan i = none
low_end (fin s m e) (inf t) i = none
low_end (fin s m e) (fin t n d) i = let a = exact_of t m e n d in lowest s (a.low i) (a.high i)

abbrev pub high_end : Float → Float → ℕ → Signed
high_end nan x i = none
high_end (inf s) x i = none
high_end (fin s m e) nan i = none
high_end (fin s m e) (inf t) i = none
high_end (fin s m e) (fin t n d) i = let a = exact_of t m e n d in highest s (a.low i) (a.high i)

-- SCOPE 44: the exact sum: its i-th lower end and its i-th upper end
unfoldable pub low_sum : List Pair → ℕ → Signed
low_sum [] i = none
low_sum (p ∷ ps) i = low_end p.y p.x i ⊹ low_sum ps i

unfoldable pub high_sum : List Pair → ℕ → Signed
high_sum [] i = none
high_sum (p ∷ ps) i = high_end p.y p.x i ⊹ high_sum ps i

-- ---- a pair that has an angle: both finite, and so each of a list
abbrev pub Aimed : Float → Float → Type 0
Aimed nan x = ⊥
Aimed (inf s) x = ⊥
Aimed (fin s m e) nan = ⊥
Aimed (fin s m e) (inf t) = ⊥
Aimed (fin s m e) (fin t n d) = Unit {0}

abbrev pub AllAimed : List Pair → Type 0
AllAimed [] = Unit {0}
AllAimed (p ∷ ps) = Aimed p.y p.x × AllAimed ps

-- ---- SCOPE 44: a is at most b + c: what either takes off stands on the other side
abbrev pub AtMost : Signed → Signed → Frac → Type 0
AtMost a b c = a.gain ⊞ b.loss ≼ (b.gain ⊞ a.loss) ⊞ c

-- both parts are fractions
pub record Fractions (a : Signed) : Type 0 where
  pub gain_is : 0 < a.gain.den
  pub loss_is : 0 < a.loss.den

-- SCOPE 44: the ends of a list's exact sum are fractions, the lower ones rise, the upper ones fall, and they close in: so they shut in one value and no other
pub record SumClosing (ps : List Pair) : Type 0 where
  pub low_is : (i : ℕ) → Fractions (low_sum ps i)
  pub high_is : (i : ℕ) → Fractions (high_sum ps i)
  pub rises : (i : ℕ) → AtMost (low_sum ps i) (low_sum ps (suc i)) (0 over 1)
  pub falls : (i : ℕ) → AtMost (high_sum ps (suc i)) (high_sum ps i) (0 over 1)
  pub ordered : (i : ℕ) → AtMost (low_sum ps i) (high_sum ps i) (0 over 1)
  pub closes : (i : ℕ) → AtMost (high_sum ps i) (low_sum ps i) ((7 * length ps) over (2 ^ i))

-- proved as `sums_close`
abbrev pub SumsClose : Type 0
SumsClose = (ps : List Pair) → AllAimed ps → SumClosing ps

-- ---- above 0, and below 0
abbrev pub Above : Signed → Type 0
Above a = a.loss.num * a.gain.den < a.gain.num * a.loss.den

abbrev pub Below : Signed → Type 0
Below a = a.gain.num * a.loss.den < a.loss.num * a.gain.den

-- SCOPE 44: the exact sum has the sign of the float sum: from the b-th on, the end that is nearer to 0 is on that side of it
abbrev pub SameSignFrom : ℕ → Float → List Pair → Type 0
SameSignFrom b nan ps = ⊥
SameSignFrom b (inf s) ps = ⊥
SameSignFrom b (fin false m e) ps = (i : ℕ) → b ≤ i → Above (low_sum ps i)
SameSignFrom b (fin true m e) ps = (i : ℕ) → b ≤ i → Below (high_sum ps i)

abbrev pub SameSign : Float → List Pair → Type 0
SameSign = SameSignFrom 48

-- SCOPE 44: a mark of 2 ^ -k decides: of at most 512 pairs, a float sum of that size or more has the sign of the exact sum, from the b-th ends on. Proved for
-- k = 30 and b = 48 as `steady_sign`; for k = 60, and for b = 0, it is refuted (`theorem_wrongs`).
abbrev pub Decides : ℕ → ℕ → Type 0
Decides k b = (ps : List Pair) → length ps ≤ 512 → AllAimed ps → (1 over (2 ^ k)) ≼ magnitude (total F64.zero ps) → SameSignFrom b (total F64.zero ps) ps

-- SCOPE 44: no sum is above 0 and below 0, proved as `not_both`
abbrev pub NotBoth : Type 0
NotBoth = (ps : List Pair) → AllAimed ps → (i : ℕ) → Above (low_sum ps i) → Below (high_sum ps i) → ⊥
