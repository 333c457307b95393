-- Wrong bounds, marks and sums of angles (SCOPE 43, 44): each statement is that of a theorem with another number or another sum in it, and is refuted at one
-- input. Proved in proofs/Angles.antt. Definitions only.
use Rattle.std.specs.Prelude.{ℕ, ◌-◌, ◌≡◌, Bool, true, false, List, [], ◌∷◌, ℤ, Float}
use Rattle.std.specs.Float.{fin, binary64}
use Rattle.std.specs.Float.Ieee.{of_bits}
use Rattle.laws.specs.Loop.{iterate}
use Rattle.numbers.specs.F64 as F64
use Rattle.numbers.specs.F64.{two}
use Rattle.angle.specs.declared.Angle.{Angle}
use Rattle.angle.specs.Angles.{none}
use Rattle.angle.specs.Arctan.{atan2}
use Rattle.minor_arc.specs.declared.Mode.TheVariants.{Plain}
use Rattle.exact_angles.specs.Exact.{quarter, Within, AlwaysNear}
use Rattle.exact_angles.specs.Steady.{Pair, total, exact_of, Decides}
use Rattle.ring_turns.specs.Turns.{plus_turn, turn_sum}
use Rattle.loop_header.specs.declared.Header.{Header}
use Rattle.loop_header.specs.declared.State.TheVariants.{Ring}
use Rattle.loop_build.specs.Build.{opened_count, loop, build_outcome}
use Rattle.theorem_steady.specs.Turns.{turn_pairs}
use Rattle.theorem_steady.specs.Directed.{SumBelow, Directed}

-- ---- the inputs
abbrev pub three : Float
three = of_bits binary64 0x4008_0000_0000_0000

abbrev pub minus_one : Float
minus_one = of_bits binary64 0xbff0_0000_0000_0000

abbrev pub minus_four : Float
minus_four = of_bits binary64 0xc010_0000_0000_0000

abbrev pub minus_ten : Float
minus_ten = of_bits binary64 0xc024_0000_0000_0000

-- twice the angle whose tangent is 1/2, less the one whose tangent is 4/3: the exact sum is 0, the float sum 2^-53
abbrev pub double_angle : List Pair
double_angle = record { y = F64.one; x = two } ∷ record { y = F64.one; x = two } ∷ record { y = minus_four; x = three } ∷ []

-- π/4 less the angle whose tangent is 1/2: above 0.3, but the first lower end of the one is below the first upper end of the other
abbrev pub wide_ends : List Pair
wide_ends = record { y = F64.one; x = F64.one } ∷ record { y = minus_one; x = two } ∷ []

-- the turns that k of the n edges make
abbrev pub turns_of : ℕ → List Float → ℕ → Angle
turns_of k l n = iterate (plus_turn l n) k 0 none

abbrev pub exchanged : List Pair → List Pair
exchanged [] = []
exchanged (p ∷ ps) = record { y = p.x; x = p.y } ∷ exchanged ps

pub record OfAngles : Type 0 where
  -- a bound of 2^-52: the angle of (-10, 2) is farther from the exact one, which its 60th ends tell, for they are within 7/2^60 of each other
  pub bound_of_52 : AlwaysNear 52 → ⊥
  -- two zeros whose exact angle is π/4; the definition's is near the float angle
  pub two_zeros_at_a_quarter : Within 45 (atan2 F64.zero F64.zero) false quarter → ⊥
  pub two_zeros : (s t : Bool) (e d : ℤ) → Within 45 (atan2 (fin s 0 e) (fin t 0 d)) s (exact_of t 0 e 0 d)
  -- a turn sum that is weak below 2^-60 only: of a float sum of 2^-53 the exact one is 0
  pub mark_of_60 : Decides 60 48 → ⊥
  -- the sign promised from the first partial sums on
  pub from_the_first_ends : Decides 30 0 → ⊥
  -- a turn sum that leaves out the last turn, by X, Y, Z; that of all turns is the definition's
  pub last_turn_left_out : ((l : List Float) (n : ℕ) → (turns_of (n - 1) l n).0 ≡ total F64.zero (turn_pairs l n)) → ⊥
  pub of_all_turns : (l : List Float) (n : ℕ) → turns_of n l n ≡ turn_sum l n
  -- one whose sines and cosines are exchanged
  pub sine_for_cosine : ((l : List Float) (n : ℕ) → (turn_sum l n).0 ≡ total F64.zero (exchanged (turn_pairs l n))) → ⊥
  -- a mark `reversed` that says that the list was kept: area 1 is reversed, and its exact sum above 0
  pub reversed_for_kept : ((l ps ns : List Float) (cs : List ℕ) (h : Header) → (build_outcome Plain l ps ns cs).answer ≡ loop h → h.state ≡ Ring → h.weak ≡ false
      → h.reversed ≡ true → SumBelow l (opened_count l)) → ⊥
  -- a direction by the exact sum of every loop that is steady, whatever its state: EMPTY is kept, and the sum of no turns is 0
  pub of_every_state : ((l ps ns : List Float) (cs : List ℕ) (h : Header) → (build_outcome Plain l ps ns cs).answer ≡ loop h → h.weak ≡ false → Directed l h) → ⊥
