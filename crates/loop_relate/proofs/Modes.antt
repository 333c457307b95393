-- 11 exactly where neither loop is refused and their modes differ; and what is known where nothing is refused: the modes are one. Assumes nothing.
use Prim.Native.Nat.{ℕ, ◌≤◌}
use mathlib.Core.Path.{◌≡◌, refl, sym, ap}
use mathlib.Core.Bool.{false, false≢true}
use mathlib.Core.List.{List}
use mathlib.Core.Logic.{⊎_elim}
use native.Mathlib.Omega.{arith}
use lib.Ieee.{Float}
use Rattle.laws.proofs.Firsts.{first_zero_lem, first_given}
use Rattle.cap.specs.declared.Cap.{Cap}
use Rattle.minor_arc.specs.declared.Mode.{Mode}
use Rattle.minor_arc.specs.declared.Mode.TheVariants.{Plain, Long}
use Rattle.minor_arc.specs.Arcs.{mode_code}
use Rattle.judge.specs.Why.{Exactly, Then}
use Rattle.judge.proofs.Exactly.{exactly, then_exact}
use Rattle.loop_header.specs.declared.Header.{Header}
use Rattle.loop_header.proofs.Most.{then_most, loop_most}
use Rattle.loop_ask.specs.Questions.{pair_fault}
use Rattle.loop_ask.specs.Why.{PairWhy}
use Rattle.loop_ask.proofs.Exact as Ask
use Rattle.loop_relate.specs.Relations.{modes_fault, relate_fault, caps_meet}

-- ---- of the modes alone
pub data ModesWhy (m n : Mode) : ℕ → Type 0 where
  alike : m ≡ n → ModesWhy m n 0
  unlike : (m ≡ n → ⊥) → ModesWhy m n 11

pub with_itself : (m : Mode) → modes_fault m m ≡ 0
with_itself Plain = refl
with_itself Long = refl

given_why : (m n : Mode) → ModesWhy m n (modes_fault m n)
given_why Plain Plain = alike refl
given_why Plain Long = unlike (λ e. omega (arith, ap mode_code e))
given_why Long Plain = unlike (λ e. omega (arith, ap mode_code e))
given_why Long Long = alike refl

why_given : (m n : Mode) (k : ℕ) → ModesWhy m n k → modes_fault m n ≡ k
why_given m n _ (alike e) = rw e (with_itself n)
why_given Plain Plain _ (unlike d) = absurd (d refl)
why_given Plain Long _ (unlike d) = refl
why_given Long Plain _ (unlike d) = refl
why_given Long Long _ (unlike d) = absurd (d refl)

modes_exact : (m n : Mode) → Exactly (modes_fault m n) (ModesWhy m n)
modes_exact m n = exactly (ModesWhy m n) (given_why m n) (why_given m n)

one_mode : (m n : Mode) → modes_fault m n ≡ 0 → m ≡ n
one_mode Plain Plain e = refl
one_mode Plain Long e = absurd (omega (arith, e))
one_mode Long Plain e = absurd (omega (arith, e))
one_mode Long Long e = refl

not_seven : (m n : Mode) → modes_fault m n ≡ 7 → ⊥
not_seven Plain Plain e = omega (arith, e)
not_seven Plain Long e = omega (arith, e)
not_seven Long Plain e = omega (arith, e)
not_seven Long Long e = omega (arith, e)

-- caps are found apart in plain mode alone
pub asked_plain : (m : Mode) (c d : Cap) → caps_meet m c d ≡ false → m ≡ Plain
asked_plain Plain c d e = refl
asked_plain Long c d e = absurd (false≢true (sym e))

-- ---- of two loops
module _ (h : Header) (ps ns : List Float) (cs : List ℕ) (o : Header) (qs ms : List Float) (ds : List ℕ) where
  pub fault_exact : Exactly (relate_fault h ps ns cs o qs ms ds) (Then (PairWhy h ps ns cs o qs ms ds) (ModesWhy h.mode o.mode))
  unfolding relate_fault
  fault_exact = then_exact ((Ask.exact h ps ns cs).pair o qs ms ds) (λ z. modes_exact h.mode o.mode)

  -- neither loop is refused, and the modes are one
  pub unrefused : relate_fault h ps ns cs o qs ms ds ≡ 0 → (pair_fault h ps ns cs o qs ms ds ≡ 0) × (h.mode ≡ o.mode)
  unfolding relate_fault
  unrefused e = let z = first_zero_lem _ _ e in (z.0, one_mode h.mode o.mode z.1)

  -- no pair is refused with 7 for what its loops and their modes are: the loops' own numbers are at most 6
  pub never_seven : relate_fault h ps ns cs o qs ms ds ≡ 7 → ⊥
  unfolding relate_fault
  never_seven e =
      let most : pair_fault h ps ns cs o qs ms ds ≤ 6 = then_most 6 (loop_most h ps ns cs) (loop_most o qs ms ds) _ (((Ask.exact h ps ns cs).pair o qs ms ds).given_why _ refl) in
      ⊎_elim (λ p. omega (arith, most, p)) (λ p. not_seven h.mode o.mode p.1) (first_given (pair_fault h ps ns cs o qs ms ds) (modes_fault h.mode o.mode) 6 e)
