-- `relate` refuses a pair exactly for what one of the loops is refused for, with 11 where their modes differ, or with 7 where each lies in the other. Assumes
-- nothing.
use Prim.Native.Nat.{ℕ, suc, ◌<◌}
use mathlib.Core.Path.{◌≡◌, refl, ap, subst}
use mathlib.Core.Bool.{true, false}
use mathlib.Core.List.{List}
use native.Mathlib.Omega.{arith}
use lib.Ieee.{Float}
use Rattle.judge.specs.Why.{Then, stops, goes_on_lem}
use Rattle.loop_header.specs.declared.Header.{Header}
use Rattle.loop_ask.specs.Answers.{Told, refused, answer}
use Rattle.loop_ask.specs.Why.{PairWhy}
use Rattle.loop_relate.specs.Relations.{relate_fault, relate_answer}
use Rattle.loop_relate.specs.Why.{RelateWhy, loops, modes, seven, Exact}
use Rattle.loop_relate.proofs.Modes.{ModesWhy, alike, unlike, fault_exact}
use Rattle.loop_relate.proofs.Sevens.{seven_only, seven_given}
use Rattle.loop_relate.proofs.Ways.{code, Way, refusal, equal, full, caps_apart, crossing, points, way}

module _ (h : Header) (ps ns : List Float) (cs : List ℕ) (o : Header) (qs ms : List Float) (ds : List ℕ) where
  number : Told → ℕ
  number (refused k) = k
  number (answer n) = 0

  answered : (n k : ℕ) → n < 10 → answer n ≡ refused k → ⊥
  answered n k l e = omega (arith, ap code e)

  fault_why : (k : ℕ) → Then (PairWhy h ps ns cs o qs ms ds) (ModesWhy h.mode o.mode) k → 0 < k → RelateWhy h ps ns cs o qs ms ds k
  fault_why _ (stops w) l = loops w
  fault_why _ (goes_on_lem z (alike e)) l = absurd (omega arith)
  fault_why _ (goes_on_lem z (unlike d)) l = modes z d

  why_of : (k : ℕ) (t : Told) → Way h ps ns cs o qs ms ds t → relate_answer h ps ns cs o qs ms ds ≡ t → t ≡ refused k → (0 < k) × RelateWhy h ps ns cs o qs ms ds k
  unfolding number
  why_of k _ (refusal j f) r e =
      let q : suc j ≡ k = ap number e in
      subst (λ (x : ℕ). (0 < x) × RelateWhy h ps ns cs o qs ms ds x) q (omega arith, fault_why (suc j) ((fault_exact h ps ns cs o qs ms ds).given_why (suc j) f) (omega arith))
  why_of k _ equal r e = absurd (answered 5 k (omega arith) e)
  why_of k _ (full f s) r e = absurd (answered 3 k (omega arith) e)
  why_of k _ (caps_apart m c) r e = absurd (answered 0 k (omega arith) e)
  why_of k _ crossing r e = absurd (answered 2 k (omega arith) e)
  why_of k _ (points t true true c q i j) r e =
      let q : 7 ≡ k = ap number e in
      subst (λ (x : ℕ). (0 < x) × RelateWhy h ps ns cs o qs ms ds x) q (omega arith, seven (seven_only h ps ns cs o qs ms ds r))
  why_of k _ (points t true false c q i j) r e = absurd (answered 4 k (omega arith) e)
  why_of k _ (points t false true c q i j) r e = absurd (answered 3 k (omega arith) e)
  why_of k _ (points true false false c q i j) r e = absurd (answered 1 k (omega arith) e)
  why_of k _ (points false false false c q i j) r e = absurd (answered 0 k (omega arith) e)

  refused_first : (k : ℕ) → relate_fault h ps ns cs o qs ms ds ≡ suc k → relate_answer h ps ns cs o qs ms ds ≡ refused (suc k)
  unfolding relate_answer
  refused_first k f = rw f

  given_of : (k : ℕ) → 0 < k → RelateWhy h ps ns cs o qs ms ds k → relate_answer h ps ns cs o qs ms ds ≡ refused k
  given_of _ l (loops {k} w) = refused_first k ((fault_exact h ps ns cs o qs ms ds).why_given (suc k) (stops w))
  given_of _ l (modes z d) = refused_first 10 ((fault_exact h ps ns cs o qs ms ds).why_given 11 (goes_on_lem z (unlike d)))
  given_of _ l (seven s) = seven_given h ps ns cs o qs ms ds s

  pub exact : Exact h ps ns cs o qs ms ds
  exact = record { relate = record { given_why = λ k e. why_of k _ (way h ps ns cs o qs ms ds) refl e; why_given = given_of } }
