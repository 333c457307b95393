-- Refusal 7 of `relate`, exactly when it is given: each loop lies in the other, and nothing that is asked before decides. Assumes nothing.
use Prim.Native.Nat.{ℕ, zero, suc}
use mathlib.Core.Path.{◌≡◌, refl, ap}
use mathlib.Core.Bool.{Bool, true, false}
use mathlib.Core.List.{List}
use native.Mathlib.Omega.{arith}
use lib.Ieee.{Float}
use borrow.Author.Tests.{not-false}
use Rattle.loop_header.specs.declared.Header.{Header}
use Rattle.loop_ask.specs.Answers.{Told, refused, answer, judged}
use Rattle.loop_relate.specs.Why.{Seven}
use Rattle.loop_relate.specs.Relations.{by_containment, edges_if, by_edges, equal_if, disjoint_if, by_caps, full_if, by_states, relate_fault, relate_answer}
use Rattle.loop_relate.proofs.Modes.{with_itself, unrefused, never_seven}

-- ---- each step that leads to 7
kind : Told → ℕ
kind (refused k) = 0
kind (answer n) = 1

never : (n : ℕ) → answer n ≡ refused 7 → ⊥
unfolding kind
never n e = let h : ◌≡◌ {A = ℕ} 1 0 = ap kind e in omega arith

number : Told → ℕ
number (refused k) = k
number (answer n) = 0

after_judge : (k : ℕ) (t : Told) → (k ≡ 7 → ⊥) → judged k t ≡ refused 7 → (k ≡ 0) × (t ≡ refused 7)
unfolding number
after_judge zero t h e = (refl, e)
after_judge (suc k) t h e = absurd (h (ap number e))

after_full : (a b : Bool) (t : Told) → full_if a b t ≡ refused 7 → (a ≡ false) × (t ≡ refused 7)
after_full true true t e = absurd (never 5 e)
after_full true false t e = absurd (never 3 e)
after_full false b t e = (refl, e)

after_equal : (b : Bool) (t : Told) → equal_if b t ≡ refused 7 → (b ≡ false) × (t ≡ refused 7)
after_equal true t e = absurd (never 5 e)
after_equal false t e = (refl, e)

after_caps : (b : Bool) (t : Told) → disjoint_if b t ≡ refused 7 → (b ≡ false) × (t ≡ refused 7)
after_caps true t e = absurd (never 0 e)
after_caps false t e = (refl, e)

after_edges : (b : Bool) (t : Told) → edges_if b t ≡ refused 7 → (b ≡ false) × (t ≡ refused 7)
after_edges true t e = absurd (never 2 e)
after_edges false t e = (refl, e)

both_in : (touched a b : Bool) → by_containment touched a b ≡ refused 7 → (a ≡ true) × (b ≡ true)
both_in touched true true e = (refl, refl)
both_in touched true false e = absurd (never 4 e)
both_in touched false true e = absurd (never 3 e)
both_in true false false e = absurd (never 1 e)
both_in false false false e = absurd (never 0 e)

module _ (h : Header) (ps ns : List Float) (cs : List ℕ) (o : Header) (qs ms : List Float) (ds : List ℕ) where
  pub seven_only : relate_answer h ps ns cs o qs ms ds ≡ refused 7 → Seven h ps ns cs o qs ms ds
  unfolding relate_answer by_states by_caps by_edges
  seven_only e =
      let a = after_judge _ _ (never_seven h ps ns cs o qs ms ds) e in
      let fine = unrefused h ps ns cs o qs ms ds a.0 in
      let b = after_full _ _ _ a.1 in
      let c = after_equal _ _ b.1 in
      let d = after_caps _ _ c.1 in
      let f = after_equal _ _ d.1 in
      let g = after_edges _ _ f.1 in
      let i = both_in _ _ _ g.1 in
      record {
        accepted = fine.0;
        one_mode = fine.1;
        not_full = b.0;
        not_empty = c.0;
        meeting = not-false _ d.0;
        different = f.0;
        uncrossed = g.0;
        first_in = i.0;
        second_in = i.1;
      }

  pub seven_given : Seven h ps ns cs o qs ms ds → relate_answer h ps ns cs o qs ms ds ≡ refused 7
  unfolding relate_fault relate_answer by_states by_caps by_edges
  seven_given s = simp (s.accepted, ← s.one_mode, with_itself h.mode, s.not_full, s.not_empty, s.meeting, s.different, s.uncrossed, s.first_in, s.second_in)
