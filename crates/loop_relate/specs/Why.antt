-- What `relate` refuses, and for what, in the words of SCOPE 25 and 56 and the order of SCOPE 26. Proved in proofs/Exact.antt. Definitions only.
use Rattle.std.specs.Prelude.{ℕ, suc, ◌≡◌, true, false, ◌&&◌, List, Float}
use Rattle.judge.specs.Why.{Refuses}
use Rattle.loop_header.specs.declared.Header.{Header}
use Rattle.ring_pair.specs.Contacts.{is_crossed, contact_of}
use Rattle.loop_ask.specs.Answers.{refused}
use Rattle.loop_ask.specs.Questions.{full_state, pair_fault, equivalent_loops}
use Rattle.loop_ask.specs.Places.{cleared_cap}
use Rattle.loop_ask.specs.Why.{PairWhy}
use Rattle.loop_relate.specs.Relations.{empty_state, lies_in, caps_meet, relate_answer}

module _ (h : Header) (ps ns : List Float) (cs : List ℕ) (o : Header) (qs ms : List Float) (ds : List ℕ) where
  -- 7: neither loop is refused, their modes are one, the first is not full, not both are empty, the caps meet (in long mode none is asked), the loops are not
  -- equivalent, no edges cross, and each lies in the other
  pub record Seven : Type 0 where
    pub accepted : pair_fault h ps ns cs o qs ms ds ≡ 0
    pub one_mode : h.mode ≡ o.mode
    pub not_full : full_state h.state ≡ false
    pub not_empty : empty_state h.state && empty_state o.state ≡ false
    pub meeting : caps_meet h.mode (cleared_cap h.cap) (cleared_cap o.cap) ≡ true
    pub different : equivalent_loops h ps cs o qs ds ≡ false
    pub uncrossed : is_crossed (contact_of h.mode ps ns h.count qs ms o.count) ≡ false
    pub first_in : lies_in h ps o qs ms ≡ true
    pub second_in : lies_in o qs h ps ns ≡ true

  -- 1 to 4 and 6, for what the first loop is refused for or, where it is fine, the second; SCOPE 56: 11, where neither is refused and their modes differ,
  -- whatever their states; or 7
  pub data RelateWhy : ℕ → Type 0 where
    loops : {k : ℕ} → PairWhy h ps ns cs o qs ms ds (suc k) → RelateWhy (suc k)
    modes : PairWhy h ps ns cs o qs ms ds 0 → (h.mode ≡ o.mode → ⊥) → RelateWhy 11
    seven : Seven → RelateWhy 7

  -- SCOPE 25: each is given exactly when
  pub record Exact : Type 0 where
    pub relate : Refuses refused (relate_answer h ps ns cs o qs ms ds) RelateWhy
