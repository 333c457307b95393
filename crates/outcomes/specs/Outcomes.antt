-- SCOPE 27: that for each input one answer and one final state of the lent buffers meets a contract, of any function. Definitions only.
-- `Reads.Post` of a function is its own `ensures`, as the prover reads it; `Kinds.ps` and `Kinds.r` are its signature.
use Rattle.std.specs.Prelude.{ℕ, ◌≡◌, List}
use contract.Lifetimes.{Lfts}
use denote.Triple.Clauses.{Lasts, at_exit}
use borrow.Fn.Kinds.{ParamKind, ResultKind, Dens, res_t, ended_of, Out}

-- Two outcomes of one call that both meet the contract are the same. x and y are answers, v and w what the lent buffers hold at exit: of each `&mut`
-- parameter its last value, of any other nothing, for it is as it was. No function has a way to change anything else.
abbrev pub One : {n : ℕ} (ps : List (ParamKind n)) (r : ResultKind n) → Out n ps r → Type 0
One {n} ps r Post =
    (κs : Lfts n) (a : Dens κs ps) (x y : (res_t r κs).Denot) (v w : Lasts (ended_of n ps r) κs a)
    → Post κs a x (at_exit (ended_of n ps r) κs a v) → Post κs a y (at_exit (ended_of n ps r) κs a w) → (x ≡ y) × (v ≡ w)

-- SCOPE 27: no two answers have the same number and values
abbrev pub OneToOne : {A B : Type 0} → (A → B) → Type 0
OneToOne {A} told = (x y : A) → told x ≡ told y → x ≡ y

-- Whatever answer meets the contract, P holds of the arguments and of it.
abbrev pub EachAnswer : {n : ℕ} (ps : List (ParamKind n)) (r : ResultKind n) → Out n ps r → ((κs : Lfts n) → Dens κs ps → (res_t r κs).Denot → Type 0) → Type 0
EachAnswer {n} ps r Post P =
    (κs : Lfts n) (a : Dens κs ps) (x : (res_t r κs).Denot) (v : Lasts (ended_of n ps r) κs a) → Post κs a x (at_exit (ended_of n ps r) κs a v) → P κs a x
