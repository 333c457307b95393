-- A refusal's number is not 0, which stands for none: so an answer is a refusal exactly if its number is above 0.
use Rattle.std.proofs.Common.{◌≡◌, ℕ, Bool, ltb, [], ◌∷◌, get_or, is_err, Result, Ok, Err, refl, sym, ap, ◌∙◌, arith}
use borrow.Author.Tests.{lt-ltb}
use Rattle.judge.specs.declared.Refusal.{Refusal}
use Rattle.judge.specs.declared.Refusal.TheVariants.{Shape, TooMany, NotFinite, OffRange, NoRoom, UnknownClass, EachInside, NoEar, NoRing, TwoModes}
use Rattle.judge.specs.Refusals.{number, number_of}

pub not_none : (r : Refusal) → number r ≡ 0 → ⊥
not_none r e = absurd (cc e)

is_err_above : {T : Type 0} (x : Result T Refusal) → is_err x ≡ ltb 0 (number_of x)
is_err_above (Ok t) = refl
is_err_above (Err r) = sym (lt-ltb 0 (number r) (omega arith))

-- as a loop asks it: of a number that is the answer's
pub is_err_refused : {T : Type 0} {b : Bool} {k : ℕ} (x : Result T Refusal) → b ≡ is_err x → number_of x ≡ k → b ≡ ltb 0 k
is_err_refused x e n = e ∙ (is_err_above x ∙ ap (ltb 0) n)

-- no two refusals have one number: each is found again from its own
abbrev pub named : ℕ → Refusal
named k = get_or (TwoModes ∷ Shape ∷ TooMany ∷ NotFinite ∷ OffRange ∷ NoRoom ∷ UnknownClass ∷ EachInside ∷ NoEar ∷ NoRing ∷ []) k TwoModes

pub named_number : (r : Refusal) → named (number r) ≡ r
named_number Shape = refl
named_number TooMany = refl
named_number NotFinite = refl
named_number OffRange = refl
named_number NoRoom = refl
named_number UnknownClass = refl
named_number EachInside = refl
named_number NoEar = refl
named_number NoRing = refl
named_number TwoModes = refl
