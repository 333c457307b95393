-- One number and one output buffer: what a contract says of both leaves no second outcome. Assumes nothing.
use Prim.Native.Nat.{ℕ}
use mathlib.Core.Path.{◌≡◌, sym, ap, ◌∙◌}
use mathlib.Core.List.{List}
use Rattle.bytes_loop.specs.Outcome.{Outcome, outcome}

pub one_outcome : {A : Type 0} {x : Outcome A} (n m : ℕ) (out also : List A) → outcome n out ≡ x → outcome m also ≡ x → (n ≡ m) × (out ≡ also)
one_outcome n m out also p q = (ap (λ (l : Outcome _). l.number) (p ∙ sym q), ap (λ (l : Outcome _). l.out) (p ∙ sym q))
