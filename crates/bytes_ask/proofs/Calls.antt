-- A refusal comes before an answer's number. Assumes nothing.
use Prim.Native.Nat.{ℕ, zero, suc}
use mathlib.Core.Path.{◌≡◌, refl, ◌∙◌}
use Rattle.loop_ask.specs.Answers.{Told, refused, judged}
use Rattle.bytes_loop.specs.Outcome.{refusal_of}
use Rattle.bytes_ask.specs.Ask.{number_of}

hit : (g : ℕ) (t : Told) → (g ≡ 0 → ⊥) → refused g ≡ judged g t
hit zero t h = absurd (h refl)
hit (suc k) t h = refl

module _ {f g : ℕ} (t : Told) (e : f ≡ g) where
  pub gone_number : {r : ℕ} → (f ≡ 0 → ⊥) → r ≡ refusal_of f → r ≡ number_of (judged g t)
  gone_number h q = rw (q, e, ← hit g t (λ z. h (e ∙ z)))

  pub went_number : {x : ℕ} {u : Told} → f ≡ 0 → u ≡ t → x ≡ number_of u → x ≡ number_of (judged g t)
  went_number z p q = rw (← e, z, ← p) q
