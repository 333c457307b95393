-- The numbers that a record names are judged by two searches in order: for a zero, and for one that was not met; else they are fine.
use Rattle.std.proofs.Common.{◌≡◌, ℕ, List, length, ap, ◌∙◌}
use Rattle.laws.specs.Loop.{first_at}
use Rattle.scene_notes.specs.Noted.{is_past, first_past}
use Rattle.scene_notes.proofs.Tables.{zero_judged, unmet_judged, fine_judged}
use Rattle.scene_notes.proofs.judge_numbers.Goals as goal

-- there are as many indexes as numbers
as_many : (met : ℕ) (indexes numbers : List ℕ) {i : ℕ} → i ≡ first_past met indexes → length indexes ≡ length numbers → i ≡ first_at (is_past met indexes) (length numbers) 0
unfolding first_past
as_many met indexes numbers e f = e ∙ ap (λ (n : ℕ). first_at (is_past met indexes) n 0) f

pub returns-then-zero-numbers : goal.returns-then-zero-numbers
returns-then-zero-numbers c = zero_judged _ _ _ c.first_zero-zero.ensures c.if-zero-numbers.true

pub returns-then-unmet-numbers : goal.returns-then-unmet-numbers
returns-then-unmet-numbers c =
    unmet_judged _ _ _ c.first_zero-zero.ensures c.if-zero-numbers.false (as_many c.args.met c.args.indexes.now c.args.numbers.now c.first_unmet-unmet.ensures c.requires.2) c.if-unmet-numbers.true

pub returns : goal.returns
returns c =
    fine_judged _ _ _ c.first_zero-zero.ensures c.if-zero-numbers.false (as_many c.args.met c.args.indexes.now c.args.numbers.now c.first_unmet-unmet.ensures c.requires.2) c.if-unmet-numbers.false
