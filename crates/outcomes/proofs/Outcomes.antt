-- How a contract that is an equation is shown to leave one outcome. Assumes nothing.
use mathlib.Core.Path.{◌≡◌, sym, ap, ◌∙◌}
use Rattle.outcomes.specs.Outcomes.{OneToOne}

-- an answer that can be found again from what is told of it
pub by_back : {A B : Type 0} (told : A → B) (back : B → A) → ((x : A) → back (told x) ≡ x) → OneToOne told
by_back told back is x y e = sym (is x) ∙ ap back e ∙ is y
