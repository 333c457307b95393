-- For every input one output: what the program leaves in the lent bytes and answers is fixed by the contract of `run` itself. Assumes nothing.
use Prim.Native.Nat.{ℕ}
use mathlib.Core.Path.{◌≡◌, sym, ap, ◌∙◌}
use mathlib.Core.List.{List}
use Rattle.outcomes.specs.Outcomes.{One}
use Rattle.scene_run.proofs.run as Run

pub run_unique : One Run.Kinds.ps Run.Kinds.r Run.Reads.Post
run_unique κs a x y v w p q = (p.0.next_offset ∙ sym q.0.next_offset, ap (λ (l : List ℕ). (tt, (l, tt))) (p.0.text_there ∙ sym q.0.text_there))
