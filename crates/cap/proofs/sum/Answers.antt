-- The positions are added from the first on.
use Rattle.std.proofs.Common.{rules, tests}
use Rattle.laws.proofs.Folds.{fold_below}
use Rattle.cap.specs.Caps.{plus_next}
use Rattle.cap.proofs.sum.Goals as goal

pub returns : goal.returns
returns c = fold_below (plus_next c.args.ps.now) c.args.n _ _ c.fold.ensures.ran (λ s i b q k. search (rules, tests))
