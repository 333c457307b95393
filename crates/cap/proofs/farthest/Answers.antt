-- The chords are compared from the first position's on.
use Rattle.std.proofs.Common.{rules, tests}
use Rattle.laws.proofs.Folds.{fold_below}
use Rattle.cap.specs.Caps.{farther}
use Rattle.cap.proofs.farthest.Goals as goal

pub returns : goal.returns
returns c = fold_below (farther c.args.ps.now c.args.centre) c.args.n _ _ c.fold.ensures.ran (λ most i b q k. search (rules, tests))
