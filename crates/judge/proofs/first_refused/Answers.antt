-- The positions are searched from the first on for one that is refused.
use Rattle.std.proofs.Common.{unwrap_or, ap, ◌∙◌, arith, rules, tests}
use Rattle.laws.proofs.Loops.{first_at_le}
use Rattle.laws.proofs.Ranges.{find_below}
use Rattle.laws.proofs.Folds.{found_or_end}
use Rattle.judge.specs.Judge.{is_refused, first_refused}
use Rattle.judge.proofs.Numbers.{is_err_refused}
use Rattle.judge.proofs.first_refused.Goals as goal

pub returns : goal.returns
unfolding first_refused
returns c =
    let n = c.args.n in
    let p = is_refused c.args.ps.now in
    let least = first_at_le p n 0 in
    let e = find_below p n _ _ c.find.result c.find.ensures.ran (λ x b q k. search (rules, tests, is_err_refused)) in
    let value = c.unwrap_or.ensures ∙ ap (λ o. unwrap_or o n) e ∙ found_or_end _ n (omega arith) in
    record { value = value; upper_bound = omega (arith, value) }
