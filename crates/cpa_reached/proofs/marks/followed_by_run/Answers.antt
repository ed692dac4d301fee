use Rattle.std.proofs.Common.{◌≡◌, ◌+◌, ◌∙◌, ap, arith}
use Rattle.cpa_reached.specs.Marks.{print_of}
use Rattle.cpa_reached.proofs.Runs.{run_counted}
use Rattle.cpa_reached.proofs.marks.followed_by_run.Goals as goal

pub returns-in-Some-clause-counts : goal.returns-in-Some-clause-counts
returns-in-Some-clause-counts c = λ s facts is all counts.
    let own = c.run_at-own.result in
    let sum = c.in-Some.ensures in
    let both : own.count + c.args.run.count ≡ c.in-Some.count = omega (arith, sum) in
    run_counted s facts c.args.run own.print own.first own.count is all c.run_at-own.ensures.next
    (c.run_at-own.ensures.counts s counts)
    ∙ ap (print_of s.store.values own.first) both
