-- Each cell of the run stands at its own place.
use Rattle.std.proofs.Common.{rules, ◌-◌, arith}
use Rattle.std.proofs.lemmas.Bool.{leb-true}
use Rattle.cpa_value_tracked.proofs.TrackedLemmas.{listed_own}
use Rattle.cpa_value_tracked.proofs.tracked.Tracked.has_run.Goals as goal

pub returns-then-first-own-clause-tracked : goal.returns-then-first-own-clause-tracked
returns-then-first-own-clause-tracked c few cell from below =
    let less = leb-true c.args.count (c.own_places-own.result - c.args.first) few in
    listed_own c.args.self.now.tracked c.own_places-own.result cell (search rules)
    (omega (arith, less, below))
