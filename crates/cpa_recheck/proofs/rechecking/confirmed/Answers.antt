use Rattle.std.proofs.Common.{subst}
use Rattle.cpa_recheck_obligations.specs.Obligations.{obligations}
use Rattle.cpa_recheck_obligations.specs.Spots.{as_one}
use Rattle.cpa_recheck.specs.Checks.{IsWalk}
use Rattle.cpa_recheck.proofs.Shown.{are_met, from_zero}
use Rattle.cpa_recheck.proofs.rechecking.confirmed.Goals as goal

pub returns-in-Whole : goal.returns-in-Whole
returns-in-Whole c = λ cfa es budget keeping walked.
    are_met cfa es budget c.args.walked.count walked.count
    (subst (IsWalk cfa es budget keeping 0 (obligations cfa (as_one es))) c.in-Whole.is
    walked.walk).0

pub returns-in-Stopped : goal.returns-in-Stopped
returns-in-Stopped c = λ cfa es budget keeping walked.
    let os = obligations cfa (as_one es) in
    from_zero cfa es budget os c.in-Stopped.obligation c.in-Stopped.why
    (subst (IsWalk cfa es budget keeping 0 os) c.in-Stopped.is walked.walk)
