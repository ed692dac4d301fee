use Rattle.cpa_recheck_obligations.specs.Obligations.{obligations}
use Rattle.cpa_recheck_obligations.specs.Spots.{as_one}
use Rattle.cpa_recheck.specs.Checks.{entries_in}
use Rattle.cpa_recheck.proofs.Shown.{part_of}
use Rattle.cpa_recheck.proofs.rechecking.recheck.Goals as goal

pub returns : goal.returns
returns g c =
    let cfa = c.args.cfa.now in
    let budget = c.args.budget.now in
    let es = entries_in c.args.report.now.body in
    c.said.ensures cfa es budget
    (part_of cfa es budget 0 (obligations cfa (as_one es)) c.in_ok-walked.walked.part
    c.in_ok-walked.ensures.walk)
