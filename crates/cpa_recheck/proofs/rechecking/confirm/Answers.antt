use Rattle.cpa_recheck.specs.declared.checking.Keeping.TheVariants.{Nothing}
use Rattle.cpa_recheck.specs.Checks.{entries_in}
use Rattle.cpa_recheck.proofs.rechecking.confirm.Goals as goal

pub returns : goal.returns
returns g c =
    c.confirmed.ensures c.args.cfa.now (entries_in c.args.report.now.body) c.args.budget.now Nothing
    c.in_ok-walked.ensures
