use Rattle.cpa_recheck.proofs.Shown.{part_of}
use Rattle.cpa_recheck.proofs.checking.check_run.Goals as goal

pub returns : goal.returns
returns c = λ es are.
    part_of c.args.cfa.now es c.args.budget.now c.args.first c.args.run.now c.in_ok-part.part
    (c.in_ok-part.ensures es are)
