use Rattle.cpa_report_json.specs.Fits.{StepFits}
use Rattle.cpa_report_json.proofs.Chains.{next, ended, lone, two_small}
use Rattle.cpa_report_json.proofs.Takings.{one_fits_more}
use Rattle.cpa_report_json.proofs.lines.steps_of.Goals as goal

pub returns-in_default-split_first-clause-made : goal.returns-in_default-split_first-clause-made
returns-in_default-split_first-clause-made c steps is =
    absurd (lone steps c.steps.found c.steps.rest.now c.in-Some.more.now c.in-Some.pivot.now
    (c.steps.invariant.0 steps is) c.in-Some.ensures.cases.0
    c.in_default-split_first.ensures.cases)

pub steps-preserved : goal.steps-preserved
steps-preserved c = (
  λ steps is. rw c.in_ok-push.ensures.ok
      (next steps c.steps.found c.steps.rest.now c.in-Some.more.now
      c.in-Some-split_first.behind.now c.in-Some.pivot.now c.in-Some-split_first.clause.now
      (c.steps.invariant.0 steps is) c.in-Some.ensures.cases.0
      c.in-Some-split_first.ensures.cases.0),
  λ small.
      let all = c.steps.invariant.1 small in
      let two =
      two_small c.steps.rest.now c.in-Some.more.now c.in-Some-split_first.behind.now
      c.in-Some.pivot.now c.in-Some-split_first.clause.now c.in-Some.ensures.cases.0
      c.in-Some-split_first.ensures.cases.0 all.1 in (
        rw c.in_ok-push.ensures.ok
            (one_fits_more StepFits c.steps.found _ all.0 (two.0, two.1)),
        two.2,
      ),
)

pub returns-clause-made : goal.returns-clause-made
returns-clause-made c steps is =
    ended steps c.steps.found c.steps.rest.now (c.steps.invariant.0 steps is)
    c.in_default.ensures.cases
