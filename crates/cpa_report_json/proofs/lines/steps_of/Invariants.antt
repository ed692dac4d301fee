use Rattle.std.proofs.Common.{◌≡◌, List, length}
use Rattle.std.specs.List.{AllByRecursion}
use Rattle.cpa_cnf.specs.declared.formula.Step.{Step}
use Rattle.cpa_report_json.specs.Fits.{AreSmall, StepFits}
use Rattle.cpa_report_json.specs.Taking.{numbers_of}
use Rattle.cpa_report_json.proofs.Chains.{Left}
use Rattle.cpa_report_json.proofs.lines.steps_of.Given as goal

abbrev pub invariant-steps : goal.invariant-steps
invariant-steps l =
    ((steps : List Step) → l.numbers ≡ numbers_of steps → Left steps l.found l.rest)
    × (AreSmall l.numbers → AllByRecursion StepFits l.found × AreSmall l.rest)

abbrev pub decreases-steps : goal.decreases-steps
decreases-steps l = length l.rest
