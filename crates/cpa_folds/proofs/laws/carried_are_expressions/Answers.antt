use Rattle.cpa_folds.specs.CarriedLaws as the
use Rattle.cpa_folds.proofs.laws.carried_are_expressions.Goals as goal

pub returns : goal.returns
returns c = the.carried_are_expressions
