use Rattle.cpa_top_verdict.proofs.Verdicts.{told_false}
use Rattle.cpa_top_verdict.proofs.laws.false_calls_the_error.Goals as goal

pub returns-clause-answer : goal.returns-clause-answer
returns-clause-answer c = λ P cfa cs config inputs steps well of found. found.calls P well of

pub returns-clause-told : goal.returns-clause-told
returns-clause-told c = told_false
