use Rattle.cpa_top_verdict.proofs.Safe.{safe_report}
use Rattle.cpa_top_verdict.proofs.Verdicts.{told_true}
use Rattle.cpa_top_verdict.proofs.laws.true_is_safe.Goals as goal

pub returns-clause-answer : goal.returns-clause-answer
returns-clause-answer c = λ P cfa cs config entries well of proves.
    safe_report P cfa cs config entries
    (λ rows covers. let cover = (c.covers_are_safe.ensures.agree P cfa rows of).0 covers in
    (cover, c.covers_are_safe.ensures.safe P rows well cover))
    of proves

pub returns-clause-told : goal.returns-clause-told
returns-clause-told c = λ P cs config told well is same.
    told_true P cs config told is
    (λ rows covers.
    let cover = (c.covers_are_safe.ensures.agree P is.automaton rows is.is).0 covers in
    (cover, c.covers_are_safe.ensures.safe P rows well cover))
    same
