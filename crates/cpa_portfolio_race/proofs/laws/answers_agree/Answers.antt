use Rattle.cpa_portfolio_race.proofs.Agreeing.{agree}
use Rattle.cpa_portfolio_race.proofs.laws.answers_agree.Goals as goal

pub returns : goal.returns
returns c = λ cfa rows configs answers is are.
    agree cfa rows configs answers
    (λ P automaton entries well of covers.
    c.covers_are_safe.ensures.safe P entries well
    ((c.covers_are_safe.ensures.agree P automaton entries of).0 covers))
    is are
