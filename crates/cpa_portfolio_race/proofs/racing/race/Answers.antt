use Rattle.std.proofs.lemmas.Result.{IfOk-weaker}
use Rattle.cpa_portfolio_race.proofs.racing.race.Goals as goal

pub returns-clause-agree : goal.returns-clause-agree
returns-clause-agree g c =
    IfOk-weaker c.answer_parts.result _ _
    (λ v are. c.answers_agree.ensures c.args.cfa.now _ _ v.items c.requires.automaton are)
    c.answer_parts.ensures
