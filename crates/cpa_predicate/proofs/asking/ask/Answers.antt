-- What is kept of the query, and what is found out of it, answer the form.
use Rattle.std.proofs.Common.{subst}
use Rattle.std.proofs.lemmas.Result.{IfOk-weaker}
use Rattle.cpa_query.specs.declared.query.Query.{Query}
use Rattle.cpa_predicate.specs.declared.asking.Answer.{Answer}
use Rattle.cpa_predicate.specs.Questions.{IsSettledBy, IsAnswerTo}
use Rattle.cpa_predicate.proofs.FindingLemmas.{answered, kept_answers}
use Rattle.cpa_predicate.proofs.asking.ask.Goals as goal

pub returns-in-Some-clause-answered : goal.returns-in-Some-clause-answered
returns-in-Some-clause-answered c =
    kept_answers c.args.asker.now c.args.form.now c.in-Some.answer
    (subst (λ (q : Query). IsSettledBy q c.in-Some.answer) c.in_ok-query.ensures c.in-Some.ensures)

pub returns-in-None-clause-answered : goal.returns-in-None-clause-answered
returns-in-None-clause-answered c =
    IfOk-weaker _ _ _ (λ (answer : Answer) is.
    answered c.args.asker.now c.args.form.now answer
    (subst (λ (q : Query). IsAnswerTo q c.args.asker.now.learnt answer) c.in_ok-query.ensures is))
    c.find_out.ensures.answer
