use Rattle.std.proofs.Common.{List, sym, subst}
use Rattle.cpa_composite.specs.Components.{Component}
use Rattle.cpa_composite.specs.Composites.{components}
use Rattle.cpa_engine.specs.declared.answers.Answer.{Answer}
use Rattle.cpa_engine.specs.declared.search.Came.{Came}
use Rattle.cpa_engine.specs.Answers.{IsAnswer}
use Rattle.cpa_engine.specs.Searches.{IsCome, IsSpared, rounds_left}
use Rattle.cpa_engine.proofs.Ending.{done_proves, done_spares, turns_answer, turns_spared}
use Rattle.cpa_engine.proofs.analysing.answer.Goals as goal

pub returns-in-Safe-clause-answer : goal.returns-in-Safe-clause-answer
returns-in-Safe-clause-answer g c =
    let cfa = c.args.cfa.now in
    let now = components c.loop-search.composite in
    let config = c.args.config.now in
    let s = c.round.new.search in
    let come = subst (λ (k : Came). IsCome cfa now config
    (rounds_left config c.loop-search.search) s k) c.in-Safe.is c.in_ok-came.ensures.come in
    subst (λ (cs : List Component). IsAnswer cfa cs config c.safe.result)
    c.loop-search.invariant.kept
    (subst (λ (a : Answer). IsAnswer cfa now config a) (sym c.safe.ensures)
    (done_proves cfa now config s come))

pub returns-in-Safe-clause-spared : goal.returns-in-Safe-clause-spared
returns-in-Safe-clause-spared g c =
    let cfa = c.args.cfa.now in
    let now = components c.loop-search.composite in
    let config = c.args.config.now in
    let s = c.round.new.search in
    let come = subst (λ (k : Came). IsCome cfa now config
    (rounds_left config c.loop-search.search) s k) c.in-Safe.is c.in_ok-came.ensures.come in
    subst (λ (cs : List Component). IsSpared cfa cs config c.safe.result)
    c.loop-search.invariant.kept
    (subst (λ (a : Answer). IsSpared cfa now config a) (sym c.safe.ensures)
    (done_spares cfa now config s come))

pub returns-in-Spent-clause-answer : goal.returns-in-Spent-clause-answer
returns-in-Spent-clause-answer g c =
    let cfa = c.args.cfa.now in
    let now = components c.loop-search.composite in
    let config = c.args.config.now in
    let s = c.round.new.search in
    let come = subst (λ (k : Came). IsCome cfa now config
    (rounds_left config c.loop-search.search) s k) c.in-Spent.is c.in_ok-came.ensures.come in
    subst (λ (cs : List Component). IsAnswer cfa cs config c.spent.result)
    c.loop-search.invariant.kept
    (subst (λ (a : Answer). IsAnswer cfa now config a) (sym c.spent.ensures)
    (turns_answer cfa now config s come))

pub returns-in-Spent-clause-spared : goal.returns-in-Spent-clause-spared
returns-in-Spent-clause-spared g c =
    let cfa = c.args.cfa.now in
    let now = components c.loop-search.composite in
    let config = c.args.config.now in
    let s = c.round.new.search in
    let come = subst (λ (k : Came). IsCome cfa now config
    (rounds_left config c.loop-search.search) s k) c.in-Spent.is c.in_ok-came.ensures.come in
    subst (λ (cs : List Component). IsSpared cfa cs config c.spent.result)
    c.loop-search.invariant.kept
    (subst (λ (a : Answer). IsSpared cfa now config a) (sym c.spent.ensures)
    (turns_spared cfa now config s come))
