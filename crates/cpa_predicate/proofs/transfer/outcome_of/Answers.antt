-- Where the step's query has no model, the edge leads nowhere; else the predicates come behind it.
use Rattle.std.proofs.Common.{Bool, List, sym, ◌∙◌, subst}
use Rattle.std.specs.Prelude.{Option, Some}
use Rattle.std.proofs.lemmas.Option.{same_Some}
use Rattle.std.specs.List.{AllByRecursion}
use Rattle.cpa_model.specs.declared.automaton.Edge.{Edge}
use Rattle.cpa_predicate.specs.Questions.{IsOpen}
use Rattle.cpa_predicate.specs.Steps.{IsAfter}
use Rattle.cpa_predicate.specs.Transfer.{IsOutcome}
use Rattle.cpa_predicate.proofs.TransferLemmas.{all_spent, leads_nowhere}
use Rattle.cpa_predicate.proofs.TransferLemmas.{leads_on, settled}
use Rattle.cpa_predicate.proofs.transfer.outcome_of.Goals as goal

pub returns-in_err-truths-clause-spends : goal.returns-in_err-truths-clause-spends
returns-in_err-truths-clause-spends c = λ g at.
    all_spent c.args.asker.now c.leads_nowhere.new.asker c.args.cfa.now c.args.elem.now g
    c.args.preds.now c.in_ok-step.step (c.in_ok-step.ensures g at) c.truths_after.new.asker
    c.edge-along.result.now (same_Some _ _ (sym c.edge-along.ensures ∙ at))
    c.leads_nowhere.ensures.spends
    c.truths_after.ensures.spends

pub returns-then-never-clause-outcome : goal.returns-then-never-clause-outcome
returns-then-never-clause-outcome c = λ g at.
    let cfa = c.args.cfa.now in
    let e = c.args.elem.now in
    leads_nowhere c.args.asker.now c.leads_nowhere.new.asker cfa e g c.args.preds.now
    c.in_ok-step.step (c.in_ok-step.ensures g at) c.requires.automaton
    (c.edges_are_sound.ensures cfa c.args.edge g c.requires.automaton at).act c.requires.elem
    c.forms_are_runs.ensures c.steps_take_inputs.ensures
    (c.in_ok-never.ensures.yes c.if-never.true)

pub returns-clause-outcome : goal.returns-clause-outcome
returns-clause-outcome c = λ g at.
    let cfa = c.args.cfa.now in
    let e = c.args.elem.now in
    leads_on c.args.asker.now c.leads_nowhere.new.asker cfa e g c.args.preds.now
    c.in_ok-step.step (c.in_ok-step.ensures g at) c.requires.automaton
    (c.edges_are_sound.ensures cfa c.args.edge g c.requires.automaton at).act c.requires.elem
    c.forms_are_runs.ensures c.steps_take_inputs.ensures c.truths_after.new.asker
    c.edge-along.result.now c.in_ok-truths.truths (same_Some _ _ (sym c.edge-along.ensures ∙ at))
    c.leads_nowhere.ensures.spends
    c.truths_after.ensures.spends (c.in_ok-never.ensures.no c.if-never.false)
    c.in_ok-truths.ensures.truths

pub returns-clause-spends : goal.returns-clause-spends
returns-clause-spends c = λ g at.
    all_spent c.args.asker.now c.leads_nowhere.new.asker c.args.cfa.now c.args.elem.now g
    c.args.preds.now c.in_ok-step.step (c.in_ok-step.ensures g at) c.truths_after.new.asker
    c.edge-along.result.now (same_Some _ _ (sym c.edge-along.ensures ∙ at))
    c.leads_nowhere.ensures.spends
    c.truths_after.ensures.spends

pub returns-then-settled-clause-outcome : goal.returns-then-settled-clause-outcome
returns-then-settled-clause-outcome c =
    let cfa = c.args.cfa.now in
    let e = c.args.elem.now in
    let along = c.edge-along.result.now in
    let found = c.is_settled-settled.ensures c.if-settled.true in
    let O = λ (g : Edge). IsOpen c.args.asker.now c.args.asker.now cfa e g in
    λ g at.
    subst (λ (truths : List (Option Bool)). IsOutcome (O g) cfa e g c.args.preds.now (Some truths))
    (sym c.new-none.ensures)
    (settled (O g) cfa e g along c.args.preds.now c.as_slice-behind.result.now
    (same_Some _ _ (sym c.edge-along.ensures ∙ at)) found.0 found.1
    (subst (AllByRecursion (IsAfter cfa e along)) (sym c.as_slice-behind.ensures.value)
    c.in_ok-stores.ensures))
