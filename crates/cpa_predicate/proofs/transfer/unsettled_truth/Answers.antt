-- What is found of the form is known of the predicate.
use Rattle.std.specs.Prelude.{Option, Some, Bool, true, false}
use Rattle.std.proofs.lemmas.Result.{IfOk-weaker}
use Rattle.cpa_predicate.specs.lemmas.Spending.{caused}
use Rattle.cpa_predicate.proofs.TransferLemmas.{asked_of, found_is, some_beyond}
use Rattle.cpa_predicate.proofs.WitnessLemmas.{lacking_refutes}
use Rattle.cpa_predicate.proofs.transfer.unsettled_truth.Goals as goal

pub found_truth-requires-clause-asked : goal.found_truth-requires-clause-asked
found_truth-requires-clause-asked c =
    asked_of c.args.cfa.now c.args.elem.now c.args.edge.now c.args.step.now c.requires.step
    c.args.p.now c.requires.predicate c.forms_are_runs.ensures c.steps_take_inputs.ensures
    c.failing_is_not_holding.ensures

pub found_truth-requires-clause-lacks_true : goal.found_truth-requires-clause-lacks_true
found_truth-requires-clause-lacks_true c = λ lacks none.
    lacking_refutes c.args.cfa.now c.args.elem.now c.args.edge.now c.args.p.now true
    c.args.behind.now c.requires.behind (c.some_lacks-lacks_true.ensures lacks)
    (found_is c.args.cfa.now c.args.elem.now c.args.edge.now c.args.step.now c.requires.step
    c.args.p.now c.requires.predicate c.forms_are_runs.ensures c.steps_take_inputs.ensures
    c.failing_is_not_holding.ensures c.args.asker.now c.args.asker.now (Some true) none)

pub found_truth-requires-clause-lacks_false : goal.found_truth-requires-clause-lacks_false
found_truth-requires-clause-lacks_false c = λ lacks none.
    lacking_refutes c.args.cfa.now c.args.elem.now c.args.edge.now c.args.p.now false
    c.args.behind.now c.requires.behind (c.some_lacks-lacks_false.ensures lacks)
    (found_is c.args.cfa.now c.args.elem.now c.args.edge.now c.args.step.now c.requires.step
    c.args.p.now c.requires.predicate c.forms_are_runs.ensures c.steps_take_inputs.ensures
    c.failing_is_not_holding.ensures c.args.asker.now c.args.asker.now (Some false) none)

pub returns-then-lacks_false-clause-truth : goal.returns-then-lacks_false-clause-truth
returns-then-lacks_false-clause-truth c =
    IfOk-weaker _ _ _ (λ (truth : Option Bool) found.
    found_is c.args.cfa.now c.args.elem.now c.args.edge.now c.args.step.now c.requires.step
    c.args.p.now c.requires.predicate c.forms_are_runs.ensures c.steps_take_inputs.ensures
    c.failing_is_not_holding.ensures c.args.asker.now c.found_truth.new.asker truth found)
    c.found_truth.ensures.found

pub returns-then-lacks_false-clause-spends : goal.returns-then-lacks_false-clause-spends
returns-then-lacks_false-clause-spends c =
    caused _ _ _ _ c.found_truth.ensures.spends
    (some_beyond c.args.cfa.now c.args.elem.now c.args.edge.now c.args.step.now c.requires.step
    c.args.p.now c.requires.predicate c.forms_are_runs.ensures c.steps_take_inputs.ensures
    c.failing_is_not_holding.ensures c.args.asker.now)
