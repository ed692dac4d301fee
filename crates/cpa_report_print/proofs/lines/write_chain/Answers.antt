use Rattle.std.proofs.Common.{◌∷◌, [], map, ap}
use Rattle.std.specs.List.{flat_map}
use Rattle.std.proofs.lemmas.List.{drop_all}
use Rattle.cpa_cnf.specs.declared.formula.Step.{Step}
use Rattle.serde_json.specs.View.{items_of}
use Rattle.cpa_report_print.specs.Reports.{number_data}
use Rattle.cpa_report_print.proofs.Writing.{one, both, closed}
use Rattle.cpa_report_print.proofs.lines.write_chain.Goals as goal

pub returns : goal.returns
returns c =
    let none = drop_all c.loop-step.step-index c.args.steps.now c.loop-step-test.false in
    let i = c.loop-step.invariant in
    closed (both (one c.begin_array.ensures.room.0 c.in_ok-begin_array.ensures.ok)
    c.in_ok-write.ensures)
    (record { before = i.before; tokens = i.tokens })
    (ap (λ steps. items_of
    (map number_data (flat_map (λ (step : Step). step.pivot ∷ step.clause ∷ []) steps))) none)
    c.end_array.ensures
