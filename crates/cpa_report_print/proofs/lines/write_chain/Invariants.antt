-- What stands and what is left is the whole.
use Rattle.std.proofs.Common.{◌≡◌, ◌++◌, ◌∷◌, [], List, map, drop}
use Rattle.std.specs.List.{flat_map}
use Rattle.json.specs.Token.{Token}
use Rattle.serde_json.specs.View.{items_of}
use Rattle.serde_json.specs.Data.{Items}
use Rattle.cpa_report_print.specs.Reports.{number_data}
use Rattle.cpa_report_print.specs.Tokens.{items_onto}
use Rattle.cpa_cnf.specs.declared.formula.Step.{Step}
use Rattle.cpa_report_print.proofs.lines.write_chain.Given as goal

abbrev numbers : List Step → Items
numbers steps = items_of (map number_data (flat_map (λ step. step.pivot ∷ step.clause ∷ []) steps))

abbrev pub invariant-loop-step : goal.invariant-loop-step
invariant-loop-step l = record {
  before : l.writer.before ≡ l.initial.writer.before;
  tokens :
      (rest : List Token)
      → l.writer.tokens ++ items_onto (numbers (drop l.step-index l.steps)) rest
      ≡ l.initial.writer.tokens ++ items_onto (numbers l.steps) rest;
}
