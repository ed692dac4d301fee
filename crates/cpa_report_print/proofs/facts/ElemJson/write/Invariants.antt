-- What stands and what is left is the whole.
use Rattle.std.proofs.Common.{◌≡◌, ◌++◌, List, map}
use Rattle.json.specs.Token.{Token}
use Rattle.serde_json.specs.View.{items_of}
use Rattle.cpa_report_print.specs.Reports.{fact_data}
use Rattle.cpa_report_print.specs.Tokens.{items_onto}
use Rattle.cpa_report_print.proofs.facts.ElemJson.write.Given as goal

abbrev pub invariant-loop-fact : goal.invariant-loop-fact
invariant-loop-fact l = record {
  before : l.writer.before ≡ l.initial.writer.before;
  tokens :
      (rest : List Token)
      → l.writer.tokens ++ items_onto (items_of (map fact_data l.fact-iterator)) rest
      ≡ l.initial.writer.tokens ++ items_onto (items_of (map fact_data l.self.facts)) rest;
}
