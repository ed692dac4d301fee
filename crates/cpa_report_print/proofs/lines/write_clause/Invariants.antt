-- What stands and what is left is the whole.
use Rattle.std.proofs.Common.{◌≡◌, ◌++◌, List, map, drop}
use Rattle.json.specs.Token.{Token}
use Rattle.serde_json.specs.View.{items_of}
use Rattle.cpa_report_print.specs.Reports.{literal_data}
use Rattle.cpa_report_print.specs.Tokens.{items_onto}
use Rattle.cpa_report_print.proofs.lines.write_clause.Given as goal

abbrev pub invariant-loop-literal : goal.invariant-loop-literal
invariant-loop-literal l = record {
  before : l.writer.before ≡ l.initial.writer.before;
  tokens :
      (rest : List Token)
      → l.writer.tokens
      ++ items_onto (items_of (map literal_data (drop l.literal-index l.literal-items))) rest
      ≡ l.initial.writer.tokens ++ items_onto (items_of (map literal_data l.literal-items)) rest;
}
