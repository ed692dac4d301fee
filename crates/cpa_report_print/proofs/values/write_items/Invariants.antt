-- What stands and what is left is the whole.
use Rattle.std.proofs.Common.{◌≡◌, ◌++◌, List, map, drop}
use Rattle.json.specs.Token.{Token}
use Rattle.serde_json.specs.View.{items_of}
use Rattle.cpa_report_print.specs.Tokens.{items_onto}
use Rattle.cpa_report_print.proofs.values.write_items.Given as goal

abbrev pub invariant-loop-item : goal.invariant-loop-item
invariant-loop-item g l = record {
  before : l.writer.before ≡ l.initial.writer.before;
  tokens :
      (rest : List Token)
      → l.writer.tokens ++ items_onto
      (items_of (map g.T.Json.json (drop l.item-index l.items))) rest
      ≡ l.initial.writer.tokens ++ items_onto (items_of (map g.T.Json.json l.items)) rest;
}
