use Rattle.std.proofs.Common.{◌≡◌, ◌++◌}
use Rattle.std.proofs.Common.{drop}
use Rattle.std.specs.List.{filter_map}
use Rattle.c_types_rules.specs.Items.{body_name, item_arity}
use Rattle.c_types_names.specs.Tables.{IsSurveyed}
use Rattle.c_types_names.proofs.survey.survey_items.Given as goal

abbrev pub invariant-loop-item : goal.invariant-loop-item
invariant-loop-item l = record {
  surveyed : IsSurveyed l.parts;
  bodies : l.parts.bodies ++ filter_map body_name (drop l.item-index l.items)
      ≡ filter_map body_name l.fn.items;
  arities : l.parts.arities.items ++ filter_map item_arity (drop l.item-index l.items)
      ≡ filter_map item_arity l.fn.items;
}
