use Rattle.std.proofs.Common.{◌≡◌, drop}
use Rattle.std.specs.List.{list_any}
use Rattle.c_types_rules.specs.Sound.{is_main}
use Rattle.c_types.proofs.entry.has_main.Given as goal

abbrev pub invariant-loop-item : goal.invariant-loop-item
invariant-loop-item l =
    list_any (is_main l.survey) (drop l.item-index l.items) ≡ list_any (is_main l.survey) l.items
