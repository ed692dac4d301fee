use Rattle.std.proofs.Common.{◌≡◌, map, take}
use Rattle.std.specs.String.{string_bytes}
use Rattle.toml.specs.View.{items_view}
use Rattle.cpa_config.specs.Configurations.{items_of_names}
use Rattle.cpa_config.proofs.reading.items_of_names.Given as goal

abbrev pub invariant-loop-name : goal.invariant-loop-name
invariant-loop-name l =
    items_view l.items.items ≡ items_of_names (map string_bytes (take l.name-index l.names))
