use Rattle.std.proofs.Common.{map, take}
use Rattle.std.specs.List.{AllZip}
use Rattle.std.specs.String.{string_bytes}
use Rattle.toml.specs.View.{table_view}
use Rattle.cpa_config.specs.Configurations.{IsPick}
use Rattle.cpa_config.specs.Rules.{at}
use Rattle.cpa_config.proofs.picking.picks_of.Given as goal

abbrev pub invariant-loop-name : goal.invariant-loop-name
invariant-loop-name l =
    AllZip (IsPick (map string_bytes l.handed) (at (table_view l.table)))
    (map (λ name. name.now) (take l.name-index l.name-items)) l.picks
