use Rattle.std.proofs.Common.{◌≡◌, ◌++◌, map, drop}
use Rattle.toml.specs.View.{items_view}
use Rattle.cpa_config.specs.Values.{texts_in}
use Rattle.cpa_config.proofs.listing.texts_in.Given as goal

abbrev pub invariant-loop-item : goal.invariant-loop-item
invariant-loop-item l =
    map (λ name. name.now) l.names.items ++ texts_in (items_view (drop l.item-index l.items))
    ≡ texts_in (items_view l.items)
