use Rattle.std.proofs.Common.{◌∙◌, ap, arith}
use Rattle.toml.specs.Data.{string}
use Rattle.cpa_config.proofs.Picks.{name_pushed}
use Rattle.cpa_config.proofs.reading.items_of_names.Goals as goal

pub loop-name-preserved : goal.loop-name-preserved
loop-name-preserved c =
    rw c.in_ok-push.ensures.items
    (name_pushed c.args.names.now c.loop-name.name-index c.name-item.result c.loop-name.items.items
    c.in_ok-string.field-0 (omega arith) c.name-item.is
    (c.in_ok-string.ensures ∙ ap string c.as_str.ensures.value) c.loop-name.invariant)
