use Rattle.std.proofs.Common.{sym, subst, map, take, ◌+◌}
use Rattle.std.specs.List.{AllZip}
use Rattle.std.specs.String.{string_bytes}
use Rattle.toml.specs.View.{table_view}
use Rattle.cpa_config.specs.Configurations.{IsPick}
use Rattle.cpa_config.specs.Rules.{at}
use Rattle.cpa_config.proofs.Picks.{zip_more}
use Rattle.cpa_config.proofs.picking.picks_of.Goals as goal

pub loop-name-preserved : goal.loop-name-preserved
loop-name-preserved c =
    let R = IsPick (map string_bytes c.args.handed.now) (at (table_view c.args.table.now)) in
    let names = c.deref-name-items.result.now in
    subst (AllZip R (map (λ name. name.now) (take (c.loop-name.name-index + 1) names)))
    (sym c.in_ok-push-in-Some.ensures.ok)
    (zip_more R (λ name. name.now) names c.loop-name.picks c.loop-name.name-index _
    c.in-Some.pick c.loop-name-test.true c.loop-name.invariant c.in-Some.ensures)
