use Rattle.std.proofs.Common.{◌≡◌, map}
use Rattle.std.specs.String.{string_bytes}
use Rattle.toml.specs.View.{members_view, table_view}
use Rattle.cpa_config.specs.Rules.{at, listed_in}
use Rattle.cpa_config.proofs.Firsts.{first_in, rules_in}
use Rattle.cpa_config.proofs.rules.first_fault.Given as goal

abbrev pub invariant-loop-key : goal.invariant-loop-key
invariant-loop-key l =
    let rules = rules_in (map string_bytes l.handed) (listed_in (at (table_view l.table))) in
    first_in rules (members_view l.key-iterator) ≡ first_in rules (members_view l.table.entries)
