use Rattle.std.proofs.Common.{◌≡◌, map}
use Rattle.toml.specs.View.{members_view}
use Rattle.cpa_config.specs.Rules.{merge_rule}
use Rattle.cpa_config.proofs.rules.merge_rule.Given as goal

abbrev pub invariant-loop-name : goal.invariant-loop-name
invariant-loop-name l =
    merge_rule (map (λ name. name.now) l.listed) (members_view l.name-iterator)
    ≡ merge_rule (map (λ name. name.now) l.listed) (members_view l.merge.entries)
