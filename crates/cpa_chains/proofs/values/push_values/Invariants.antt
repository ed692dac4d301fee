use Rattle.std.proofs.Common.{◌≡◌, drop}
use Rattle.cpa_chains.specs.Partials.{values_behind}
use Rattle.cpa_chains.proofs.values.push_values.Given as goal

abbrev pub invariant-loop-partial : goal.invariant-loop-partial
invariant-loop-partial l =
    values_behind l.known.items (drop l.partial-index l.partials)
    ≡ values_behind l.initial.known.items l.partials
