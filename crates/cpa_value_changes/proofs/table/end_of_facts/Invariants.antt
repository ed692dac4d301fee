-- The facts that are left end where all do.
use Rattle.std.proofs.Common.{◌≡◌, drop}
use Rattle.cpa_value_changes.specs.Tables.{end_in}
use Rattle.cpa_value_changes.proofs.table.end_of_facts.Given as goal

abbrev pub invariant-loop-fact : goal.invariant-loop-fact
invariant-loop-fact l =
    end_in l.count l.end (drop l.fact-index l.facts) ≡ end_in l.count l.low l.facts
