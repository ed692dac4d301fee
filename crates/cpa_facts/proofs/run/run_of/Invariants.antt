-- The run so far and the facts that are left give what all facts give.
use Rattle.std.proofs.Common.{◌≡◌, drop}
use Rattle.cpa_facts.specs.Runs.{run_of, run_on}
use Rattle.cpa_facts.proofs.run.run_of.Given as goal

abbrev pub invariant-loop-fact : goal.invariant-loop-fact
invariant-loop-fact l =
    (run_on l.run (drop l.fact-index l.facts) ≡ run_of l.facts) × (l.run.count ≡ l.fact-index)
