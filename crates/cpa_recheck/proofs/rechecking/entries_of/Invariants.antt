use Rattle.std.proofs.Common.{◌≡◌, map, take}
use Rattle.cpa_report_print.specs.declared.report.Listed.{Listed}
use Rattle.cpa_recheck_obligations.specs.Spots.{as_one}
use Rattle.cpa_recheck.proofs.rechecking.entries_of.Given as goal

abbrev pub invariant-loop-entry : goal.invariant-loop-entry
invariant-loop-entry l =
    l.entries.items ≡ as_one (map (λ (x : Listed). x.elems) (take l.entry-index l.listed))
