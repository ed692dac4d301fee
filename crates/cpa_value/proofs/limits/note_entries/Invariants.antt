-- What the entries so far give each cell.
use Rattle.std.proofs.Common.{drop}
use Rattle.cpa_value.proofs.LimitLemmas.{Notes}
use Rattle.cpa_value.specs.Limits.{seen_along}
use Rattle.cpa_value.proofs.limits.note_entries.Given as goal

abbrev pub invariant-loop-entry : goal.invariant-loop-entry
invariant-loop-entry l = Notes (λ cell. seen_along cell l.place l.reached)
    (λ cell. seen_along cell l.place (drop l.entry-index l.reached)) l.fn.values l.values
