use Rattle.std.proofs.Common.{◌≡◌, drop}
use Rattle.cpa_engine_rounds.specs.Errors.{first_error}
use Rattle.cpa_engine_rounds.proofs.errors.first_error.Given as goal

abbrev pub invariant-loop-entry : goal.invariant-loop-entry
invariant-loop-entry l = first_error l.cfa l.entries ≡ first_error l.cfa (drop l.entry-index
    l.entries)
