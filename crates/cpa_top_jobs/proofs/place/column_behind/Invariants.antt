use Rattle.std.proofs.Common.{◌≡◌, ◌+◌, ◌≤◌, take}
use Rattle.cpa_top_jobs.specs.Lines.{column_behind}
use Rattle.cpa_top_jobs.proofs.place.column_behind.Given as goal

abbrev pub invariant-loop-byte : goal.invariant-loop-byte
invariant-loop-byte l =
    (l.column ≡ column_behind (take l.byte-index l.text)) × (l.column ≤ l.byte-index + 1)
