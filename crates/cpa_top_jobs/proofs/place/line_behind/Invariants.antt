use Rattle.std.proofs.Common.{◌≡◌, ◌+◌, ◌≤◌, take}
use Rattle.cpa_top_jobs.specs.Lines.{line_behind}
use Rattle.cpa_top_jobs.proofs.place.line_behind.Given as goal

abbrev pub invariant-loop-byte : goal.invariant-loop-byte
invariant-loop-byte l =
    (l.line ≡ line_behind (take l.byte-index l.text)) × (l.line ≤ l.byte-index + 1)
