-- No verdict before this one is that of the text.
use Rattle.std.proofs.Common.{take}
use Rattle.std.specs.List.{AllByRecursion}
use Rattle.cpa_report.proofs.Lines.{HasNone}
use Rattle.cpa_report.proofs.reading.has_verdict.Given as goal

abbrev pub invariant-loop-verdict : goal.invariant-loop-verdict
invariant-loop-verdict l =
    AllByRecursion (HasNone l.text) (take l.verdict-index l.verdict-items)
