-- What was copied and what is left is the whole; what was written beside it has low expressions.
use Rattle.std.proofs.Common.{◌≡◌, ◌++◌, [], length}
use Rattle.cpa_report.specs.Heights.{LowersToken, Along}
use Rattle.cpa_report.proofs.lowering.lowered.Given as goal

abbrev pub invariant-tokens : goal.invariant-tokens
invariant-tokens l =
    (l.initial.reader ≡ l.same.tokens ++ l.reader)
    × Along LowersToken l.same.tokens l.low.tokens × (l.same.before ≡ []) × (l.low.before ≡ [])

abbrev pub decreases-tokens : goal.decreases-tokens
decreases-tokens l = length l.reader
