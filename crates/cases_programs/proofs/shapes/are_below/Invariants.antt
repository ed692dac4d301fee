-- The numbers so far are below the limit.
use Rattle.std.proofs.Common.{◌<◌, take}
use Rattle.std.specs.List.{AllByRecursion}
use Rattle.cases_programs.proofs.shapes.are_below.Given as goal

abbrev pub invariant-loop-number : goal.invariant-loop-number
invariant-loop-number l = AllByRecursion (λ number. number < l.limit)
    (take l.number-index l.numbers)
