-- The expressions so far may be wanted.
use Rattle.std.proofs.Common.{take}
use Rattle.std.specs.List.{AllByRecursion}
use Rattle.cpa_query.specs.Queries.{IsAsked}
use Rattle.cases_reader.proofs.queries.are_asked.Given as goal

abbrev pub invariant-loop-one : goal.invariant-loop-one
invariant-loop-one l = AllByRecursion (λ one. IsAsked l.cells one.0) (take l.one-index l.wanted)
