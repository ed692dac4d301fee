-- What lasts from round to round.
use Rattle.std.proofs.Common.{◌≡◌, []}
use Rattle.cpa_composite.specs.Composites.{components}
use Rattle.cpa_engine.specs.Searches.{IsSearch, rounds_left}
use Rattle.cpa_engine.proofs.analysing.answer.Given as goal

abbrev pub invariant-loop-search : goal.invariant-loop-search
invariant-loop-search g l = record {
  search : IsSearch l.cfa (components l.composite) l.config l.search;
  journal : l.search.reached.journal ≡ [];
  kept : components l.composite ≡ components l.fn.composite;
}

abbrev pub decreases-loop-search : goal.decreases-loop-search
decreases-loop-search g l = rounds_left l.config l.search
