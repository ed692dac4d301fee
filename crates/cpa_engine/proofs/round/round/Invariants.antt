-- What a round keeps.
use Rattle.std.proofs.Common.{◌≡◌, length}
use Rattle.cpa_composite.specs.Composites.{components}
use Rattle.cpa_engine.specs.Searches.{IsSearch, rounds_left}
use Rattle.cpa_engine.proofs.round.round.Given as goal

abbrev pub invariant-loop-taken : goal.invariant-loop-taken
invariant-loop-taken g l = record {
  search : IsSearch l.cfa (components l.composite) l.config l.search;
  journal : length l.search.reached.journal ≡ l._taken;
  left : rounds_left l.config l.search ≡ rounds_left l.config l.initial.search;
  kept : components l.composite ≡ components l.initial.composite;
}
