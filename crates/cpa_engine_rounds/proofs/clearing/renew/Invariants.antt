use Rattle.std.proofs.Common.{◌≡◌, take, map}
use Rattle.cpa_engine_rounds.specs.Opening.{with_newest}
use Rattle.cpa_engine_rounds.proofs.clearing.renew.Given as goal

abbrev pub invariant-loop-number : goal.invariant-loop-number
invariant-loop-number l = record {
  live : l.reached.live
      ≡ map (with_newest (take l.number-index l.found) l.newest) l.initial.reached.live;
  journal : l.reached.journal ≡ l.initial.reached.journal;
  next : l.reached.next ≡ l.initial.reached.next;
  places : l.reached.places ≡ l.initial.reached.places;
}
