use Rattle.std.proofs.Common.{◌≡◌, ◌++◌, ◌∷◌, drop}
use Rattle.cpa_recheck_obligations.specs.declared.listing.Obligation.TheVariants.{Begins}
use Rattle.cpa_recheck_obligations.specs.Obligations.{own_from}
use Rattle.cpa_recheck_obligations.proofs.listing.list_of.Given as goal

abbrev pub invariant-loop-entry : goal.invariant-loop-entry
invariant-loop-entry l =
    l.list.items ++ own_from l.cfa l.entry (drop l.entry l.spots)
    ≡ Begins ∷ own_from l.cfa 0 l.spots
