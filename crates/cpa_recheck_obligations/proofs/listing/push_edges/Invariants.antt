use Rattle.std.proofs.Common.{◌≡◌, ◌++◌, map, drop}
use Rattle.cpa_recheck_obligations.specs.declared.listing.Obligation.TheVariants.{Leads}
use Rattle.cpa_recheck_obligations.specs.Obligations.{edges_of, leaves, places_from}
use Rattle.cpa_recheck_obligations.proofs.listing.push_edges.Given as goal

abbrev pub invariant-loop-edge : goal.invariant-loop-edge
invariant-loop-edge l =
    l.list.items ++ map (Leads l.entry)
    (places_from (leaves l.spot) l.edge (drop l.edge l.cfa.edges))
    ≡ l.initial.list.items ++ map (Leads l.entry) (edges_of l.cfa l.spot)
