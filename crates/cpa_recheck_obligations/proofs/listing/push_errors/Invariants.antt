use Rattle.std.proofs.Common.{◌≡◌, ◌++◌, map}
use Rattle.std.specs.List.{filter}
use Rattle.std.specs.Slice.Iter.{iter_rest}
use Rattle.cpa_recheck_obligations.specs.declared.listing.Obligation.TheVariants.{Avoids}
use Rattle.cpa_recheck_obligations.specs.Obligations.{errors_of}
use Rattle.cpa_recheck_obligations.specs.Spots.{permits}
use Rattle.cpa_recheck_obligations.proofs.listing.push_errors.Given as goal

abbrev pub invariant-loop-point : goal.invariant-loop-point
invariant-loop-point l =
    l.list.items ++ map (Avoids l.entry)
    (filter (permits l.spot.point) (iter_rest l.point-iterator))
    ≡ l.initial.list.items ++ map (Avoids l.entry) (errors_of l.cfa l.spot)
