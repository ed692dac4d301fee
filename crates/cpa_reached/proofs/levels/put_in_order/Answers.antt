use Rattle.std.proofs.lemmas.List.Filters.{dedup_is}
use Rattle.cpa_reached.proofs.Choosing.{ascending_dedup, same_members}
use Rattle.cpa_reached.proofs.levels.put_in_order.Goals as goal

pub returns-clause-ascend : goal.returns-clause-ascend
returns-clause-ascend c =
    rw (dedup_is _ _ _ c.dedup.ensures.filtered)
    (ascending_dedup _ c.in_ok-sort.ensures.sorted)

pub returns-clause-same : goal.returns-clause-same
returns-clause-same c = λ n.
    rw (dedup_is _ _ _ c.dedup.ensures.filtered)
    (same_members _ _ c.in_ok-sort.ensures.permutation n)
