use Rattle.std.proofs.Common.{leb, leb-true, leb-false, arith, rules}
use Rattle.std.proofs.lemmas.List.Sorted.{IsPartitionPoint-from_clause, IsPartitionedBy-leb}
use Rattle.cpa_model.specs.declared.automaton.Edge.{Edge}
use Rattle.cpa_model.proofs.graph.first_after.Goals as goal

pub returns-clause-after : goal.returns-clause-after
returns-clause-after c =
    let parted = IsPartitionedBy-leb (λ (e : Edge). e.from) _ c.args.point c.requires in
    let point =
    IsPartitionPoint-from_clause (λ (e : Edge). leb e.from c.args.point) _ _
    c.partition_point.ensures.partitioned parted (λ a r q k. search rules) in
    λ k d h less. leb-false _ _ (point.1 k d h less)

pub returns-clause-upto : goal.returns-clause-upto
returns-clause-upto c =
    let parted = IsPartitionedBy-leb (λ (e : Edge). e.from) _ c.args.point c.requires in
    let point =
    IsPartitionPoint-from_clause (λ (e : Edge). leb e.from c.args.point) _ _
    c.partition_point.ensures.partitioned parted (λ a r q k. search rules) in
    λ k d h. leb-true _ _ (point.0 k d (omega arith) h)
