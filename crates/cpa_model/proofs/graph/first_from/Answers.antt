use Rattle.std.proofs.Common.{ltb, ltb-true, ltb-false, arith, rules}
use Rattle.std.proofs.lemmas.List.Sorted.{IsPartitionPoint-from_clause, IsPartitionedBy-ltb}
use Rattle.cpa_model.specs.declared.automaton.Edge.{Edge}
use Rattle.cpa_model.proofs.graph.first_from.Goals as goal

pub returns-clause-before : goal.returns-clause-before
returns-clause-before c =
    let parted = IsPartitionedBy-ltb (λ (e : Edge). e.from) _ c.args.point c.requires in
    let point =
    IsPartitionPoint-from_clause (λ (e : Edge). ltb e.from c.args.point) _ _
    c.partition_point.ensures.partitioned parted (λ a r q k. search rules) in
    λ k d h. ltb-true _ _ (point.0 k d (omega arith) h)

pub returns-clause-from : goal.returns-clause-from
returns-clause-from c =
    let parted = IsPartitionedBy-ltb (λ (e : Edge). e.from) _ c.args.point c.requires in
    let point =
    IsPartitionPoint-from_clause (λ (e : Edge). ltb e.from c.args.point) _ _
    c.partition_point.ensures.partitioned parted (λ a r q k. search rules) in
    λ k d h less. ltb-false _ _ (point.1 k d h less)
