use Rattle.std.proofs.Common.{ltb, ltb-true, arith, rules}
use Rattle.std.proofs.lemmas.List.Sorted.{IsPartitionPoint-from_clause, IsPartitionedBy-ltb}
use Rattle.cpa_iface.specs.declared.entries.Entry.{Entry}
use Rattle.cpa_engine_rounds.proofs.errors.first_from.Goals as goal

pub returns-clause-before : goal.returns-clause-before
returns-clause-before c =
    let parted = IsPartitionedBy-ltb (λ (e : Entry). e.number) _ c.args.number c.requires in
    let point = IsPartitionPoint-from_clause (λ (e : Entry). ltb e.number c.args.number) _ _
    c.partition_point.ensures.partitioned parted (λ a r q k. search rules) in
    λ k d h. ltb-true _ _ (point.0 k d (omega arith) h)
