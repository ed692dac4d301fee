use Rattle.std.proofs.Common.{ltb, ltb-true, ltb-false, arith, rules}
use Rattle.std.proofs.lemmas.List.Sorted.{IsPartitionPoint-from_clause, IsPartitionedBy-ltb}
use Rattle.cpa_model.specs.declared.automaton.Edge.{Edge}
use Rattle.cpa_model.specs.Automata.{rank_of}
use Rattle.cpa_interp.proofs.Picking.{if_none, no_rank, unranked}
use Rattle.cpa_interp.proofs.edges.with_rank.Goals as goal

pub returns-in_err-edge-clause-none : goal.returns-in_err-edge-clause-none
returns-in_err-edge-clause-none c =
    let parted =
    IsPartitionedBy-ltb (λ (e : Edge). rank_of e.act) _ c.args.rank c.requires in
    let point =
    IsPartitionPoint-from_clause (λ (e : Edge). ltb (rank_of e.act) c.args.rank) _ _
    c.partition_point.ensures.partitioned parted (λ a r q k. search rules) in
    let past = c.in_err-edge.ensures.lookup.3 in
    if_none c.from_residual.result
    (no_rank c.args.edges.now c.partition_point.result c.args.rank c.requires
    (λ k d inside less. ltb-true _ _ (point.0 k d (omega arith) less))
    (λ d inside. absurd (omega (arith, inside, past))))

pub returns-clause-none : goal.returns-clause-none
returns-clause-none c =
    let parted =
    IsPartitionedBy-ltb (λ (e : Edge). rank_of e.act) _ c.args.rank c.requires in
    let point =
    IsPartitionPoint-from_clause (λ (e : Edge). ltb (rank_of e.act) c.args.rank) _ _
    c.partition_point.ensures.partitioned parted (λ a r q k. search rules) in
    let at = c.in_ok-edge.ensures.lookup.1 in
    unranked c.then_some.result c.args.edges.now c.partition_point.result c.args.rank
    c.in_ok-edge.edge c.rank_of.result c.requires
    (λ k d inside less. ltb-true _ _ (point.0 k d (omega arith) less))
    (λ k d inside more. ltb-false _ _ (point.1 k d more inside))
    at c.rank_of.ensures c.then_some.ensures
