-- The edges stand by the points that they leave, so two places part them.
use Rattle.std.proofs.Common.{List, length, ap, arith}
use Rattle.cpa_model.specs.declared.automaton.Edge.{Edge}
use Rattle.cpa_model.proofs.Edges.{few_edges, edges_by_from, first_to_last, stands_before}
use Rattle.cpa_model.proofs.Edges.{stands_between}
use Rattle.cpa_model.proofs.graph.leaving.Goals as goal

pub first_from-first-requires : goal.first_from-first-requires
first_from-first-requires c =
    rw c.as_slice-edges.ensures (edges_by_from c.args.cfa.now.edges c.requires.automaton.ordered)

pub first_after-last-requires : goal.first_after-last-requires
first_after-last-requires c =
    rw c.as_slice-edges.ensures (edges_by_from c.args.cfa.now.edges c.requires.automaton.ordered)

pub overflow_sub-result : goal.overflow_sub-result
overflow_sub-result c =
    let edges = c.args.cfa.now.edges in
    let before = rw c.as_slice-edges.ensures at c.first_from-first.ensures.before in
    let after = rw c.as_slice-edges.ensures at c.first_after-last.ensures.after in
    let bound = rw c.as_slice-edges.ensures at c.first_from-first.ensures.bound in
    first_to_last edges c.args.point c.first_from-first.result
    c.first_after-last.result bound before after

pub overflow_cast-result : goal.overflow_cast-result
overflow_cast-result c =
    let few = few_edges c.args.cfa.now c.requires in
    let same = ap (λ (xs : List Edge). length xs) c.as_slice-edges.ensures in
    let bound = c.first_from-first.ensures.bound in
    omega (arith, few, same, bound)

pub overflow_cast-result-2 : goal.overflow_cast-result-2
overflow_cast-result-2 c =
    let few = few_edges c.args.cfa.now c.requires in
    let same = ap (λ (xs : List Edge). length xs) c.as_slice-edges.ensures in
    let bound = c.first_after-last.ensures.bound in
    omega (arith, few, same, bound)

pub returns-clause-within : goal.returns-clause-within
returns-clause-within c =
    let same = ap (λ (xs : List Edge). length xs) c.as_slice-edges.ensures in
    let edges = c.args.cfa.now.edges in
    let before = rw c.as_slice-edges.ensures at c.first_from-first.ensures.before in
    let after = rw c.as_slice-edges.ensures at c.first_after-last.ensures.after in
    let bound = rw c.as_slice-edges.ensures at c.first_from-first.ensures.bound in
    let le =
    first_to_last edges c.args.point c.first_from-first.result
    c.first_after-last.result bound before after in
    let high = c.first_after-last.ensures.bound in
    omega (arith, same, le, high)

pub returns-clause-before : goal.returns-clause-before
returns-clause-before c =
    stands_before c.args.cfa.now.edges c.args.point c.first_from-first.result
    (rw c.as_slice-edges.ensures at c.first_from-first.ensures.before)
    (rw c.as_slice-edges.ensures at c.first_from-first.ensures.from)

pub returns-clause-leave : goal.returns-clause-leave
returns-clause-leave c =
    let edges = c.args.cfa.now.edges in
    let before = rw c.as_slice-edges.ensures at c.first_from-first.ensures.before in
    let after = rw c.as_slice-edges.ensures at c.first_after-last.ensures.after in
    let bound = rw c.as_slice-edges.ensures at c.first_from-first.ensures.bound in
    stands_between edges c.args.point c.first_from-first.result c.first_after-last.result
    (first_to_last edges c.args.point c.first_from-first.result
    c.first_after-last.result bound before after)
    before (rw c.as_slice-edges.ensures at c.first_from-first.ensures.from)
    (rw c.as_slice-edges.ensures at c.first_after-last.ensures.upto) after
