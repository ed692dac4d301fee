-- One fact more, and all facts.
use Rattle.std.proofs.Common.{subst, sym, length}
use Rattle.cpa_value.proofs.CellLemmas.{Knows, knows_none, knows_more, knows_all}
use Rattle.cpa_value.proofs.cells.know_all.Goals as goal

pub loop-fact-init : goal.loop-fact-init
loop-fact-init c =
    let cells = c.args.cells.now in
    subst (λ fs. Knows (length cells) c.args.facts.now fs cells)
    (sym c.into_iter-fact-iterator.ensures.into_iter_gives.0)
    (knows_none c.args.facts.now cells c.requires)

pub loop-fact-preserved : goal.loop-fact-preserved
loop-fact-preserved c =
    knows_more (length c.args.cells.now) c.args.facts.now c.loop-fact.fact-iterator
    c.next.new.self c.in-Some.fact.now c.loop-fact.cells c.know.new.cells c.in-Some.ensures.steps
    c.loop-fact.invariant c.know.ensures.length c.know.ensures.values

pub returns : goal.returns
returns c =
    let n = length c.args.cells.now in
    knows_all n c.args.facts.now c.loop-fact.cells
    (subst (λ fs. Knows n c.args.facts.now fs c.loop-fact.cells) c.in-None.ensures.steps.0
    c.loop-fact.invariant)
