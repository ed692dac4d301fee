-- The precision by what came of the cuts, and the count of stops.
use Rattle.std.proofs.Common.{sym, subst}
use Rattle.cpa_iface.specs.Laws.{RefineLaws}
use Rattle.cpa_craig.specs.Craigs.{craigs}
use Rattle.cpa_craig.proofs.RefiningLemmas.{refined-laws, refined_is}
use Rattle.cpa_craig.proofs.craig.CraigAnalysis.refine.Goals as goal

pub refined_by-requires-clause-along : goal.refined_by-requires-clause-along
refined_by-requires-clause-along c =
    (c.budgets-budgets.result.learnt, c.budgets-budgets.result.gates, c.in_ok-found.ensures)

pub returns-clause-laws : goal.returns-clause-laws
returns-clause-laws c =
    let cfa = c.args.cfa.now in
    let path = c.args.path.now in
    let p = c.args.precision.now in
    subst (RefineLaws craigs cfa path p) (sym c.in_ok-refined.ensures)
    (refined-laws c.carried_are_expressions.ensures cfa path p c.budgets-budgets.result.learnt
    c.budgets-budgets.result.gates c.in_ok-found.found c.requires.automaton c.requires.precision
    c.in_ok-found.ensures)

pub returns-clause-refined : goal.returns-clause-refined
returns-clause-refined c =
    refined_is c.args.cfa.now c.args.path.now c.self.inside.predicate c.args.self.now
    c.budgets-budgets.result c.self.inside.stops c.saturating_add-self-inside.result
    c.stops_in-stops.result
    c.in_ok-found.found c.args.precision.now c.in_ok-refined.refined c.budgets-budgets.ensures
    c.self.view_is c.in_ok-found.ensures c.in_ok-refined.ensures c.stops_in-stops.ensures
    c.saturating_add-self-inside.ensures
