-- The cells up to the first that is read and not shared.
use Rattle.std.proofs.Common.{Option, ap, ◌∙◌, sym, subst, arith}
use Rattle.std.specs.Prelude.{unwrap_or}
use Rattle.cpa_model.specs.declared.automaton.Edge.{Edge}
use Rattle.cpa_folds.specs.Along.{acts_along}
use Rattle.cpa_interpolant_words.specs.Words.{IsShared}
use Rattle.cpa_interpolant_words.proofs.SharedCells.{inside_of, next_cell}
use Rattle.cpa_interpolant_words.proofs.reading.reads_shared.Goals as goal

pub loop-cell-preserved : goal.loop-cell-preserved
loop-cell-preserved c =
    next_cell c.args.f.now c.args.e.now c.edge.result.now.act
    (acts_along c.args.cfa.now c.args.behind.now) c.loop-cell.cell c.loop-cell.invariant
    (c.is_fine.ensures c.if-not-is_fine.false)

pub returns : goal.returns
returns c = λ g at yes. λ cell reads.
    let cfa = c.args.cfa.now in
    let acts = acts_along cfa c.args.behind.now in
    let same = ap (λ (o : Option Edge). unwrap_or o c.edge.result.now)
    (sym c.edge.ensures ∙ at) in
    let inside = inside_of cfa.cells c.args.f.now cell c.requires.expr reads in
    let long = c.cell_count-cell-end.ensures in
    let past = c.loop-cell-test.false in
    subst (λ (h : Edge). IsShared c.args.e.now h.act acts cell) same
    (c.loop-cell.invariant cell (omega (arith, inside, long, past)) reads)
