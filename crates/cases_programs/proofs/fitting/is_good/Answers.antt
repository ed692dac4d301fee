use Rattle.std.proofs.Common.{◌≤◌, List, sym, subst}
use Rattle.cpa_expr.specs.Shape.{AreCells, type_of}
use Rattle.cpa_model.specs.declared.program.Cell.{Cell}
use Rattle.cpa_model.specs.Expressions.{IsExpr, types_of}
use Rattle.cases_programs.specs.Samples.{IsGood}
use Rattle.cases_programs.specs.Fits.{entry_of}
use Rattle.cases_programs.proofs.fitting.is_good.Goals as goal

pub returns-in-If : goal.returns-in-If
returns-in-If c = λ yes.
    let t = c.args.table.now in
    subst (IsGood t.program (entry_of t.owners) (entry_of t.levels) c.args.number)
    (sym c.in-If.is)
    (subst (λ (cells : List Cell). IsExpr cells c.in-If.test) c.as_slice-cells.ensures
    (c.is_expr.ensures.0 yes))

pub returns-in-Assign : goal.returns-in-Assign
returns-in-Assign c = λ yes.
    let t = c.args.table.now in
    let w = c.in-Assign in
    subst (IsGood t.program (entry_of t.owners) (entry_of t.levels) c.args.number)
    (sym c.in-Assign.is)
    (subst (λ (cells : List Cell). (1 ≤ w.len) × IsExpr cells w.index × IsExpr cells w.value
    × AreCells (types_of cells) w.base w.len (type_of w.value)) c.as_slice-cells.ensures (
      c.is_write.ensures.len yes,
      c.is_write.ensures.index yes,
      c.is_write.ensures.value yes,
      c.is_write.ensures.cells yes,
    ))
