-- A model of the query would extend to one of the refuted formula.
use Rattle.cpa_blast.specs.Formulas.{formula}
use Rattle.cpa_blast.specs.Laws.{IsBlastable}
use Rattle.cpa_solver.proofs.decisions.refuted.Goals as goal

pub returns : goal.returns
returns c =
    let q = c.args.query.now in
    let few : IsBlastable q =
    record { asked = c.requires.asked; few = c.has_few_cells.ensures } in (
      c.requires.found,
      λ values model.
          let extended = c.formulas_are_queries.ensures.complete q values few model in
          c.a_refuted_formula_has_no_model.ensures (formula q) c.args.lines.items extended.0
          c.requires.found.refutes extended.1.model,
    )
