-- The expression of a cut is well typed over the cells of the program.
use Rattle.std.proofs.Common.{Some, slice_get, sym, ap, ◌∙◌, subst, List}
use Rattle.cpa_cnf.specs.declared.formula.Line.{Line}
use Rattle.cpa_expr.specs.Shape.{IsTyped}
use Rattle.cpa_blast_circuits.specs.Laws.{CircuitsHaveValues}
use Rattle.cpa_blast.specs.Formulas.{formula}
use Rattle.cpa_model.specs.declared.program.Cell.{Cell}
use Rattle.cpa_model.specs.Expressions.{types_of}
use Rattle.cpa_form_rules.specs.Forms.{Form}
use Rattle.cpa_interpolant_bits.specs.Bits.{IsBitOf}
use Rattle.cpa_interpolant_bits.specs.Laws.{expressions_ask}
use Rattle.cpa_interpolant_conditions.specs.Interpolants.{interpolant_made}
use Rattle.cpa_interpolant_names.specs.declared.gathering.Meeting.{Meeting}
use Rattle.cpa_interpolant_names.specs.Meetings.{bit_at}
use Rattle.cpa_interpolant_names.specs.Laws.{names_are_bits}
use Rattle.cpa_interpolant_cuts.specs.Cuts.{meetings_of, formula_of, sides_at, shared_bits_of}
use Rattle.cpa_interpolant_cuts.specs.Cuts.{expr_of}
use Rattle.cpa_interpolant_cuts.specs.lemmas.Meet.{AreParts, cell_of}

module _ (circuits : CircuitsHaveValues) (cells : List Cell) (A B : Form)
    (are : AreParts cells A B) (log : List Line) where
  pub typed : IsTyped (types_of cells) (expr_of cells A B log)
  typed =
      let made = interpolant_made (formula_of cells A B) (sides_at A B) log in
      expressions_ask.typed (types_of cells) (shared_bits_of cells A B) made.nodes made.condition
      (λ v bit named.
      let found = names_are_bits.bit (formula A.query).vars (meetings_of cells A B) v bit named in
      let m = found.0 in
      let c = cell_of circuits cells A B are m found.2 in
      let here : IsBitOf (types_of cells) (bit_at m found.1) = record {
        at = ap (λ (u : Meeting). slice_get (types_of cells) u.cell) c.is
            ∙ (c.ty ∙ ap (λ (u : Meeting). Some u.ty) (sym c.is));
        inside = found.4;
      } in
      subst (IsBitOf (types_of cells)) (sym found.6) here)
