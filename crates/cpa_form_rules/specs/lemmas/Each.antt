-- Each kind of what is added: what it does to the models.
use Rattle.std.proofs.Common.{◌≡◌, ℕ, ◌<◌, ◌≤◌, ◌^◌, ◌==◌, Bool, true, false, List, [], ◌∷◌}
use Rattle.std.proofs.Common.{refl, sym, subst, arith}
use Rattle.std.specs.Prelude.{if◌then◌else◌}
use Rattle.std.proofs.lemmas.Bool.{eqb-true}
use Rattle.cpa_expr.specs.declared.tree.Expr.{Expr}
use Rattle.cpa_expr.specs.Shape.{type_of, AreCells}
use Rattle.cpa_model.specs.declared.program.Cell.{Cell}
use Rattle.cpa_model.specs.Expressions.{types_of}
use Rattle.cpa_form_renaming.specs.Renaming.{renamed}
use Rattle.cpa_expr.specs.Cells.{scalar_read}
use Rattle.cpa_form_rules.specs.Drafts.{next, fresh, named, Placed, settled, block}
use Rattle.cpa_form_rules.specs.Drafts.{cell_written}
use Rattle.cpa_form_rules.specs.Drafts.{array_written}
use Rattle.cpa_form_rules.specs.Forms.{Form, draft_of, joined, with_write}
use Rattle.cpa_form_rules.specs.lemmas.Calls.{Fitted, Settles, settles, Askable}
use Rattle.cpa_form_rules.specs.lemmas.Changes.{WriteStep, write_of_block}
use Rattle.cpa_form_rules.specs.lemmas.Assigns.{one_cell, array_cells}

module _ (cells : List Cell) (form : Form) (fitted : Fitted cells form) (base : ℕ)
    (index value : Expr) where
  abbrev at : Placed
  at = settled ((index, true) ∷ (value, true) ∷ []) form.places (draft_of form)

  module _ (are : Settles cells form fitted ((index, true) ∷ (value, true) ∷ []) at) where
    by_length : (len : ℕ) → 1 ≤ len → len < 2 ^ 63
        → AreCells (types_of cells) base len (type_of value) → (b : Bool) → (len == 1) ≡ b
        → WriteStep cells form fitted base len index value
        (joined form (if b
        then cell_written base (renamed at.places index) (renamed at.places value) at
        else array_written base len (renamed at.places index) (renamed at.places value) at))
    by_length len some few are_cells true e =
        let one = eqb-true len 1 e in
        subst (λ n. WriteStep cells form fitted base n index value
        (joined form (cell_written base (renamed at.places index) (renamed at.places value) at)))
        (sym one)
        (write_of_block cells form fitted base 1 index value at are (next at.draft)
        (renamed at.places index) (fresh (type_of (renamed at.places value)) at.draft)
        (omega arith) (subst (λ n. AreCells (types_of cells) base n (type_of value)) one are_cells)
        (one_cell cells form fitted base index value at are))
    by_length len some few are_cells false e =
        let begun = named (renamed at.places index) at.draft in
        let read = scalar_read (type_of (renamed at.places index)) (next at.draft) in
        write_of_block cells form fitted base len index value at are (next begun) read
        (block at.places base (type_of (renamed at.places value)) read len begun) some are_cells
        (array_cells cells form fitted base index value at are len few are_cells)

  -- a write, whatever the length of the array
  pub write_step : (len : ℕ) → 1 ≤ len → len < 2 ^ 63
      → Askable cells form fitted (index, true) → Askable cells form fitted (value, true)
      → AreCells (types_of cells) base len (type_of value)
      → WriteStep cells form fitted base len index value (with_write base len index value form)
  write_step len some few fits also are_cells =
      by_length
      (settles cells form fitted ((index, true) ∷ (value, true) ∷ []) (fits, (also, tt)))
      len some few are_cells (len == 1) refl
