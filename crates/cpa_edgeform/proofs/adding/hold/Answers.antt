-- The tests, and then their weight.
use Rattle.std.proofs.Common.{◌∙◌, Bool, List, ap}
use Rattle.cpa_expr.specs.declared.tree.Expr.{Expr}
use Rattle.cpa_form_rules.specs.Forms.{elem_weight, with_tests}
use Rattle.cpa_edgeform.specs.Parts.{form_in}
use Rattle.cpa_edgeform.proofs.Sums.{weighed_behind}
use Rattle.cpa_edgeform.proofs.adding.hold.Goals as goal

pub returns-clause-ok : goal.returns-clause-ok
returns-clause-ok c =
    let form = form_in c.args.parts.now in
    let same = c.as_slice-standing.ensures.value in
    weighed_behind (form_in c.add_tests.new.parts) _ _ c.elem_weight-weight.result
    (elem_weight form.places c.args.elem.now)
    (c.in_ok-add_tests.ensures.ok
    ∙ ap (λ (asked : List (Expr × Bool)). with_tests asked form)
    (c.as_slice.ensures ∙ (rw same at c.in_ok-asked.ensures)))
    (rw same at c.elem_weight-weight.ensures)
    c.weigh.ensures
