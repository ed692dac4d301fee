-- Of each element some denial is wanted at the places where all can be read.
use Rattle.std.proofs.Common.{◌≡◌, ◌∙◌, Bool, List, ap}
use Rattle.std.specs.List.{flat_map}
use Rattle.std.proofs.lemmas.Result.{on_ok_weaker}
use Rattle.cpa_expr.specs.declared.tree.Expr.{Expr}
use Rattle.cpa_form_rules.specs.Drafts.{placed}
use Rattle.cpa_form_rules.specs.Forms.{joined}
use Rattle.cpa_edgeform.specs.Parts.{form_in, places_or}
use Rattle.cpa_edgeform.proofs.Additions.{failing_added}
use Rattle.cpa_edgeform.proofs.adding.add_failing.Goals as goal

pub returns-clause-ok : goal.returns-clause-ok
returns-clause-ok c =
    let form = form_in c.args.parts.now in
    let moved = c.in_ok-moved.moved in
    let same = c.as_slice-standing.ensures.value in
    let denials = c.in_ok-denials.denials in
    let asked = c.in_ok-asked.asked in
    on_ok_weaker _
    (λ (is : form_in c.join.new.parts
    ≡ joined form (placed c.want_each.new.draft (places_or moved form.places))).
    failing_added form _ c.args.elems.now denials asked c.in_ok-draft.draft c.settle.new.draft
    c.want_each.new.draft (places_or moved form.places)
    (rw same at c.in_ok-denials.ensures)
    (c.in_ok-asked.ensures
    ∙ ap (λ (lists : List (List (Expr × Bool))). flat_map (λ tests. tests) lists)
    c.as_slice.ensures)
    c.in_ok-draft.ensures
    (rw (c.as_slice-2.ensures, same) at c.in_ok-moved.ensures)
    (rw (c.as_slice-3.ensures, c.places_or-places.ensures, same) at c.in_ok-want_each.ensures)
    is)
    c.join.ensures.ok
