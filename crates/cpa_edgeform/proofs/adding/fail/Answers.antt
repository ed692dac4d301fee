-- The denials, and then their weight.
use Rattle.std.proofs.Common.{map}
use Rattle.std.specs.Prelude.{sum}
use Rattle.cpa_form_rules.specs.Forms.{elem_weight}
use Rattle.cpa_edgeform.specs.Parts.{form_in}
use Rattle.cpa_edgeform.proofs.Sums.{weighed_behind}
use Rattle.cpa_edgeform.proofs.adding.fail.Goals as goal

pub returns-clause-ok : goal.returns-clause-ok
returns-clause-ok c =
    let form = form_in c.args.parts.now in
    weighed_behind (form_in c.add_failing.new.parts) _ _ c.elems_weight-weight.result
    (sum (map (elem_weight form.places) c.args.elems.now)) c.in_ok-add_failing.ensures.ok
    (rw c.as_slice.ensures.value at c.elems_weight-weight.ensures)
    c.weigh.ensures
