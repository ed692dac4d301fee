-- A new cell, the input, and the new place.
use Rattle.std.proofs.Common.{◌∙◌, ◌<◌, ℕ, List, ap, sym, subst}
use Rattle.std.specs.Prelude.{vec_len, vec_capacity}
use Rattle.std.specs.declared.vec.Vec.{Vec}
use Rattle.std.specs.declared.alloc.Global.{Global}
use Rattle.cpa_form_renaming.specs.declared.places.Place.{Place}
use Rattle.cpa_form_rules.specs.Drafts.{placed}
use Rattle.cpa_form_rules.specs.Tests.{type_at}
use Rattle.cpa_form_rules.specs.Forms.{Form, joined}
use Rattle.cpa_edgeform.specs.Parts.{form_in}
use Rattle.cpa_edgeform.proofs.Additions.{input_added}
use Rattle.cpa_edgeform.proofs.adding.add_input.Goals as goal

pub put_input-requires : goal.put_input-requires
put_input-requires c =
    subst (λ (v : Vec ℕ Global). vec_len v < vec_capacity v) (sym c.in_ok-join.ensures.inputs)
    c.in_ok-reserve_input.ensures.room

pub returns-clause-ok : goal.returns-clause-ok
returns-clause-ok c =
    let form = form_in c.args.parts.now in
    input_added form (form_in c.join.new.parts) _ c.args.cell c.in_ok-number.number
    c.type_at-ty.result c.in_ok-draft.draft c.fresh.new.draft
    (c.type_at-ty.ensures
    ∙ ap (λ (ps : List Place). type_at ps c.args.cell) c.as_slice.ensures.value)
    c.in_ok-draft.ensures c.in_ok-number.ensures.number c.in_ok-number.ensures.fresh
    (c.in_ok-join.ensures.ok
    ∙ ap (λ (f : Form). joined f (placed c.fresh.new.draft f.places))
    c.in_ok-reserve_input.ensures.same)
    c.put_input.ensures
