-- The tests are wanted at the places where they can be read.
use Rattle.std.proofs.Common.{◌≡◌, ◌∙◌, List, ap}
use Rattle.std.proofs.lemmas.Result.{on_ok_weaker}
use Rattle.cpa_form_renaming.specs.declared.places.Place.{Place}
use Rattle.cpa_form_rules.specs.Drafts.{placed, want_all}
use Rattle.cpa_form_rules.specs.Forms.{joined}
use Rattle.cpa_edgeform.specs.Parts.{form_in, places_or}
use Rattle.cpa_edgeform.proofs.Additions.{tests_added}
use Rattle.cpa_edgeform.proofs.adding.add_tests.Goals as goal

pub returns-clause-ok : goal.returns-clause-ok
returns-clause-ok c =
    let form = form_in c.args.parts.now in
    let moved = c.in_ok-moved.moved in
    let same = c.as_slice-standing.ensures.value in
    on_ok_weaker _
    (λ (is : form_in c.join.new.parts
    ≡ joined form (placed c.want_all.new.draft (places_or moved form.places))).
    tests_added form _ c.args.asked.now c.in_ok-draft.draft c.settle.new.draft
    c.want_all.new.draft (places_or moved form.places) c.in_ok-draft.ensures
    (rw same at c.in_ok-moved.ensures)
    (c.in_ok-want_all.ensures
    ∙ ap (λ (ps : List Place). want_all ps c.args.asked.now c.settle.new.draft)
    (c.places_or.ensures ∙ ap (places_or moved) same))
    is)
    c.join.ensures.ok
