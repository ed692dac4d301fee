-- The write, and then the new places.
use Rattle.cpa_edgeform.specs.Parts.{form_in, places_or}
use Rattle.cpa_edgeform.proofs.Additions.{write_added}
use Rattle.cpa_edgeform.proofs.adding.add_write.Goals as goal

pub returns-clause-ok : goal.returns-clause-ok
returns-clause-ok c =
    let form = form_in c.args.parts.now in
    let moved = c.in_ok-moved.moved in
    let same = c.as_slice-standing.ensures.value in
    write_added form (form_in c.join.new.parts) _ c.args.base c.args.len c.args.index.now
    c.args.value.now c.in_ok-asked.asked c.in_ok-draft.draft c.settle.new.draft
    c.assigned.new.draft (places_or moved form.places) c.in_ok-to.to
    c.in_ok-asked.ensures c.in_ok-draft.ensures
    (rw (c.as_slice.ensures, same) at c.in_ok-moved.ensures)
    (rw (c.places_or-places.ensures, same) at c.in_ok-to.ensures.assigned)
    c.in_ok-join.ensures.ok c.put_cells.ensures
