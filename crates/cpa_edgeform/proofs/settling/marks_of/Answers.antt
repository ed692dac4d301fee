-- A mark for each cell.
use Rattle.std.proofs.Common.{◌∙◌, length, ap}
use Rattle.std.proofs.lemmas.List.{length-map}
use Rattle.std.proofs.lemmas.List.FromFn.{length-map-range_with_len}
use Rattle.cpa_query.specs.declared.query.Query.{Query}
use Rattle.cpa_query.specs.Queries.{wanted_reads}
use Rattle.cpa_form_renaming.specs.declared.places.Place.{Place}
use Rattle.cpa_edgeform.proofs.settling.marks_of.Goals as goal

pub returns-clause-long : goal.returns-clause-long
returns-clause-long c =
    let q = c.in_ok-query.query in
    ap length c.in_ok-marks.ensures
    ∙ length-map-range_with_len (wanted_reads q.wanted) 0 (length q.cells)
    ∙ ap (λ (q : Query). length q.cells) c.in_ok-query.ensures
    ∙ length-map c.args.places.now (λ (p : Place). p.ty)
