-- What is known of the cell, and else all numbers of its type.
use Rattle.std.proofs.Common.{ap, ◌∙◌, arith, length}
use Rattle.std.specs.Prelude.{slice_get}
use Rattle.cpa_interval_bounds.specs.Tables.{or_range}
use Rattle.cpa_interval_bounds.specs.lemmas.TableLemmas.{looked_up}
use Rattle.cpa_interval_bounds.proofs.table.bounds_among.Goals as goal

pub returns : goal.returns
returns c =
    let cells = c.args.cells.now in
    c.or_range.ensures
    ∙ (ap (λ o. or_range o (slice_get cells c.args.cell)) c.own_among.ensures
    ∙ looked_up (length cells) c.args.cell cells c.args.known.now c.requires (omega arith))
