-- The marks as a list.
use Rattle.std.proofs.Common.{◌∙◌, ap, length}
use Rattle.std.specs.Prelude.{◌||◌, ◌&&◌, nat_lt}
use Rattle.cpa_query.specs.Queries.{is_marked, wanted_reads}
use Rattle.cpa_query.proofs.MarkLemmas.{marks_are}
use Rattle.cpa_query.proofs.reads.mark_query.Goals as goal

pub returns : goal.returns
returns c =
    let wanted = c.as_slice.result.now in
    let first = c.args.marks.now in
    marks_are (wanted_reads c.args.query.now.wanted) (length c.args.query.now.cells) first
    c.mark_wanted.new.marks c.requires.long c.mark_wanted.ensures.length c.requires.none
    (λ cell. c.mark_wanted.ensures.marks cell
    ∙ ap (λ es. is_marked first cell || (wanted_reads es cell && nat_lt cell (length first)))
    c.as_slice.ensures)
