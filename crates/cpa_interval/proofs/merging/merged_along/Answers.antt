-- The cells that the new element lists, and then those of the old one.
use Rattle.std.proofs.Common.{ap, sym, ◌∙◌}
use Rattle.cpa_interval_bounds.specs.Tables.{known_bounds, ranges_of}
use Rattle.cpa_interval.proofs.MergedLemmas.{merged_both}
use Rattle.cpa_interval.proofs.merging.merged_along.Goals as goal

pub returns-clause-each : goal.returns-clause-each
returns-clause-each c =
    let cells = c.args.olds.now.cells in
    merged_both c.args.rule c.args.numbers.now cells c.of_types-all.result.cells
    c.merge_each.new.all.cells c.known-2.result.now c.known.result.now c.args.olds.now.each
    c.args.news.now.each c.of_types-all.result.each c.merge_each.new.all.each
    c.merge_each-2.new.all.each c.known-2.ensures.each
    (ap (λ l. known_bounds l c.known.result.now) (sym c.requires) ∙ c.known.ensures.each)
    (c.of_types-all.ensures.cells ∙ c.cells.ensures) c.merge_each.ensures.cells
    (c.of_types-all.ensures.each ∙ ap ranges_of c.cells.ensures)
    c.in_ok-merge_each.ensures.each c.in_ok-merge_each-2.ensures.each
