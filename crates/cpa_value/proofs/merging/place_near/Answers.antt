use Rattle.std.proofs.Common.{sym, ap, ◌∙◌}
use Rattle.cpa_value.specs.Merging.{has_cell}
use Rattle.cpa_value.proofs.MergingLemmas.{near_place}
use Rattle.cpa_value.proofs.merging.place_near.Goals as goal

pub returns-then-has_cell : goal.returns-then-has_cell
returns-then-has_cell c = λ n ordered.
    near_place n c.args.cell c.args.near c.args.facts.now ordered
    (ap (has_cell c.args.cell) (sym c.get.ensures)
    ∙ (sym c.has_cell.ensures ∙ c.if-has_cell.true))
