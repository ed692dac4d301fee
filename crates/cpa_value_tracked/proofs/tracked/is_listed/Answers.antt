-- A cell at its own place is listed, and another one can stand behind those alone.
use Rattle.std.proofs.Common.{rules, sym, ap, ◌∙◌}
use Rattle.std.specs.Prelude.{◌==◌}
use Rattle.std.specs.List.{list_any}
use Rattle.cpa_value_tracked.proofs.TrackedLemmas.{listed_own, listed_behind}
use Rattle.cpa_value_tracked.proofs.tracked.is_listed.Goals as goal

pub returns-then-cell-own : goal.returns-then-cell-own
returns-then-cell-own c =
    sym (listed_own c.args.cells.now c.own_places-own.result c.args.cell
    c.own_places-own.ensures.own (search rules))

pub returns : goal.returns
returns c =
    c.contains.ensures.value
    ∙ (ap (λ l. list_any (λ own. own == c.args.cell) l) (search rules)
    ∙ listed_behind c.args.cells.now c.own_places-own.result c.args.cell
    c.own_places-own.ensures.own (search rules))
