-- A cell that has the bounds already, and one that is not there.
use Rattle.std.proofs.Common.{◌≡◌, sym, ap, ◌∙◌, arith}
use Rattle.std.specs.Prelude.{Some, slice_get}
use Rattle.cpa_interval_bounds.specs.Tables.{known_bounds}
use Rattle.cpa_interval_bounds.specs.lemmas.TableLemmas.{set_has, set_past, known_length}
use Rattle.cpa_interval_bounds.proofs.table.put_among.Goals as goal

pub returns-then-is_same-clause-each : goal.returns-then-is_same-clause-each
returns-then-is_same-clause-each c =
    let cells = c.args.cells.now in
    let items = c.args.known.now.items in
    let has : slice_get (known_bounds cells items) c.args.cell ≡ Some c.args.own =
    ap (λ ks. slice_get (known_bounds cells ks) c.args.cell) (sym c.as_slice.ensures.value)
    ∙ (sym c.bounds_among.ensures ∙ c.is_same.ensures c.if-is_same.true) in
    sym (set_has (known_bounds cells items) c.args.cell c.args.own has)

pub returns-else-cell-cells-clause-each : goal.returns-else-cell-cells-clause-each
returns-else-cell-cells-clause-each c =
    let cells = c.args.cells.now in
    let items = c.args.known.now.items in
    let long = known_length cells items in
    sym (set_past (known_bounds cells items) c.args.cell c.args.own
    (omega (arith, long, c.if-cell-cells.false)))
