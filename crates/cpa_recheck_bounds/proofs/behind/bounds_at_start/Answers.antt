-- One cell more, and all cells.
use Rattle.std.proofs.Common.{◌≡◌, ◌+◌, ◌-◌, ap, ◌∙◌, arith}
use Rattle.std.specs.Prelude.{map, slice_set}
use Rattle.cpa_model.specs.declared.program.Cell.{Cell}
use Rattle.cpa_interval_bounds.specs.Bounds.{only}
use Rattle.cpa_recheck_bounds.proofs.Tables.{filled_first, filled_more, filled_all, starts_long}
use Rattle.cpa_recheck_bounds.proofs.Tables.{start_is}
use Rattle.cpa_recheck_bounds.proofs.behind.bounds_at_start.Goals as goal

pub loop-place-init : goal.loop-place-init
loop-place-init c =
    let cells = c.args.cells.now in
    filled_first cells (map (λ (cell : Cell). only cell.start) cells) c.of_types-all.result.each
    c.of_types-all.ensures.each (starts_long cells)

pub loop-place-preserved : goal.loop-place-preserved
loop-place-preserved c =
    let cells = c.args.cells.now in
    let place = c.loop-place.place in
    let next : place ≡ (place - 1) + 1 = omega arith in
    let cell = c.cell_at.result.now in
    filled_more place (place - 1) (map (λ (cell : Cell). only cell.start) cells)
    c.loop-place.all.each c.put.new.self.each (only cell.start) next
    (start_is cells (place - 1) cell c.cell_at.ensures)
    (c.in_ok-put.ensures.each ∙ ap (λ b. slice_set c.loop-place.all.each (place - 1) b)
    c.start_of.ensures)
    c.loop-place.invariant

pub returns : goal.returns
returns c =
    let place = c.loop-place.place in
    let none : place ≡ 0 = omega arith in
    filled_all place (map (λ (cell : Cell). only cell.start) c.args.cells.now)
    c.loop-place.all.each none c.loop-place.invariant
