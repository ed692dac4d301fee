-- The cell of a function's result.
use Rattle.std.proofs.Common.{ap, ◌∙◌}
use Rattle.c_types_rules.specs.Types.{object_type}
use Rattle.c_core_rules.specs.Values.{cell_at}
use Rattle.c_core_rules.specs.Expressions.{Frame}
use Rattle.c_lower_expressions.proofs.FramesAt.{frame_here, frame_past}
use Rattle.c_lower_expressions.proofs.frames.result_cell.Goals as goal

pub returns-in-Some : goal.returns-in-Some
returns-in-Some c =
    let h = c.in-Some.ensures.lookup in
    let found = c.in-Some.function.now in
    c.cell_at.ensures
    ∙ ap (λ t. cell_at t c.first_cell.result) c.object_type.ensures
    ∙ ap (λ n. cell_at (object_type found.result) n) c.first_cell.ensures
    ∙ ap (λ (f : Frame). f.result_cell)
    (frame_here c.args.first_cells.now c.args.functions.now c.args.body found h.3.0 h.1)

pub returns-in-None : goal.returns-in-None
returns-in-None c =
    ap (λ (f : Frame). f.result_cell)
    (frame_past c.args.first_cells.now c.args.functions.now c.args.body
    c.in-None.ensures.lookup.3)
